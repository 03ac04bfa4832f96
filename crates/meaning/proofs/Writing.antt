-- Writing lists into a lent slice, one after the other: where the first ends the second begins, and past the end nothing changes.
-- Assumes nothing.
use mathlib.Core.Path.{◌≡◌, refl, sym, ap, ◌∙◌}
use mathlib.Core.List.{List, [], ◌∷◌, ◌++◌}
use Prim.Native.Nat.{ℕ, suc, ◌+◌, ◌≤◌}
use native.Mathlib.Nat.{add-zero}
use native.Mathlib.Omega.{arith}
use lib.ListN.{length, set}
use lib.Seq.{sets, set_out}

-- one list after another is both in one
pub sets-append : (l : List ℕ) (i : ℕ) (a b : List ℕ) → sets l i (a ++ b) ≡ sets (sets l i a) (i + length a) b
sets-append l i [] b = ap (λ (n : ℕ). sets l n b) (sym (add-zero i))
sets-append l i (x ∷ a) b =
    let e : suc i + length a ≡ i + suc (length a) = omega arith in
    sets-append (set l i x) (suc i) a b ∙ ap (λ (n : ℕ). sets (sets (set l i x) (suc i) a) n b) e

-- past the end nothing changes
pub sets-past : (l : List ℕ) (i : ℕ) (a : List ℕ) → length l ≤ i → sets l i a ≡ l
sets-past l i [] h = refl
sets-past l i (x ∷ a) h =
    let e = set_out l i x h in
    ap (λ (m : List ℕ). sets m (suc i) a) e ∙ sets-past l (suc i) a (omega arith)
