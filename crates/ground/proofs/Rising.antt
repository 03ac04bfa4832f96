-- The front of a list that rises strictly, at any two of its places: rises-apart, rises-le. Assumes nothing.
use mathlib.Core.Path.{◌≡◌, subst}
use mathlib.Core.List.{List}
use Prim.Native.Nat.{ℕ, ◌≤◌, ◌<◌}
use native.Mathlib.Decide.{ℕ_discrete}
use native.Mathlib.Omega.{arith}
use lib.ListN.{get_or}
use Rattle.meaning.proofs.Lists.{rising-apart}
use Rattle.ground.specs.Listed.{Rises}

-- An earlier place holds the smaller number.
pub rises-apart : (l : List ℕ) {n : ℕ} → Rises l n → (i j : ℕ) → i < j → j < n → get_or l i 0 < get_or l j 0
rises-apart l R i j h k = rising-apart ◌<◌ (λ a b c p q. omega arith) (λ a p. omega arith) {f = λ i. get_or l i 0} R i j h k

-- No earlier place holds a larger number.
pub rises-le : (l : List ℕ) {n : ℕ} → Rises l n → (i j : ℕ) → i ≤ j → j < n → get_or l i 0 ≤ get_or l j 0
rises-le l R i j h k = by (ℕ_discrete i j)
  where
    by : Dec (i ≡ j) → get_or l i 0 ≤ get_or l j 0
    by (yes e) = subst (λ (m : ℕ). get_or l i 0 ≤ get_or l m 0) e (omega arith)
    by (no e) = let m = rises-apart l R i j (omega arith) k in omega arith
