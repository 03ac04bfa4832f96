-- A part of the distances is lent, and put back. Assumes nothing.
use mathlib.Core.Path.{◌≡◌, sym, ap, subst, ◌∙◌}
use mathlib.Core.List.{List, ◌++◌}
use Prim.Native.Nat.{ℕ, ◌+◌, ◌-◌, ◌≤◌, ◌<◌}
use native.Mathlib.Omega.{arith}
use lib.ListN.{length, get_or, take, drop, length-drop, length-append, get_or-append}
use lib.Seq.{length-take-le, get_or-append-add, get_or-take}
use Rattle.meaning.specs.System.{System}
use Rattle.distances.specs.Far.{Place, UnstruckIn, Measured}
use Rattle.distances.specs.Values.{Near}

-- Distances found in the part from `at` on, and put back into the whole.
pub near-measured : (S : System) (G : ℕ → Type 0) (table words : List ℕ) (r at : ℕ) (old part : List ℕ) → at + r ≤ length old
    → Near S G table words r part → Measured S G table words r at old (take at old ++ (part ++ drop (at + r - at) (drop at old)))
near-measured S G table words r at old part fits n = record {
  long =
      length-append (take at old) _ ∙ ap (λ (x : ℕ). length (take at old) + x) (length-append part _)
      ∙ (let a = n.long in let b = head in let c = length-drop (at + r - at) (drop at old) in let d = length-drop at old in omega arith);
  below = λ i h. get_or-append (take at old) _ 0 i (omega (arith, head)) ∙ get_or-take at old i 0 h;
  places = λ i h. subst (λ (x : ℕ). Place S (UnstruckIn table words r) G (get_or table i 0) (get_or words i 0) x) (sym (at_part i h))
      (n.places i h);
}
  where
    head : length (take at old) ≡ at
    head = length-take-le at old (omega arith)

    at_part : (i : ℕ) → i < r → get_or (take at old ++ (part ++ drop (at + r - at) (drop at old))) (at + i) 0 ≡ get_or part i 0
    at_part i h =
        subst (λ (x : ℕ). get_or (take at old ++ (part ++ drop (at + r - at) (drop at old))) (x + i) 0
        ≡ get_or (part ++ drop (at + r - at) (drop at old)) i 0) head (get_or-append-add (take at old) _ i 0)
        ∙ get_or-append part _ 0 i (let a = n.long in omega arith)
