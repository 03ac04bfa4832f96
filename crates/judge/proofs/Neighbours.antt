-- The judge's numbers depend on the sheet and on the lengths of the four slices, and not on what the slices hold. Assumes nothing.
use mathlib.Core.Path.{◌≡◌, refl, sym, subst}
use mathlib.Core.List.{List}
use Prim.Native.Nat.{ℕ, ◌≤◌, ◌<◌, ◌/◌, min}
use lib.ListN.{length}
use Rattle.meaning.specs.Promises.{Lent, Outcome, most_states, capacity, Finding, bad, crowded, short, can, cannot, Roomy, Found, outcome}
use Rattle.meaning.specs.Promises.{Judged}
use Rattle.meaning.proofs.Promised.{judged-unique}
use Rattle.meaning.proofs.Meetable.{AsLong}

-- Slices of the same lengths have room for as many states.
pub capacity-same : {x y : Lent} → AsLong x y → capacity x ≡ capacity y
unfolding capacity
capacity-same L = sym (λ i. min (min (L.table i) (L.words i)) (min (L.scratch i / 2) most_states))

-- A sheet with room has it in slices of the same lengths.
roomy-same : {sheet : List ℕ} {x y : Lent} → AsLong x y → Roomy sheet x → Roomy sheet y
roomy-same L r = record {
  good = r.good;
  reached = r.reached;
  number = r.number;
  room = subst (λ (c : ℕ). r.reached ≤ c) (capacity-same L) r.room;
}

-- What is found with some slices is found with all of the same lengths.
pub found-same : (sheet : List ℕ) {x y : Lent} → AsLong x y → (f : Finding) → Found sheet x f → Found sheet y f
found-same sheet L (bad f) p = p
found-same sheet L crowded p = (p.0, (p.1.0, p.1.1, subst (λ (c : ℕ). c < p.1.0) (capacity-same L) p.1.2))
found-same sheet L (short b) p = (roomy-same L p.0, p.1, p.2, subst (λ (n : ℕ). n < b) (sym L.run) p.3)
found-same sheet L (can l states a) p =
    (roomy-same L p.0, p.1, p.2, p.3, subst (λ (n : ℕ). length states ≤ n) (sym L.run) p.4)
found-same sheet L (cannot states words) p = (roomy-same L p.0, p.1, p.2)

-- two outcomes with the same five numbers
pub record SameNumbers (x y : Outcome) : Type 0 where
  pub answer : x.answer ≡ y.answer
  pub count : x.count ≡ y.count
  pub a : x.a ≡ y.a
  pub b : x.b ≡ y.b
  pub place : x.place ≡ y.place

-- A finding settles the numbers, whatever the slices hold.
outcome-numbers : (x y : Lent) (f : Finding) → SameNumbers (outcome x f) (outcome y f)
unfolding outcome
outcome-numbers x y (bad f) = record { answer = refl; count = refl; a = refl; b = refl; place = refl }
outcome-numbers x y crowded = record { answer = refl; count = refl; a = refl; b = refl; place = refl }
outcome-numbers x y (short n) = record { answer = refl; count = refl; a = refl; b = refl; place = refl }
outcome-numbers x y (can l states n) = record { answer = refl; count = refl; a = refl; b = refl; place = refl }
outcome-numbers x y (cannot states words) = record { answer = refl; count = refl; a = refl; b = refl; place = refl }

-- The judge's numbers are the same with all slices of the same lengths.
pub judged-same-numbers : {sheet : List ℕ} {x y : Lent} {o o' : Outcome} → AsLong x y → Judged sheet x o → Judged sheet y o'
    → SameNumbers o o'
judged-same-numbers {sheet} {x} {y} {o} {o'} L p q =
    let again : Judged sheet y (outcome y p.finding) =
    record { finding = p.finding; found = found-same sheet L p.finding p.found; returned = refl } in
    subst (SameNumbers o) (judged-unique again q)
    (subst (λ (w : Outcome). SameNumbers w (outcome y p.finding)) (sym p.returned) (outcome-numbers x y p.finding))
