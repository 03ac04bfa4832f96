-- A run paper is accepted exactly if its endless reading obeys, over any system. Document 01, "The two checkers", first paragraph.
-- accepted-obeys, obeys-accepted and run-accepted-exactly. Assumes nothing.
use mathlib.Core.Path.{◌≡◌, sym, subst, subst₂}
use mathlib.Core.Logic.{◌↔◌}
use mathlib.Core.List.{List}
use Prim.Native.Nat.{ℕ, suc, ◌≤◌, ◌<◌}
use native.Mathlib.Decide.{dec_lt}
use native.Mathlib.Omega.{arith}
use lib.ListN.{length, get_or}
use Rattle.meaning.specs.System.{System, Obeys}
use Rattle.meaning.specs.Papers.{RunAccepted, place, reading}
use Rattle.meaning.proofs.Places.{place-goes-on, place-turns, place-below, place-early, place-in-loop, place-returns}

-- An accepted paper, read endlessly, obeys.
pub accepted-obeys : {S : System} {states : List ℕ} {a : ℕ} → RunAccepted S states a → Obeys S (reading states a)
accepted-obeys {S} {states} {a} h = record { run = record { starts = h.first; goes = goes }; keeps = keeps }
  where
    goes : (i : ℕ) → S.Move (reading states a i) (reading states a (suc i))
    goes i = by (dec_lt (suc (place a (length states) i)) (length states))
      where
        by : Dec (suc (place a (length states) i) < length states) → S.Move (reading states a i) (reading states a (suc i))
        by (yes q) = rw (place-goes-on a (length states) i q) (h.moves _ q)
        by (no q) =
            let w : place a (length states) i < length states = place-below a (length states) i h.back in
            rw (place-turns a (length states) i (omega arith)) (h.closes _ (omega arith))

    keeps : (k : ℕ) → k < S.promises → (i : ℕ) → (j : ℕ) × (i ≤ j) × S.Kept k (reading states a j)
    keeps k m i =
        let g = h.keeps k m in
        let r = place-returns a (length states) g.0 i g.1 g.2 in
        (r.0, r.1, subst (λ (p : ℕ). S.Kept k (get_or states p 0)) (sym r.2) g.3)

-- A paper whose endless reading obeys is accepted.
pub obeys-accepted : {S : System} {states : List ℕ} {a : ℕ} → a < length states → Obeys S (reading states a) → RunAccepted S states a
obeys-accepted {S} {states} {a} h o = record { back = h; first = o.run.starts; moves = moves; closes = closes; keeps = keeps }
  where
    moves : (i : ℕ) → suc i < length states → S.Move (get_or states i 0) (get_or states (suc i) 0)
    moves i q = subst₂ (λ (p r : ℕ). S.Move (get_or states p 0) (get_or states r 0))
        (place-early a (length states) i (omega arith)) (place-early a (length states) (suc i) q) (o.run.goes i)

    closes : (i : ℕ) → suc i ≡ length states → S.Move (get_or states i 0) (get_or states a 0)
    closes i q =
        let e : place a (length states) i ≡ i = place-early a (length states) i (omega arith) in
        subst₂ (λ (p r : ℕ). S.Move (get_or states p 0) (get_or states r 0)) e (place-turns a (length states) i (omega arith)) (o.run.goes i)

    keeps : (k : ℕ) → k < S.promises → (i : ℕ) × (a ≤ i) × (i < length states) × S.Kept k (get_or states i 0)
    keeps k m =
        let g = o.keeps k m a in
        (place a (length states) g.0, place-in-loop a (length states) g.0 g.1, place-below a (length states) g.0 h, g.2)

-- A run paper is accepted exactly if it goes back to one of its states and its endless reading obeys.
pub run-accepted-exactly : (S : System) (states : List ℕ) (a : ℕ) → RunAccepted S states a ↔ ((a < length states)
    × Obeys S (reading states a))
run-accepted-exactly S states a = (λ h. (h.back, accepted-obeys h), λ p. obeys-accepted p.0 p.1)
