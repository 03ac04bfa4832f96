-- The room for states: what C bounds; and that the promise over a book's system asks of the lent slices only how long they are and what
-- the run slice holds. Assumes nothing.
use mathlib.Core.Path.{◌≡◌, refl, subst, ◌∙◌}
use mathlib.Core.List.{List}
use Prim.Native.Nat.{ℕ, ◌*◌, ◌/◌, ◌≤◌, ◌<◌, min}
use native.Mathlib.Omega.{arith}
use lib.ListN.{length}
use Rattle.meaning.specs.System.{System}
use Rattle.meaning.specs.Promises.{Lent, Outcome, Finding, bad, crowded, short, can, cannot, capacity, most_states, over, zeros, cleared}
use Rattle.meaning.specs.Promises.{outcome}
use Rattle.judge_answer.specs.Judging.{RoomFor, FoundBy, JudgedBy, lent_of}
use Rattle.judge_answer.proofs.Wiping.{zeros-same}

-- r states have room in every slice, twice in the scratch
pub record Places (lent : Lent) (r : ℕ) : Type 0 where
  pub in_table : r ≤ length lent.table
  pub in_words : r ≤ length lent.words
  pub in_scratch : 2 * r ≤ length lent.scratch
  pub small : r ≤ most_states

-- What is at most C has room.
pub capacity-places : (lent : Lent) (r : ℕ) → r ≤ capacity lent → Places lent r
unfolding capacity
capacity-places lent r h = record { in_table = omega arith; in_words = omega arith; in_scratch = omega arith; small = omega arith }

-- C by the lengths of three slices.
pub capacity-is : (table words scratch run : List ℕ)
    → min (min (length table) (length words)) (min (length scratch / 2) most_states) ≡ capacity (lent_of table words scratch run)
unfolding capacity
capacity-is table words scratch run = refl

-- slices as long, and the same run
pub record Alike (lent lent' : Lent) : Type 0 where
  pub table_long : length lent.table ≡ length lent'.table
  pub words_long : length lent.words ≡ length lent'.words
  pub scratch_long : length lent.scratch ≡ length lent'.scratch
  pub run_same : lent.run ≡ lent'.run

-- Slices as long have the same C.
pub capacity-same : {lent lent' : Lent} → Alike lent lent' → capacity lent ≡ capacity lent'
unfolding capacity
capacity-same s = λ i. min (min (s.table_long i) (s.words_long i)) (min (s.scratch_long i / 2) most_states)

-- They have room for the same states.
pub room-same : {S : System} {lent lent' : Lent} → Alike lent lent' → RoomFor S lent → RoomFor S lent'
room-same s r = record { reached = r.reached; number = r.number; room = subst (λ c. r.reached ≤ c) (capacity-same s) r.room }

found-same : (S : System) {lent lent' : Lent} → Alike lent lent' → (x : Finding) → FoundBy S lent x → FoundBy S lent' x
found-same S s (bad f) never = never
found-same S s crowded many = λ r number. subst (λ c. c < r) (capacity-same s) (many r number)
found-same S s (short b) (room, kept, paper, long) = (
  room-same s room,
  kept,
  paper,
  subst (λ (l : List ℕ). length l < b)
      s.run_same long,
)
found-same S s (can livable states a) (room, kept, lists, paper, fits) =
    (room-same s room, kept, lists, paper, subst (λ (l : List ℕ). length states ≤ length l) s.run_same fits)
found-same S s (cannot states words) (room, never, list) = (room-same s room, never, list)

-- Slices as long become the same zeros.
module _ {lent lent' : Lent} (s : Alike lent lent') where
  table-zeros : zeros lent.table ≡ zeros lent'.table
  table-zeros = zeros-same lent.table lent'.table s.table_long

  words-zeros : zeros lent.words ≡ zeros lent'.words
  words-zeros = zeros-same lent.words lent'.words s.words_long

  scratch-zeros : zeros lent.scratch ≡ zeros lent'.scratch
  scratch-zeros = zeros-same lent.scratch lent'.scratch s.scratch_long

outcome-same : (S : System) {lent lent' : Lent} → Alike lent lent' → (x : Finding) → FoundBy S lent x → outcome lent x ≡ outcome lent' x
unfolding outcome cleared
outcome-same S s (bad f) never = absurd never
outcome-same S s crowded found = λ i.
    let leaves = lent_of (table-zeros s i) (words-zeros s i) (scratch-zeros s i) (s.run_same i) in
    record { answer = 11; count = 0; a = 0; b = 0; place = 0; leaves = leaves }
outcome-same S s (short b) found = λ i.
    let leaves = lent_of (table-zeros s i) (words-zeros s i) (scratch-zeros s i) (s.run_same i) in
    record { answer = 12; count = 0; a = 0; b = b; place = 0; leaves = leaves }
outcome-same S s (can livable states a) found = λ i.
    let leaves = lent_of (over livable (table-zeros s i)) (words-zeros s i) (scratch-zeros s i) (over states (s.run_same i)) in
    record { answer = 0; count = length livable; a = a; b = length states; place = 0; leaves = leaves }
outcome-same S s (cannot states words) found = λ i.
    let leaves = lent_of (over states (table-zeros s i)) (over words (words-zeros s i)) (scratch-zeros s i) (s.run_same i) in
    record { answer = 13; count = length states; a = 0; b = 0; place = 0; leaves = leaves }

-- The promise holds of slices as long with the same run.
pub judged-alike : {S : System} {lent lent' : Lent} {o : Outcome} → Alike lent lent' → JudgedBy S lent o → JudgedBy S lent' o
judged-alike {S} s j = record {
  finding = j.finding;
  found = found-same S s j.finding j.found;
  returned = j.returned ∙ outcome-same S s j.finding j.found;
}
