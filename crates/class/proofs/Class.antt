-- The class in one call: its promise leaves one outcome (`class-unique`), every input has one (`class-met`), each sheet's numbers stand at
-- its places (`class-numbers`), the places past them are as they were (`class-past`), and what a sheet gets does not depend on its
-- neighbours (`sheet-alone`). Assumes nothing.
use mathlib.Core.Path.{◌≡◌, refl, sym, ◌∙◌}
use mathlib.Core.Logic.{◌⊎◌, inl, inr}
use mathlib.Core.List.{List}
use Prim.Native.Nat.{ℕ, ◌*◌, ◌≤◌, ◌<◌}
use native.Mathlib.Decide.{dec_lt}
use native.Mathlib.Omega.{arith}
use lib.ListN.{length, get_or}
use Rattle.meaning.specs.Promises.{Lent, Outcome, Judged}
use Rattle.meaning.proofs.Meetable.{AsLong}
use Rattle.answers.specs.Answers.{class_refused}
use Rattle.class_ends.specs.Class.{numbers_each, sheet_at, Refused, no_room, Desk, InTurn, ClassJudged, turned_away, in_turn}
use Rattle.class_ends.specs.Ends.{Fair}
use Rattle.class_ends.proofs.Ends.{fair-not-refused, fair-or-refused}
use Rattle.class_ends.proofs.Turns.{as-long-then, in-turn-unique, in-turn-met, in-turn-got, in-turn-past, Stand, Got}
use Rattle.judge.proofs.Neighbours.{SameNumbers, judged-same-numbers}

-- The promise leaves one outcome: the number, the four slices and the numbers.
pub class-unique : {sheets ends : List ℕ} {before : Desk} {m n : ℕ} {x y : Desk}
    → ClassJudged sheets ends before m x → ClassJudged sheets ends before n y → (m ≡ n) × (x ≡ y)
class-unique (turned_away r p d) (turned_away s q e) = (p ∙ sym q, d ∙ sym e)
class-unique (turned_away r p d) (in_turn s q e) = absurd (s r)
class-unique (in_turn r p d) (turned_away s q e) = absurd (r s)
class-unique {sheets} {ends} {before} (in_turn r p d) (in_turn s q e) = (p ∙ sym q, in-turn-unique sheets ends before (length ends) d e)

-- Every input has an outcome that meets the promise.
pub class-met : (sheets ends : List ℕ) (before : Desk) → (n : ℕ) × (after : Desk) × ClassJudged sheets ends before n after
class-met sheets ends before = by (fair-or-refused (length sheets) ends (length before.numbers))
  where
    by : Fair (length sheets) ends (length before.numbers) ⊎ Refused (length sheets) ends (length before.numbers)
        → (n : ℕ) × (after : Desk) × ClassJudged sheets ends before n after
    by (inl F) =
        let (after, turn) = in-turn-met sheets ends before (length ends) in
        (0, after, in_turn (fair-not-refused F) refl turn)
    by (inr x) = (class_refused, before, turned_away x refl refl)

-- A class that is answered 0 was judged in turn, and its numbers had room.
turned : {sheets ends : List ℕ} {before after : Desk} → ClassJudged sheets ends before 0 after
    → InTurn sheets ends before (length ends) after × (length ends * numbers_each ≤ length before.numbers)
turned (turned_away r p d) = absurd (omega (arith, p))
turned {sheets} {ends} {before} (in_turn r p d) = (d, by (dec_lt (length before.numbers) (length ends * numbers_each)))
  where
    by : Dec (length before.numbers < length ends * numbers_each) → length ends * numbers_each ≤ length before.numbers
    by (yes short) = absurd (r (no_room short))
    by (no short) = omega arith

-- Where the answer is 0, answer, count, a and b of sheet i stand at places 4 i to 4 i + 3.
pub class-numbers : {sheets ends : List ℕ} {before after : Desk} → ClassJudged sheets ends before 0 after
    → (i : ℕ) → i < length ends → Got (sheet_at sheets ends i) (i * numbers_each) before after
class-numbers {sheets} {ends} {before} p i h =
    let t = turned p in
    in-turn-got sheets ends before (length ends) t.0 t.1 i h

-- Places of the number slice past four a sheet are as they were.
pub class-past : {sheets ends : List ℕ} {before after : Desk} → ClassJudged sheets ends before 0 after
    → (j : ℕ) → length ends * numbers_each ≤ j → get_or after.numbers j 0 ≡ get_or before.numbers j 0
class-past {sheets} {ends} {before} {after} p j h = in-turn-past sheets ends before (length ends) after (turned p).0 j h

-- Numbers that stand for an outcome stand for one with the same numbers.
stand-same : {numbers : List ℕ} {at : ℕ} {x y : Outcome} → SameNumbers x y → Stand numbers at x → Stand numbers at y
stand-same e s = record { answer = s.answer ∙ e.answer; count = s.count ∙ e.count; a = s.a ∙ e.a; b = s.b ∙ e.b }

-- What a sheet gets does not depend on its neighbours: its numbers are those of judging it alone with slices of these lengths, whatever
-- they hold.
pub sheet-alone : {sheets ends : List ℕ} {before after : Desk} → ClassJudged sheets ends before 0 after → (i : ℕ) → i < length ends
    → {lent : Lent} {alone : Outcome} → AsLong before.lent lent → Judged (sheet_at sheets ends i) lent alone
    → Stand after.numbers (i * numbers_each) alone
sheet-alone p i h long judged =
    let g = class-numbers p i h in
    stand-same (judged-same-numbers (as-long-then (back g.long) long) g.promise judged) g.stand
  where
    back : {x y : Lent} → AsLong x y → AsLong y x
    back L = record { table = sym L.table; words = sym L.words; scratch = sym L.scratch; run = sym L.run }
