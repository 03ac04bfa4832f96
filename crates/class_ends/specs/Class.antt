-- The whole class in one call. Document 02, order 4: "A teacher hands over up to 32 sheets joined, with the place where each ends, and a
-- slice for four numbers a sheet: answer, count, a, b. The numbers, and the four lent slices at the end, are those of calling the judge on
-- each sheet in turn with the same slices." What the call refuses, what it promises otherwise. Assumes nothing.
use Rattle.std.specs.Prelude.{◌≡◌, List, ℕ, zero, suc, ◌+◌, ◌-◌, ◌*◌, ◌<◌, length, get_or, take, drop, set}
use Rattle.meaning.specs.Promises.{Lent, Outcome, Judged}
use Rattle.answers.specs.Answers.{class_refused}

-- "up to 32 sheets"; "four numbers a sheet"
abbrev pub most_sheets : ℕ
most_sheets = 32

abbrev pub numbers_each : ℕ
numbers_each = 4

-- ---- the joined sheets

-- Where sheet i starts: at the end before it, the first at 0.
unfoldable pub start_of : (ends : List ℕ) → ℕ → ℕ
start_of ends zero = 0
start_of ends (suc i) = get_or ends i 0

-- The bytes of sheet i: from where it starts up to its own end. Where the two are equal the sheet is empty.
unfoldable pub sheet_at : (sheets ends : List ℕ) → ℕ → List ℕ
unfolding start_of
sheet_at sheets ends i = take (get_or ends i 0 - start_of ends i) (drop (start_of ends i) sheets)

-- "Ends that fall or pass the input, a last end that isn't the input's length, over 32 sheets, or too short a slice for the numbers"; "no
-- ends with some input": all that is refused. The input has `size` bytes, the slice for the numbers `room` places.
pub data Refused (size : ℕ) (ends : List ℕ) (room : ℕ) : Type 0 where
  falls : (i : ℕ) → suc i < length ends → get_or ends (suc i) 0 < get_or ends i 0 → Refused size ends room
  passes : (i : ℕ) → i < length ends → size < get_or ends i 0 → Refused size ends room
  unfinished : (i : ℕ) → suc i ≡ length ends → (get_or ends i 0 ≡ size → ⊥) → Refused size ends room
  many : most_sheets < length ends → Refused size ends room
  no_room : room < length ends * numbers_each → Refused size ends room
  no_ends : length ends ≡ 0 → 0 < size → Refused size ends room

-- ---- judged in turn

-- what a call of the judge finds and leaves here: the four lent slices and the slice for the numbers
pub record Desk : Type 0 where
  pub lent : Lent
  pub numbers : List ℕ

-- the four numbers of a sheet stored from place `at` on: answer, count, a, b
unfoldable pub stored : (at answer count a b : ℕ) → List ℕ → List ℕ
stored at answer count a b numbers = set (set (set (set numbers at answer) (at + 1) count) (at + 2) a) (at + 3) b

-- those that the judge gave it
unfoldable pub noted : (at : ℕ) → Outcome → List ℕ → List ℕ
unfolding stored
noted at o numbers = stored at o.answer o.count o.a o.b numbers

-- One sheet judged with the slices as they are found. It leaves what the judge leaves, and its numbers from place `at` on.
pub record OneJudged (sheet : List ℕ) (at : ℕ) (before after : Desk) : Type 0 where
  pub got : Outcome
  pub promise : Judged sheet before.lent got
  pub lent_left : after.lent ≡ got.leaves
  pub numbers_left : after.numbers ≡ noted at got before.numbers

-- The first i sheets judged in turn, each call finding what the one before it left; sheet i's numbers start at place 4 i.
unfoldable pub InTurn : (sheets ends : List ℕ) (before : Desk) → ℕ → Desk → Type 0
InTurn sheets ends before zero after = after ≡ before
InTurn sheets ends before (suc i) after =
    (mid : Desk) × InTurn sheets ends before i mid × OneJudged (sheet_at sheets ends i) (i * numbers_each) mid after

-- The promise of the call. "16 before any sheet, nothing changed"; otherwise 0, and all sheets are judged in turn. With no ends and no
-- input that is no sheet, and nothing is changed.
pub data ClassJudged (sheets ends : List ℕ) (before : Desk) (n : ℕ) (after : Desk) : Type 0 where
  turned_away : Refused (length sheets) ends (length before.numbers) → n ≡ class_refused → after ≡ before
      → ClassJudged sheets ends before n after
  in_turn : (Refused (length sheets) ends (length before.numbers) → ⊥) → n ≡ 0 → InTurn sheets ends before (length ends) after
      → ClassJudged sheets ends before n after
