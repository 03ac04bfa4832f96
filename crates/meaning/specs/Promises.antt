-- What every public call promises. Document 01, "The two checkers" and "Numbers returned, and what the lent slices then hold". No call
-- has a precondition; each promise leaves one outcome for every input (proofs/Promised.antt), and every input has one. Assumes nothing.
use Rattle.std.specs.Prelude.{◌≡◌, List, [], ◌∷◌, ◌++◌, ℕ, zero, suc, ◌+◌, ◌*◌, ◌/◌, ◌%◌, ◌≤◌, ◌<◌, min, length, take, drop, replicate}
use Rattle.std.proofs.Math.Option.{Option, none, some}
use Rattle.meaning.specs.System.{System, CanBeKept, Livable, Lists, IsR}
use Rattle.meaning.specs.Strike.{StrikeList}
use Rattle.meaning.specs.Sample.{RunPaper}
use Rattle.meaning.specs.Papers.{RunAccepted, StrikesAccepted}
use Rattle.meaning.specs.Sheet.{Fault, number_of, first_fault, decode}
use Rattle.meaning.specs.Rules.{system_of}

-- the system of a good sheet's bytes
unfoldable pub system_in : List ℕ → System
unfolding system_of decode
system_in sheet = system_of (decode sheet)

-- ---- the reader: 0 for a good sheet, or the number of the first fault and its place. It changes nothing.

unfoldable pub read_number : Option Fault → ℕ
read_number none = 0
read_number (some f) = number_of f.why

-- the number alone, as naxxurbi_read answers it
unfoldable pub ReadSays : List ℕ → ℕ → Type 0
unfolding read_number first_fault
ReadSays sheet n = n ≡ read_number (first_fault sheet)

-- Document 02, order 1: "Answers 1 to 10 from the reader, the judge and both checkers now also return a place .. It is passed on unaltered,
-- 0 on other answers." A call answers 1 to 10 exactly where the sheet has a first fault, so its place is settled by the sheet alone.
unfoldable pub place_of : Option Fault → ℕ
place_of none = 0
place_of (some f) = f.at

-- n is what `Says` promises of a call's number, and the place is that of the sheet's first fault, 0 where it has none
pub record Placed (sheet : List ℕ) (Says : ℕ → Type 0) (n place : ℕ) : Type 0 where
  pub number : Says n
  pub where_met : place ≡ place_of (first_fault sheet)

-- the reader's number and place
unfoldable pub ReadPlaced : (sheet : List ℕ) (n place : ℕ) → Type 0
unfolding ReadSays
ReadPlaced sheet n place = Placed sheet (ReadSays sheet) n place

-- The reader's C form with the place, which returns nothing else: number and place in `out`, in this order. What stood in `out` before
-- plays no part, and it is written for every sheet.
pub record ReadOut (sheet out : List ℕ) : Type 0 where
  pub number : ℕ
  pub place : ℕ
  pub promise : ReadPlaced sheet number place
  pub written : out ≡ number ∷ place ∷ []

-- ---- the checkers: "they change nothing" (they are lent nothing that can be changed). On numbers they return a number and, since order 1,
-- a place; the firmware's calls return the number alone.

-- "A checker's 1 to 10 before 14": n is the number for a sheet, where a paper is accepted exactly if Ok holds.
pub data Checked (sheet : List ℕ) (Ok : System → Type 0) (n : ℕ) : Type 0 where
  faulty : (f : Fault) → first_fault sheet ≡ some f → n ≡ number_of f.why → Checked sheet Ok n
  accepted : first_fault sheet ≡ none → Ok (system_in sheet) → n ≡ 0 → Checked sheet Ok n
  refused : first_fault sheet ≡ none → (Ok (system_in sheet) → ⊥) → n ≡ 14 → Checked sheet Ok n

-- the run checker and the strike-list checker, on numbers
unfoldable pub RunChecked : (sheet states : List ℕ) (a n : ℕ) → Type 0
RunChecked sheet states a n = Checked sheet (λ S. RunAccepted S states a) n

unfoldable pub StrikesChecked : (sheet states words : List ℕ) (n : ℕ) → Type 0
StrikesChecked sheet states words n = Checked sheet (λ S. StrikesAccepted S states words) n

-- the same with the place
unfoldable pub RunPlaced : (sheet states : List ℕ) (a n place : ℕ) → Type 0
unfolding RunChecked
RunPlaced sheet states a n place = Placed sheet (RunChecked sheet states a) n place

unfoldable pub StrikesPlaced : (sheet states words : List ℕ) (n place : ℕ) → Type 0
unfolding StrikesChecked
StrikesPlaced sheet states words n place = Placed sheet (StrikesChecked sheet states words) n place

-- "each state or word is four bytes, big-endian"
unfoldable pub state_bytes : ℕ
state_bytes = 4

unfoldable pub word_bytes : ℕ
word_bytes = 4

-- the number that bytes stand for, the highest first; `high` is what stood before them
unfoldable pub big_endian : ℕ → List ℕ → ℕ
big_endian high [] = high
big_endian high (b ∷ bs) = big_endian (high * 256 + b) bs

-- `count` numbers of `width` bytes each
unfoldable pub numbers_from : (width count : ℕ) → List ℕ → List ℕ
unfolding big_endian
numbers_from width zero bytes = []
numbers_from width (suc count) bytes = big_endian 0 (take width bytes) ∷ numbers_from width count (drop width bytes)

-- "and a length that isn't a multiple of four gets 14": bytes that hold whole numbers, and these numbers
unfoldable pub Whole : ℕ → List ℕ → Type 0
Whole width bytes = length bytes % width ≡ 0

unfoldable pub numbers_in : ℕ → List ℕ → List ℕ
unfolding numbers_from
numbers_in width bytes = numbers_from width (length bytes / width) bytes

-- the firmware's two calls, on bytes
unfoldable pub RunBytesChecked : (sheet states : List ℕ) (a n : ℕ) → Type 0
unfolding state_bytes
RunBytesChecked sheet states a n =
    Checked sheet (λ S. Whole state_bytes states × RunAccepted S (numbers_in state_bytes states) a) n

unfoldable pub StrikesBytesChecked : (sheet states words : List ℕ) (n : ℕ) → Type 0
unfolding state_bytes word_bytes
StrikesBytesChecked sheet states words n =
    Checked sheet
    (λ S. Whole state_bytes states × Whole word_bytes words × StrikesAccepted S (numbers_in state_bytes states) (numbers_in word_bytes words)) n

-- ---- the judge

-- "The judge is lent four slices of 32-bit numbers: table, words, scratch, run."
pub record Lent : Type 0 where
  pub table : List ℕ
  pub words : List ℕ
  pub scratch : List ℕ
  pub run : List ℕ

-- "It returns an answer, a count, a and b", since order 1 also a place, and leaves the four slices.
pub record Outcome : Type 0 where
  pub answer : ℕ
  pub count : ℕ
  pub a : ℕ
  pub b : ℕ
  pub place : ℕ
  pub leaves : Lent

abbrev pub most_states : ℕ
most_states = 16384

-- "C is the least of the table's length, the words' length, half the scratch length rounded down, and 16,384."
unfoldable pub capacity : Lent → ℕ
capacity lent = min (min (length lent.table) (length lent.words)) (min (length lent.scratch / 2) most_states)

-- What a judge can find: a fault; R above C; that the sheet can be kept, but the run needs b places; that it can be kept, by these
-- livable states and this run; that it cannot be kept, by this strike list.
pub data Finding : Type 0 where
  bad : Fault → Finding
  crowded : Finding
  short : (b : ℕ) → Finding
  can : (livable states : List ℕ) (a : ℕ) → Finding
  cannot : (states words : List ℕ) → Finding

-- a good sheet whose R states have room
pub record Roomy (sheet : List ℕ) (lent : Lent) : Type 0 where
  pub good : first_fault sheet ≡ none
  pub reached : ℕ
  pub number : IsR (system_in sheet) reached
  pub room : reached ≤ capacity lent

-- "A bad sheet comes before 11, 11 before 12": when each finding is the true one. Of 11: "R above C, and
-- only then". (That an obeying run exists would follow from the run paper; it is said because demand 2 says it.)
abbrev pub Found : List ℕ → Lent → Finding → Type 0
Found sheet lent (bad f) = first_fault sheet ≡ some f
Found sheet lent crowded =
    (first_fault sheet ≡ none) × ((r : ℕ) × IsR (system_in sheet) r × (capacity lent < r))
Found sheet lent (short b) =
    Roomy sheet lent × CanBeKept (system_in sheet)
    × ((states : List ℕ) × (a : ℕ) × RunPaper (system_in sheet) states a × (length states ≡ b)) × (length lent.run < b)
Found sheet lent (can livable states a) =
    Roomy sheet lent × CanBeKept (system_in sheet)
    × Lists (Livable (system_in sheet)) livable × RunPaper (system_in sheet) states a × (length states ≤ length lent.run)
Found sheet lent (cannot states words) =
    Roomy sheet lent × (CanBeKept (system_in sheet) → ⊥) × StrikeList (system_in sheet) states words

-- a slice's contents with l written over its front; and a slice all zero, over its whole length
unfoldable pub over : List ℕ → List ℕ → List ℕ
over l slice = l ++ drop (length l) slice

unfoldable pub zeros : List ℕ → List ℕ
zeros slice = replicate (length slice) 0

-- "table, words, scratch zero; run unchanged"
unfoldable pub cleared : Lent → Lent
unfolding zeros
cleared lent = record { table = zeros lent.table; words = zeros lent.words; scratch = zeros lent.scratch; run = lent.run }

-- The table of numbers: what is returned and left for each finding. "Fields not named below are 0." The count of a strike list is R,
-- that of a kept sheet K. Only a bad sheet has a place, its fault's.
unfoldable pub outcome : Lent → Finding → Outcome
unfolding over zeros cleared
outcome lent (bad f) = record { answer = number_of f.why; count = 0; a = 0; b = 0; place = f.at; leaves = lent }
outcome lent crowded = record { answer = 11; count = 0; a = 0; b = 0; place = 0; leaves = cleared lent }
outcome lent (short b) = record { answer = 12; count = 0; a = 0; b = b; place = 0; leaves = cleared lent }
outcome lent (can livable states a) = record {
  answer = 0;
  count = length livable;
  a = a;
  b = length states;
  place = 0;
  leaves = record {
    table = over livable (zeros lent.table);
    words = zeros lent.words;
    scratch = zeros lent.scratch;
    run = over states lent.run;
  };
}
outcome lent (cannot states words) = record {
  answer = 13;
  count = length states;
  a = 0;
  b = 0;
  place = 0;
  leaves = record {
    table = over states (zeros lent.table);
    words = over words (zeros lent.words);
    scratch = zeros lent.scratch;
    run = lent.run;
  };
}

-- the judge's promise: the outcome is that of a true finding
pub record Judged (sheet : List ℕ) (lent : Lent) (o : Outcome) : Type 0 where
  pub finding : Finding
  pub found : Found sheet lent finding
  pub returned : o ≡ outcome lent finding

-- The judge's C form, which returns nothing else: the same, its five numbers in `out`, in the order answer, count, a, b, place. `out` is
-- the returned value and no lent slice: what stood in it before plays no part, and it is written on every answer, 1 to 10 too.
pub record JudgedOut (sheet : List ℕ) (lent : Lent) (out : List ℕ) (leaves : Lent) : Type 0 where
  pub judged : Outcome
  pub promise : Judged sheet lent judged
  pub written : out ≡ judged.answer ∷ judged.count ∷ judged.a ∷ judged.b ∷ judged.place ∷ []
  pub left : leaves ≡ judged.leaves
