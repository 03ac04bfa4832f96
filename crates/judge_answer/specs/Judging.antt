-- The judge's promise over the system of a book, part by part, and how its five numbers and four slices make an outcome. Assumes nothing.
use Rattle.std.specs.Prelude.{◌≡◌, List, ℕ, ◌≤◌, ◌<◌, length, take}
use Rattle.meaning.specs.System.{System, CanBeKept, Livable, Lists, IsR}
use Rattle.meaning.specs.Strike.{StrikeList}
use Rattle.meaning.specs.Sample.{RunPaper}
use Rattle.meaning.specs.Promises.{Lent, Outcome, Finding, bad, crowded, short, can, cannot, capacity, over, zeros, outcome}
use Rattle.table_order.specs.Arranged.{InOrder}
use Rattle.judge_answer.specs.declared.Judgement.{Judgement}

-- the four lent slices
abbrev pub lent_of : (table words scratch run : List ℕ) → Lent
lent_of table words scratch run = record { table = table; words = words; scratch = scratch; run = run }

-- what is returned and left, as document 01's outcome
abbrev pub outcome_of : Judgement → Lent → Outcome
outcome_of r leaves = record { answer = r.answer; count = r.count; a = r.a; b = r.b; place = r.place; leaves = leaves }

-- "fields not named below are 0": the five numbers of a refusal, and of 11 and 12
abbrev pub refused : (answer b place : ℕ) → Judgement
refused answer b place = record { answer = answer; count = 0; a = 0; b = b; place = place }

-- all reachable states have room
pub record RoomFor (S : System) (lent : Lent) : Type 0 where
  pub reached : ℕ
  pub number : IsR S reached
  pub room : reached ≤ capacity lent

-- When each finding is the true one, for a good sheet whose system is S (`Found` of the meaning without the sheet). Of 11 it is said that
-- R, whatever it is, is above C; that there is such a number is known of every sheet.
abbrev pub FoundBy : System → Lent → Finding → Type 0
FoundBy S lent (bad f) = ⊥
FoundBy S lent crowded = (r : ℕ) → IsR S r → capacity lent < r
FoundBy S lent (short b) =
    RoomFor S lent × CanBeKept S × ((states : List ℕ) × (a : ℕ) × RunPaper S states a × (length states ≡ b)) × (length lent.run < b)
FoundBy S lent (can livable states a) =
    RoomFor S lent × CanBeKept S × Lists (Livable S) livable × RunPaper S states a × (length states ≤ length lent.run)
FoundBy S lent (cannot states words) = RoomFor S lent × (CanBeKept S → ⊥) × StrikeList S states words

-- the judge's promise for a good sheet whose system is S
pub record JudgedBy (S : System) (lent : Lent) (o : Outcome) : Type 0 where
  pub finding : Finding
  pub found : FoundBy S lent finding
  pub returned : o ≡ outcome lent finding

-- ---- what is left in the slices

-- the first t places of the table and the first w of the words are as they were, then zeros; the scratch is zero
pub record LeftOver (t w : ℕ) (table words scratch table' words' scratch' : List ℕ) : Type 0 where
  pub table_is : table' ≡ over (take t table) (zeros table)
  pub words_is : words' ≡ over (take w words) (zeros words)
  pub scratch_is : scratch' ≡ zeros scratch

-- the first r states and words stand in order, then zeros; the scratch is zero
pub record StrikesWritten (table words scratch : List ℕ) (r : ℕ) (table' words' scratch' : List ℕ) : Type 0 where
  pub states : List ℕ
  pub marks : List ℕ
  pub in_order : InOrder table words r states marks
  pub table_is : table' ≡ over (take r states) (zeros table)
  pub words_is : words' ≡ over (take r marks) (zeros words)
  pub scratch_is : scratch' ≡ zeros scratch
