-- What compiling a sheet writes, place by place: the masks of one list, a row of each kind, a section of rows, the counts. Each part keeps
-- everything below the place where it begins, so that sections are written front to back. Assumes nothing.
use Rattle.std.specs.Prelude.{◌≡◌, true, false, cond, List, ℕ, suc, ◌+◌, ◌≤◌, ◌<◌, length, get_or}
use Rattle.std.proofs.Math.Option.{none}
use Rattle.meaning.specs.Sheet.{Limit, StepRule, limit_of, step_of, byte, body_at, next_at, after_at, letters_in, firsts_at, steps_at, promises_at}
use Rattle.meaning.specs.Sheet.{Kind, a_limit, a_first, a_step, a_promise, most_letters, first_fault}
use Rattle.reader.specs.Header.{letters_byte, records_at, limits_in, firsts_in, steps_in, promises_in}
use Rattle.reader.specs.Place.{part}
use Rattle.rules.specs.Book.{book_size, least_at, most_at, right_of, row_at, CountsAre}
use Rattle.compile.specs.Literals.{mask_of, Ordered}
use Rattle.rules.specs.Rows.{KeptBelow}

-- ---- one list

-- what building masks asks of the literals from `start` to `end`: they lie within the sheet and are in order
pub record ListSound (s : List ℕ) (start end : ℕ) : Type 0 where
  pub order : start ≤ end
  pub within : end ≤ length s
  pub few : letters_in s ≤ most_letters
  pub ordered : Ordered (letters_in s) 0 (part start end s)

-- a list's masks stand at a place
pub record MasksAt (l : List ℕ) (at : ℕ) (ls : List ℕ) : Type 0 where
  pub held : get_or l at 0 ≡ mask_of true ls
  pub unheld : get_or l (at + 1) 0 ≡ mask_of false ls

pub record ListWritten (ls : List ℕ) (before : List ℕ) (at : ℕ) (after : List ℕ) : Type 0 where
  pub keeps : KeptBelow at before after
  pub masks : MasksAt after at ls

-- ---- one row of each kind, from the record whose length byte stands at `at`

-- exactly m is (m, m), at most m is (0, m)
pub record LimitRow (l : List ℕ) (row : ℕ) (limit : Limit) : Type 0 where
  pub masks : MasksAt l row limit.among
  pub least : get_or l (least_at row) 0 ≡ cond limit.exact limit.bound 0
  pub most : get_or l (most_at row) 0 ≡ limit.bound

pub record StepRow (l : List ℕ) (row : ℕ) (rule : StepRule) : Type 0 where
  pub left : MasksAt l row rule.left
  pub right : MasksAt l (right_of row) rule.right

-- what compiling a record asks: it lies within the sheet, has its shape, and its lists are in order
pub record LimitSound (s : List ℕ) (at : ℕ) : Type 0 where
  pub fits : next_at s at ≤ length s
  pub long : 2 ≤ byte s at
  pub few : letters_in s ≤ most_letters
  pub among : Ordered (letters_in s) 0 (limit_of (body_at s at)).among

pub record ListRecordSound (s : List ℕ) (at : ℕ) : Type 0 where
  pub fits : next_at s at ≤ length s
  pub few : letters_in s ≤ most_letters
  pub literals : Ordered (letters_in s) 0 (body_at s at)

pub record StepSound (s : List ℕ) (at : ℕ) : Type 0 where
  pub fits : next_at s at ≤ length s
  pub long : 1 ≤ byte s at
  pub count : byte s (suc at) < byte s at
  pub few : letters_in s ≤ most_letters
  pub left : Ordered (letters_in s) 0 (step_of (body_at s at)).left
  pub right : Ordered (letters_in s) 0 (step_of (body_at s at)).right

-- the same by kind: what compiling a record asks, and what its row then says of the record's own bytes
abbrev pub Sound : Kind → List ℕ → ℕ → Type 0
Sound a_limit s at = LimitSound s at
Sound a_first s at = ListRecordSound s at
Sound a_step s at = StepSound s at
Sound a_promise s at = ListRecordSound s at

abbrev pub Row : Kind → List ℕ → ℕ → List ℕ → Type 0
Row a_limit l row body = LimitRow l row (limit_of body)
Row a_first l row body = MasksAt l row body
Row a_step l row body = StepRow l row (step_of body)
Row a_promise l row body = MasksAt l row body

-- a row written, and where the next record begins
pub record RowWritten (kind : Kind) (s : List ℕ) (at : ℕ) (before : List ℕ) (row : ℕ) (after : List ℕ) (next : ℕ) : Type 0 where
  pub keeps : KeptBelow row before after
  pub says : Row kind after row (body_at s at)
  pub there : next ≡ next_at s at

-- ---- sections

-- where the records of a kind begin in the sheet, and how many there are
abbrev pub start_of : Kind → List ℕ → ℕ
start_of a_limit s = records_at
start_of a_first s = firsts_at s
start_of a_step s = steps_at s
start_of a_promise s = promises_at s

abbrev pub records_of : Kind → List ℕ → ℕ
records_of a_limit s = limits_in s
records_of a_first s = firsts_in s
records_of a_step s = steps_in s
records_of a_promise s = promises_in s

-- row j of a kind stands, from the sheet's j-th record of that kind
abbrev pub RowOf : Kind → List ℕ → List ℕ → ℕ → Type 0
RowOf kind s l j = Row kind l (row_at kind j) (body_at s (after_at s j (start_of kind s)))

-- what compiling a section asks: a good sheet, a book's room, and where the section begins and how many records it has
pub record SectionAsks (kind : Kind) (s book : List ℕ) (count from : ℕ) : Type 0 where
  pub good : first_fault s ≡ none
  pub long : length book ≡ book_size
  pub all : count ≡ records_of kind s
  pub begins : from ≡ start_of kind s

-- the first i rows of a section, the cursor behind the i-th record
pub record Section (kind : Kind) (s before after : List ℕ) (i at : ℕ) : Type 0 where
  pub keeps : KeptBelow (row_at kind 0) before after
  pub rows : (j : ℕ) → j < i → RowOf kind s after j
  pub there : at ≡ after_at s i (start_of kind s)

-- ---- the whole book

-- the five counts
abbrev pub Counts : List ℕ → List ℕ → Type 0
Counts s l = CountsAre l (byte s letters_byte) (limits_in s) (firsts_in s) (steps_in s) (promises_in s)

pub record BookWritten (s book : List ℕ) : Type 0 where
  pub long : length book ≡ book_size
  pub counts : Counts s book
  pub limits : (j : ℕ) → j < limits_in s → RowOf a_limit s book j
  pub firsts : (j : ℕ) → j < firsts_in s → RowOf a_first s book j
  pub steps : (j : ℕ) → j < steps_in s → RowOf a_step s book j
  pub promises : (j : ℕ) → j < promises_in s → RowOf a_promise s book j
