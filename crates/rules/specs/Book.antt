-- A compiled sheet: the book, a flat list of numbers, and what its numbers say. Each list of literals is two masks, the letters that it
-- asks to hold and those that it asks not to hold. A limit's four numbers are its masks and the least and the most that may be true; a
-- first rule's two are its masks, a step rule's four the masks of its left and its right side, a promise's two its masks. All that the
-- crates above know of a book is the system that it describes (`book_system`) and its shape (`Shaped`). Assumes nothing.
use Rattle.std.specs.Prelude.{◌≡◌, Bool, true, false, cond, not, ◌&&◌, ◌||◌, List, ℕ, zero, suc, ◌+◌, ◌-◌, ◌*◌, ◌^◌, ◌≤◌, ◌<◌, T, leb, ltb, eqb, length, get_or}
use Rattle.std.specs.Int.Bits.{bit_and}
use Rattle.std.specs.Int.Count.{ones}
use Rattle.meaning.specs.System.{System}
use Rattle.meaning.specs.Sheet.{most_letters, most_limits, most_promises, Kind, a_limit, a_first, a_step, a_promise}
use Rattle.rules.specs.declared.tally.Literals.{Literals}
use Rattle.rules.specs.declared.book.Bounded.{Bounded}

-- ---- where things stand in a book

-- "first rules (at most 255), step rules (at most 255)": a count is one byte
abbrev pub most_rules : ℕ
most_rules = 255

-- how many numbers a row has, by the kind of its record
abbrev pub list_width : ℕ
list_width = 2

abbrev pub limit_width : ℕ
limit_width = 4

abbrev pub step_width : ℕ
step_width = 4

abbrev pub width_of : Kind → ℕ
width_of a_limit = limit_width
width_of a_first = list_width
width_of a_step = step_width
width_of a_promise = list_width

-- where the rows of each kind begin, the limits' behind the counts; and how many numbers a book has
abbrev pub limits_from : ℕ
limits_from = 8

abbrev pub firsts_from : ℕ
firsts_from = limits_from + limit_width * most_limits

abbrev pub steps_from : ℕ
steps_from = firsts_from + list_width * most_rules

abbrev pub promises_from : ℕ
promises_from = steps_from + step_width * most_rules

abbrev pub book_size : ℕ
book_size = promises_from + list_width * most_promises

-- within a row: a limit's least stands behind its masks, its most behind that; a step rule's right side stands behind its left one
abbrev pub least_at : ℕ → ℕ
least_at row = row + list_width

abbrev pub most_at : ℕ → ℕ
most_at row = least_at row + 1

abbrev pub right_of : ℕ → ℕ
right_of row = row + list_width

-- row i of each kind begins here, and a step rule's right side
abbrev pub limit_at : ℕ → ℕ
limit_at i = limits_from + limit_width * i

abbrev pub first_at : ℕ → ℕ
first_at i = firsts_from + list_width * i

abbrev pub step_at : ℕ → ℕ
step_at i = steps_from + step_width * i

abbrev pub right_at : ℕ → ℕ
right_at i = right_of (step_at i)

abbrev pub promise_at : ℕ → ℕ
promise_at i = promises_from + list_width * i

abbrev pub row_at : Kind → ℕ → ℕ
row_at a_limit i = limit_at i
row_at a_first i = first_at i
row_at a_step i = step_at i
row_at a_promise i = promise_at i

-- the counts
abbrev pub letters_of : List ℕ → ℕ
letters_of book = get_or book 0 0

abbrev pub limits_of : List ℕ → ℕ
limits_of book = get_or book 1 0

abbrev pub firsts_of : List ℕ → ℕ
firsts_of book = get_or book 2 0

abbrev pub steps_of : List ℕ → ℕ
steps_of book = get_or book 3 0

abbrev pub promises_of : List ℕ → ℕ
promises_of book = get_or book 4 0

-- the five counts stand in a book
pub record CountsAre (l : List ℕ) (a b c d e : ℕ) : Type 0 where
  pub letters : letters_of l ≡ a
  pub limits : limits_of l ≡ b
  pub firsts : firsts_of l ≡ c
  pub steps : steps_of l ≡ d
  pub promises : promises_of l ≡ e

-- the two masks at a place were read
pub record MasksRead (l : List ℕ) (at : ℕ) (m : Literals) : Type 0 where
  pub held_is : m.held ≡ get_or l at 0
  pub unheld_is : m.unheld ≡ get_or l (at + 1) 0

-- limit i's row
abbrev pub limit_row : List ℕ → ℕ → Bounded
limit_row book i = record {
  held = get_or book (limit_at i) 0;
  unheld = get_or book (limit_at i + 1) 0;
  least = get_or book (least_at (limit_at i)) 0;
  most = get_or book (most_at (limit_at i)) 0;
}

-- ---- two masks against a state

-- how many literals are true in s: those of the held letters, and those of the letters that do not hold
unfoldable pub count_of : (s held unheld : ℕ) → ℕ
count_of s held unheld = ones (bit_and s held) + (ones unheld - ones (bit_and s unheld))

-- some literal is true in s; every literal is
unfoldable pub some_of : (s held unheld : ℕ) → Bool
some_of s held unheld = not (eqb (bit_and s held) 0) || not (eqb (bit_and s unheld) unheld)

unfoldable pub all_of : (s held unheld : ℕ) → Bool
all_of s held unheld = eqb (bit_and s held) held && eqb (bit_and s unheld) 0

-- the test passes at every number below n, from 0 up
abbrev pub all_below : ℕ → (ℕ → Bool) → Bool
all_below zero test = true
all_below (suc n) test = all_below n test && test n

-- how many numbers below n pass the test
abbrev pub how_many : (ℕ → Bool) → ℕ → ℕ
how_many test zero = 0
how_many test (suc n) = cond (test n) 1 0 + how_many test n

-- ---- the book's rules

-- the two masks that stand at a place
abbrev pub some_at : List ℕ → ℕ → ℕ → Bool
some_at l at s = some_of s (get_or l at 0) (get_or l (at + 1) 0)

abbrev pub all_at : List ℕ → ℕ → ℕ → Bool
all_at l at s = all_of s (get_or l at 0) (get_or l (at + 1) 0)

-- what a limit's row says of s: no fewer of its literals are true than the least and no more than the most
abbrev pub row_holds : ℕ → Bounded → Bool
row_holds s row =
    leb row.least (count_of s row.held row.unheld) && leb (count_of s row.held row.unheld) row.most

-- limit i holds in s
unfoldable pub limit_ok : List ℕ → ℕ → ℕ → Bool
limit_ok book s i = row_holds s (limit_row book i)

unfoldable pub limits_ok : List ℕ → ℕ → Bool
limits_ok book s = all_below (limits_of book) (limit_ok book s)

unfoldable pub book_lawful : List ℕ → ℕ → Bool
book_lawful book s = ltb s (2 ^ letters_of book) && limits_ok book s

unfoldable pub firsts_ok : List ℕ → ℕ → Bool
firsts_ok book s = all_below (firsts_of book) (λ i. some_at book (first_at i) s)

unfoldable pub book_first : List ℕ → ℕ → Bool
book_first book s = book_lawful book s && firsts_ok book s

-- step rule i allows the step from s to t
unfoldable pub step_ok : List ℕ → ℕ → ℕ → ℕ → Bool
step_ok book s t i = not (all_at book (step_at i) s) || some_at book (right_at i) t

unfoldable pub steps_ok : List ℕ → ℕ → ℕ → Bool
steps_ok book s t = all_below (steps_of book) (step_ok book s t)

unfoldable pub book_moves : List ℕ → ℕ → ℕ → Bool
book_moves book s t = book_lawful book s && book_lawful book t && steps_ok book s t

unfoldable pub book_kept : List ℕ → ℕ → ℕ → Bool
book_kept book k s = ltb k (promises_of book) && some_at book (promise_at k) s

-- the system that a book describes
unfoldable pub book_system : List ℕ → System
unfolding book_lawful book_first book_moves book_kept
book_system book = record {
  Lawful = λ s. T (book_lawful book s);
  First = λ s. T (book_first book s);
  Move = λ s t. T (book_moves book s t);
  promises = promises_of book;
  Kept = λ k s. T (book_kept book k s);
}

-- two masks of letters that the sheet has
pub record Masks (l : List ℕ) (n at : ℕ) : Type 0 where
  pub held : get_or l at 0 < 2 ^ n
  pub unheld : get_or l (at + 1) 0 < 2 ^ n

-- a book's shape: its length, its counts within their bounds, and every mask within the letters
pub record Shaped (book : List ℕ) : Type 0 where
  pub long : length book ≡ book_size
  pub some_letters : 1 ≤ letters_of book
  pub few-letters : letters_of book ≤ most_letters
  pub few_limits : limits_of book ≤ most_limits
  pub few_firsts : firsts_of book ≤ most_rules
  pub few_steps : steps_of book ≤ most_rules
  pub few-promises : promises_of book ≤ most_promises
  pub limits : (i : ℕ) → i < limits_of book → Masks book (letters_of book) (limit_at i)
  pub firsts : (i : ℕ) → i < firsts_of book → Masks book (letters_of book) (first_at i)
  pub lefts : (i : ℕ) → i < steps_of book → Masks book (letters_of book) (step_at i)
  pub rights : (i : ℕ) → i < steps_of book → Masks book (letters_of book) (right_at i)
  pub promises : (i : ℕ) → i < promises_of book → Masks book (letters_of book) (promise_at i)

-- ---- rules gathered for one state

-- whether step rule i asks anything, s being what it is: of the states after s (`ahead`), or else of those before it
abbrev pub asks_toward : Bool → List ℕ → (s i : ℕ) → Bool
asks_toward true book s i = all_at book (step_at i) s
asks_toward false book s i = not (some_at book (right_at i) s)

-- step rule i's left side is true in s, or the rule allows every move from s
pub record Binds (book : List ℕ) (s i : ℕ) (r : Bool) : Type 0 where
  pub asks : r ≡ true → all_at book (step_at i) s ≡ true
  pub free : r ≡ false → (t : ℕ) → step_ok book s t i ≡ true

-- gathered lists stand one behind another, and there is room for one of each rule
abbrev pub gathered_at : ℕ → ℕ
gathered_at i = list_width * i

abbrev pub gather_size : ℕ
gather_size = list_width * most_rules

-- Clauses: or-lists gathered from a book, two masks each, `count` of them; all are true in t.
unfoldable pub clauses_ok : List ℕ → ℕ → ℕ → Bool
clauses_ok clauses count t = all_below count (λ i. some_at clauses (gathered_at i) t)

-- gathered masks within the letters
pub record Gathered (n : ℕ) (l : List ℕ) (count : ℕ) : Type 0 where
  pub few : count ≤ most_rules
  pub masks : (i : ℕ) → i < count → Masks l n (gathered_at i)

-- the clauses that a first state must make true, and those that a state after s must
pub record FirstClauses (book clauses : List ℕ) (count : ℕ) : Type 0 where
  pub gathered : Gathered (letters_of book) clauses count
  pub says : (t : ℕ) → clauses_ok clauses count t ≡ firsts_ok book t

pub record NextClauses (book : List ℕ) (s : ℕ) (clauses : List ℕ) (count : ℕ) : Type 0 where
  pub gathered : Gathered (letters_of book) clauses count
  pub says : (t : ℕ) → clauses_ok clauses count t ≡ steps_ok book s t
