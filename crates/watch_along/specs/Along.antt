-- Watching a promise along stored moves: rows forth and back that can be read, and what the functions promise one another. That place i
-- moves to place j is said by i's row forth (`Leads`), or by j's row back, which has one place for each chain (`Backed` of web).
-- Assumes nothing.
use Rattle.std.specs.Prelude.{◌≡◌, Bool, true, false, Option, Some, None, List, ℕ, ◌+◌, ◌≤◌, ◌<◌, length, get_or}
use Rattle.ground.specs.Listed.{Between}
use Rattle.meaning.specs.Promises.{most_states}
use Rattle.moves.specs.Layout.{moves_size, start_at, end_at, cells_of, cell_at, HasRow, Ascending, Backed}
use Rattle.distances.specs.Far.{Unstruck}
use Rattle.watch.specs.Witness.{nobody, Pointed, AllHung, SameOwn, Hangable}
use Rattle.watch.specs.Turns.{count_met_at, Turnable, Line, Before}

-- j stands in place i's row of stored moves
abbrev pub Leads : (moves : List ℕ) (i j : ℕ) → Type 0
Leads moves i j = Between (cells_of moves) (start_at moves i) (end_at moves i) j

-- the rows of the first r places can be read, and their cells are such places
pub record Readable (moves : List ℕ) (r : ℕ) : Type 0 where
  pub row : (i : ℕ) → i < r → HasRow moves i
  pub places : (i e : ℕ) → i < r → start_at moves i ≤ e → e < end_at moves i → cell_at moves e < r

-- one of place i's next places, of r places, of which a test says yes; none if it says no of all. `Test` is what the test may answer
pub data NextWith (moves : List ℕ) (r i : ℕ) (Test : ℕ → Bool → Type 0) (who : Option ℕ) : Type 0 where
  passes : (j : ℕ) → who ≡ Some j → j < r → Leads moves i j → Test j true → NextWith moves r i Test who
  none_passes : who ≡ None → ((j : ℕ) → Leads moves i j → Test j false) → NextWith moves r i Test who

-- the same of rows back, with their chains
pub record Walkable (back : List ℕ) (r : ℕ) : Type 0 where
  pub row : (i : ℕ) → i < r → HasRow back i
  pub places : (i e : ℕ) → i < r → start_at back i ≤ e → e < end_at back i → cell_at back e < r
  pub links : Ascending r back

-- rows forth and rows back of the same moves
pub record Woven (r : ℕ) (forth back : List ℕ) : Type 0 where
  pub onward : Readable forth r
  pub backward : Walkable back r
  pub turned : (i j : ℕ) → i < r → j < r → Leads forth i j → Backed back i j
  pub turned_back : (i j : ℕ) → i < r → j < r → Backed back i j → Leads forth i j

-- the places that move to t may be redirected, as t's row back says
pub record Redirectable (words row back : List ℕ) (t was to : ℕ) (line : List ℕ) (n : ℕ) : Type 0 where
  pub turnable : Turnable words row was to line n
  pub has_row : HasRow back t
  pub places : (e : ℕ) → start_at back t ≤ e → e < end_at back t → cell_at back e < length row
  pub links : Ascending (length row) back

-- the places of a chain may be redirected
pub record Passable (words row back : List ℕ) (was to : ℕ) (line : List ℕ) (n : ℕ) : Type 0 where
  pub turnable : Turnable words row was to line n
  pub long : length back ≡ moves_size
  pub links : Ascending (length row) back

-- the line's first n are unstruck places with a witness
abbrev pub InLine : (words row line : List ℕ) (n : ℕ) → Type 0
InLine words row line n =
    (t : ℕ) → t < n → (get_or line t 0 < length row) × Unstruck words (get_or line t 0) × (get_or row (get_or line t 0) 0 ≡ nobody → ⊥)

-- While places hang anew: who has a witness hangs, and where a place without one has a next place with one, that stands in the line from
-- `head` on.
pub record Hanging (words old row : List ℕ) (M : ℕ → ℕ → Type 0) (line : List ℕ) (head tail : ℕ) : Type 0 where
  pub long : length row ≡ length old
  pub pointed : Pointed row M
  pub hung : AllHung words row
  pub own : SameOwn old row
  pub only : (i : ℕ) → i < length row → get_or row i 0 ≡ nobody → get_or old i 0 ≡ nobody
  pub in_line : InLine words row line tail
  pub room : tail + count_met_at nobody words row ≤ length line
  pub pending : (i j : ℕ) → i < length row → j < length row → Unstruck words i → Unstruck words j → M i j
      → get_or row i 0 ≡ nobody → (get_or row j 0 ≡ nobody → ⊥) → Between line head tail j

-- places that stand alone may look for a helper: the line has room for all of them
pub record Askable (words row forth log : List ℕ) (m tail : ℕ) (line : List ℕ) : Type 0 where
  pub few : length row ≤ most_states
  pub in_words : length row ≤ length words
  pub onward : Readable forth (length row)
  pub grows : m ≤ tail
  pub in-log : tail ≤ length log
  pub log_few : length log ≤ most_states
  pub places : (t : ℕ) → m ≤ t → t < tail → get_or log t 0 < length row
  pub line_is : Line row line

-- those who found one hang on it and stand in the line, whatever rows back are woven with the rows forth
pub record Asked (words old row forth log : List ℕ) (m tail : ℕ) (before line : List ℕ) (n : ℕ) : Type 0 where
  pub long : length row ≡ length old
  pub line_long : length line ≡ length before
  pub hanging : (back : List ℕ) → Woven (length old) forth back → Hangable words old (Backed back) log m tail
      → Hanging words old row (Backed back) line 0 n

-- a phase may be run
pub record Watching (words row forth back log line : List ℕ) (m from word : ℕ) : Type 0 where
  pub some : 0 < word
  pub woven : Woven (length row) forth back
  pub line_is : Line row line
  pub log_few : length log ≤ most_states
  pub before : Before words row (Backed back) log from m
