-- The rows of witnesses, one for each reason, side by side in one list. Assumes nothing.
use Rattle.std.specs.Prelude.{◌≡◌, List, ℕ, suc, ◌*◌, ◌≤◌, ◌<◌, length, take, drop}
use Rattle.meaning.specs.Promises.{most_states}
use Rattle.rules.specs.Book.{promises_of}
use Rattle.rules.specs.Table.{LawfulTable}
use Rattle.watch.specs.Witness.{BegunRow}
use Rattle.watch.specs.Turns.{Before, Watched}

-- where the log is news from for a reason that had no phase yet: above every place
abbrev pub never_yet : ℕ
never_yet = 65535

-- the row of reason q
abbrev pub row_of : (r q : ℕ) → List ℕ → List ℕ
row_of r q wit = take r (drop (q * r) wit)

-- there is room for the rows of all reasons, for a log and for a line
pub record RoomForRows (book : List ℕ) (r : ℕ) (wit log line : List ℕ) : Type 0 where
  pub room : suc (promises_of book) * r ≤ length wit
  pub in-log : r ≤ length log
  pub log_few : length log ≤ most_states
  pub in_line : r ≤ length line
  pub line_few : length line ≤ most_states

-- the promises' rows may be begun: of a table of lawful states, with room for a row of each reason
pub record Beginnable (book table : List ℕ) (r : ℕ) (wit : List ℕ) : Type 0 where
  pub states : LawfulTable book table r
  pub room : suc (promises_of book) * r ≤ length wit

-- they have begun, and the row of reason 0 is as it was
pub record BegunRows (book table : List ℕ) (r : ℕ) (old wit : List ℕ) : Type 0 where
  pub long : length wit ≡ length old
  pub zeroth : row_of r 0 wit ≡ row_of r 0 old
  pub begun : (k : ℕ) → k < promises_of book → BegunRow book k table (row_of r (suc k) wit) (row_of r (suc k) wit)

-- what a phase asks of its row, of the log and of the line, if M i j says that place i moves to place j
pub record RowLent (words wit : List ℕ) (M : ℕ → ℕ → Type 0) (log line : List ℕ) (r reason m from : ℕ) : Type 0 where
  pub few_reasons : reason ≤ 16
  pub room : suc reason * r ≤ length wit
  pub in_line : r ≤ length line
  pub line_few : length line ≤ most_states
  pub log_few : length log ≤ most_states
  pub before : (reason ≡ 0 → ⊥) → Before words (row_of r reason wit) M log from m

-- a phase was run, and the rows of the other reasons are as they were; Zeroth is what reason 0 does to its row
pub record RowTurned (Zeroth : List ℕ → List ℕ → Type 0) (words words' wit wit' : List ℕ) (M : ℕ → ℕ → Type 0) (log log' : List ℕ)
    (r reason word m end : ℕ) : Type 0 where
  pub long : length wit' ≡ length wit
  pub others : (q : ℕ) → (q ≡ reason → ⊥) → suc q * r ≤ length wit → row_of r q wit' ≡ row_of r q wit
  pub zeroth : reason ≡ 0 → Zeroth (row_of r 0 wit) (row_of r 0 wit')
  pub watched : (reason ≡ 0 → ⊥) → Watched words words' (row_of r reason wit) (row_of r reason wit') M log log' m end word
