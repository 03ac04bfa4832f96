-- A table of states, place by place. Assumes nothing.
use Rattle.std.specs.Prelude.{◌≡◌, true, List, ℕ, ◌≤◌, ◌<◌, length, get_or}
use Rattle.meaning.specs.Promises.{most_states}
use Rattle.rules.specs.Book.{Shaped, book_lawful, book_system}

-- the table's first r places hold lawful states of the book
pub record LawfulTable (book table : List ℕ) (r : ℕ) : Type 0 where
  pub shaped : Shaped book
  pub in_table : r ≤ length table
  pub few : r ≤ most_states
  pub lawful : (i : ℕ) → i < r → book_lawful book (get_or table i 0) ≡ true

-- a move leads from place i to place j
abbrev pub To : (book table : List ℕ) (i j : ℕ) → Type 0
To book table i j = (book_system book).Move (get_or table i 0) (get_or table j 0)
