-- What is known once the reachable states are listed. Assumes nothing.
use Rattle.std.specs.Prelude.{List, ℕ, ◌≤◌, take}
use Rattle.meaning.specs.System.{Reachable, Lists}
use Rattle.meaning.specs.Promises.{Lent, capacity}
use Rattle.rules.specs.Book.{Shaped, book_system}

-- the reachable states are listed in the table's first r places, and there is room for them
pub record Reached (book : List ℕ) (lent : Lent) (r : ℕ) : Type 0 where
  pub shaped : Shaped book
  pub lists : Lists (Reachable (book_system book)) (take r lent.table)
  pub room : r ≤ capacity lent
