-- What `strike` asks, and what it and the functions below it promise of the words. Assumes nothing.
use Rattle.std.specs.Prelude.{◌≡◌, List, ℕ, ◌≤◌, length, take}
use Rattle.meaning.specs.Promises.{most_states}
use Rattle.meaning.specs.System.{Reachable, Lists}
use Rattle.rules.specs.Book.{Shaped, book_system}
use Rattle.rounds.specs.Marked.{Marked}

-- What `strike` asks: the table is the reachable states. That these are lawful is not asked besides: they are, and `strikable-lawful`
-- (proofs/Running) makes the `LawfulTable` that the functions below ask.
pub record Strikable (book table words : List ℕ) (r : ℕ) : Type 0 where
  pub shaped : Shaped book
  pub lists : Lists (Reachable (book_system book)) (take r table)
  pub in_table : r ≤ length table
  pub in_words : r ≤ length words
  pub few : r ≤ most_states

-- what `strike` ensures: the words are marked, and as many as they were
pub record Stricken (book table : List ℕ) (r : ℕ) (old words : List ℕ) (left : ℕ) : Type 0 where
  pub marked : Marked (book_system book) table words r left
  pub words_long : length words ≡ length old
