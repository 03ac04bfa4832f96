-- Rows of numbers written one behind another: what a write keeps, and what one row holds. Assumes nothing.
use Rattle.std.specs.Prelude.{◌≡◌, List, ℕ, ◌+◌, ◌<◌, length, get_or}

-- everything below place m stands as it stood
pub record KeptBelow (m : ℕ) (before after : List ℕ) : Type 0 where
  pub long : length after ≡ length before
  pub same : (j : ℕ) → j < m → get_or after j 0 ≡ get_or before j 0

-- two numbers written at a place, one behind the other
pub record Put (before : List ℕ) (at a b : ℕ) (after : List ℕ) : Type 0 where
  pub keeps : KeptBelow at before after
  pub first : get_or after at 0 ≡ a
  pub second : get_or after (at + 1) 0 ≡ b

-- the two masks at `from` of the book now stand at `to`
pub record Copied (book : List ℕ) (from : ℕ) (before : List ℕ) (to : ℕ) (after : List ℕ) : Type 0 where
  pub keeps : KeptBelow to before after
  pub held : get_or after to 0 ≡ get_or book from 0
  pub unheld : get_or after (to + 1) 0 ≡ get_or book (from + 1) 0
