-- What the tests before any sheet say: the ends cut the input whole, and the class is fair. Assumes nothing.
use Rattle.std.specs.Prelude.{◌≡◌, Bool, true, false, List, ℕ, ◌*◌, ◌≤◌, ◌<◌, length, get_or}
use Rattle.class_ends.specs.Class.{most_sheets, numbers_each, start_of, Refused}

-- the ends cut an input of `size` bytes whole: none falls, none passes it, and the last is its length
pub record EndsFit (size : ℕ) (ends : List ℕ) : Type 0 where
  pub rise : (i : ℕ) → i < length ends → start_of ends i ≤ get_or ends i 0
  pub within : (i : ℕ) → i < length ends → get_or ends i 0 ≤ size
  pub last : start_of ends (length ends) ≡ size

-- what a test of the ends says
pub record EndsFitSays (size : ℕ) (ends : List ℕ) (r : Bool) : Type 0 where
  pub yes : r ≡ true → EndsFit size ends
  pub never : r ≡ false → (room : ℕ) → Refused size ends room

-- a class that is not refused
pub record Fair (size : ℕ) (ends : List ℕ) (room : ℕ) : Type 0 where
  pub ends-fit : EndsFit size ends
  pub few : length ends ≤ most_sheets
  pub fits : length ends * numbers_each ≤ room

-- what the test before any sheet says
pub record FairSays (size : ℕ) (ends : List ℕ) (room : ℕ) (r : Bool) : Type 0 where
  pub yes : r ≡ true → Fair size ends room
  pub never : r ≡ false → Refused size ends room
