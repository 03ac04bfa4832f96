-- Places in a sheet: a part of it by its two ends, and what the cursor's methods ask of theirs. Assumes nothing.
use Rattle.std.specs.Prelude.{◌≡◌, List, ℕ, ◌-◌, ◌≤◌, length, take, drop}
use Rattle.meaning.specs.Sheet.{least_bytes}

-- the bytes of s from place a up to place e
unfoldable pub part : ℕ → ℕ → List ℕ → List ℕ
part a e s = take (e - a) (drop a s)

-- what reading a list from a to e asks: the list lies within the sheet
pub record ListAsks (s : List ℕ) (a e : ℕ) : Type 0 where
  pub order : a ≤ e
  pub within : e ≤ length s

-- what reading all records from `at` on asks: it is behind a whole header
pub record SheetAsks (s : List ℕ) (at : ℕ) : Type 0 where
  pub behind : at ≡ least_bytes
  pub least : least_bytes ≤ length s
