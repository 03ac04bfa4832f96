-- Stored moves: rows of a relation over a table's first r places, the moves forth, the moves back, and whose moves can be stored. Assumes
-- nothing.
use Rattle.std.specs.Prelude.{◌≡◌, ◌⊎◌, List, ℕ, suc, ◌≤◌, ◌<◌, length, get_or}
use Rattle.rules.specs.Freer.{Freer}
use Rattle.rules.specs.Table.{LawfulTable, To}
use Rattle.moves.specs.Layout.{most_cells, moves_size, no_link, starts_of, ends_of, cells_of, start_at, end_at, cell_at, Backed, Ascending}

-- The rows of a relation over the first r places: the places that i stands in R to are the cells from `starts i` up to `ends i`.
pub record Rows (R : ℕ → ℕ → Type 0) (r : ℕ) (starts ends cells : List ℕ) : Type 0 where
  pub in_starts : r ≤ length starts
  pub in_ends : r ≤ length ends
  pub in_cells : (i : ℕ) → i < r → get_or ends i 0 ≤ length cells
  pub sound : (i e : ℕ) → i < r → get_or starts i 0 ≤ e → e < get_or ends i 0 → (get_or cells e 0 < r) × R i (get_or cells e 0)
  pub whole : (i j : ℕ) → i < r → j < r → R i j → (e : ℕ) × (get_or starts i 0 ≤ e) × (e < get_or ends i 0) × (get_or cells e 0 ≡ j)

-- the rows of a relation over the first r places, in one list
abbrev pub RowsIn : (R : ℕ → ℕ → Type 0) (r : ℕ) (moves : List ℕ) → Type 0
RowsIn R r moves = Rows R r (starts_of moves) (ends_of moves) (cells_of moves)

-- the moves forth: each place's row ascends
pub record Forth (book table : List ℕ) (r : ℕ) (moves : List ℕ) : Type 0 where
  pub long : length moves ≡ moves_size
  pub rows : RowsIn (To book table) r moves
  pub ascends : (i e : ℕ) → i < r → start_at moves i ≤ e → suc e < end_at moves i → cell_at moves e < cell_at moves (suc e)

-- The moves back: each place's row has the first place of each chain whose places move to it.
pub record Back (book table : List ℕ) (r : ℕ) (moves : List ℕ) : Type 0 where
  pub long : length moves ≡ moves_size
  pub in_cells : (j : ℕ) → j < r → end_at moves j ≤ most_cells
  pub places : (j e : ℕ) → j < r → start_at moves j ≤ e → e < end_at moves j → cell_at moves e < r
  pub links : Ascending r moves
  pub sound : (i j : ℕ) → j < r → Backed moves i j → To book table i j
  pub whole : (i j : ℕ) → i < r → j < r → To book table i j → Backed moves i j

-- whose moves can be stored: lawful states, ascending
pub record Storable (book table : List ℕ) (r : ℕ) : Type 0 where
  pub states : LawfulTable book table r
  pub rises : (i j : ℕ) → i < j → j < r → get_or table i 0 < get_or table j 0

-- place k stands before place i, and the step rules allow the same after the states of both
pub record SameMoves (book table : List ℕ) (k i : ℕ) : Type 0 where
  pub before : k < i
  pub freer : Freer book (get_or table k 0) (get_or table i 0)
  pub no_freer : Freer book (get_or table i 0) (get_or table k 0)

-- In the rows forth a place's link leads to an earlier place of its class, or nowhere.
pub record Kindred (book table : List ℕ) (r : ℕ) (links : List ℕ) : Type 0 where
  pub each : (i : ℕ) → i < r → (get_or links i 0 ≡ no_link) ⊎ SameMoves book table (get_or links i 0) i
