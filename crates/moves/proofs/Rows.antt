-- Rows of stored moves can be read, and whose moves can be stored. Assumes nothing.
use mathlib.Core.Path.{◌≡◌}
use mathlib.Core.List.{List}
use Prim.Native.Nat.{ℕ, ◌≤◌, ◌<◌}
use native.Mathlib.Omega.{arith}
use lib.ListN.{length, get_or}
use Rattle.meaning.specs.Promises.{most_states}
use Rattle.rules.specs.Table.{LawfulTable}
use Rattle.moves.specs.Layout.{moves_size, HasRow}
use Rattle.moves.specs.Moves.{RowsIn, Storable}
use Rattle.moves.proofs.Layouts.{cells-long}

-- Each place of stored rows has a row.
pub rows-has : (R : ℕ → ℕ → Type 0) (r : ℕ) (moves : List ℕ) → length moves ≡ moves_size → r ≤ most_states → RowsIn R r moves → (i : ℕ)
    → i < r
    → HasRow moves i
rows-has R r moves long few rows i h =
    record { long = long; place = omega arith; within = omega (arith, rows.in_cells i h, cells-long moves long) }

-- The moves between lawful states that ascend can be stored.
pub storable : {book table : List ℕ} {r : ℕ} → LawfulTable book table r → ((i j : ℕ) → i < j → j < r → get_or table i 0 < get_or table j 0)
    → Storable book table r
storable states rises = record { states = states; rises = rises }
