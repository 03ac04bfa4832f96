-- The rows of the first i places are stored below `at`, and their links lead to places of their classes.
use Rattle.std.proofs.Common.{List, ℕ, ◌≤◌}
use Rattle.moves.specs.Layout.{most_cells, links_of}
use Rattle.moves.specs.Moves.{Kindred}
use Rattle.moves_forth.proofs.Filling.{StoredIn}
use Rattle.moves_forth.proofs.store_rows.Given as goal

pub record RowsSo (book table : List ℕ) (r i at rows : ℕ) (moves : List ℕ) : Type 0 where
  pub room : at ≤ most_cells
  pub stored : StoredIn book table r i at moves
  pub kin : Kindred book table i (links_of moves)
  pub few : rows ≤ i

abbrev pub invariant-loop-i : goal.invariant-loop-i
invariant-loop-i l = RowsSo l.book l.table l.r l.i l.at l.rows l.moves
