-- The loop of `sample_step::nearest_in_row`: `best` is the first of the nearest among the cells before e. Assumes nothing.
use Rattle.std.proofs.Common.{◌+◌, ◌-◌, ◌≤◌}
use Rattle.ground.specs.Listed.{Between}
use Rattle.moves.specs.Layout.{start_at, end_at, cells_of}
use Rattle.sample_step.specs.Step.{Nearest, row_at}
use Rattle.sample_step.proofs.nearest_in_row.Given as goal

abbrev pub invariant-loop-e : goal.invariant-loop-e
invariant-loop-e l = record {
  within : l.e ≤ start_at l.forth l.place + (end_at l.forth l.place - start_at l.forth l.place);
  nearest : Nearest (Between (cells_of l.forth) (start_at l.forth l.place) l.e) (row_at l.dist l.from) l.best l.least;
}
