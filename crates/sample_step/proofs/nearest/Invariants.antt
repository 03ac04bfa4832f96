-- The loop of `sample_step::nearest`: `best` is the first of the nearest among the first x places. Assumes nothing.
use Rattle.rules.specs.Table.{To}
use Rattle.sample_step.specs.Step.{Nearest, Below, row_at}
use Rattle.sample_step.proofs.nearest.Given as goal

abbrev pub invariant-loop-x : goal.invariant-loop-x
invariant-loop-x l = Nearest (Below (To l.book l.table l.place) l.x) (row_at l.dist l.from) l.best l.least
