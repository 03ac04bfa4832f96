-- One row more is followed; what is measured is put back.
use Rattle.std.proofs.Common.{arith}
use Rattle.distances.proofs.Parts.{near-measured}
use Rattle.distances_along.proofs.Along.{tracing-more, tracing-done}
use Rattle.distances_along.proofs.follow.Goals as goal

pub loop-head-preserved : goal.loop-head-preserved
loop-head-preserved c =
    tracing-more _ _ _ _ _ _ _ _ _ _ _ c.loop-head.invariant c.loop-head-test.true _ _ _ c.follow_row-tail.ensures

pub returns : goal.returns
returns c = (
  near-measured _ _ _ _ _ _ _ _ c.requires.1 (tracing-done _ _ _ _ _ _ _ _ _ _ _ c.loop-head.invariant (omega arith)),
  omega arith,
)
