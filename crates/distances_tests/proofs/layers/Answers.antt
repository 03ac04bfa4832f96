-- One layer more is spread, until one reaches nothing or no place is left.
use Rattle.std.proofs.Common.{arith}
use Rattle.distances_tests.proofs.Turns.{measuring-next, measuring-quiet, measuring-full}
use Rattle.distances_tests.proofs.layers.Goals as goal

pub returns-then-kept-left : goal.returns-then-kept-left
returns-then-kept-left c =
    (measuring-quiet _ _ _ _ _ _ _ _ c.loop-left.invariant _ _ _ c.layer-kept.ensures.0 c.if-kept-left.true, omega arith)

pub loop-left-preserved : goal.loop-left-preserved
loop-left-preserved c = measuring-next _ _ _ _ _ _ _ _ c.loop-left.invariant _ _ _ c.layer-kept.ensures.0 c.if-kept-left.false

pub returns : goal.returns
returns c = (measuring-full _ _ _ _ _ _ _ _ c.loop-left.invariant (omega arith), omega arith)
