-- `cut` meets its contract. Assumes nothing.
use Rattle.std.proofs.Common.{arith}
use Rattle.class_ends.specs.Class.{passes}
use Rattle.class_ends.proofs.Ends.{cut-none, cut-next, cut-falls, cut-refused, cut-says}
use Rattle.class_ends.proofs.cut.Goals as goal

pub loop-end-init : goal.loop-end-init
loop-end-init c = cut-none _ _

pub returns-then-end-start : goal.returns-then-end-start
returns-then-end-start c = cut-refused (cut-falls c.loop-end.invariant (omega arith) (omega arith))

pub returns-then-size-end : goal.returns-then-size-end
returns-then-size-end c = cut-refused (λ room. passes c.loop-end.end-index (omega arith) (omega arith))

pub loop-end-preserved : goal.loop-end-preserved
loop-end-preserved c = cut-next c.loop-end.invariant (omega arith) (omega arith) (omega arith)

pub returns : goal.returns
returns c = cut-says c.loop-end.invariant (omega arith)
