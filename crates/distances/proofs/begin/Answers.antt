-- Every place has begun.
use Rattle.std.proofs.Common.{arith}
use Rattle.distances.proofs.Spreads.{begins-opening}
use Rattle.distances.proofs.begin.Goals as goal

pub returns : goal.returns
returns c = begins-opening _ _ _ _ _ _ _ c.loop-i.invariant (omega arith)
