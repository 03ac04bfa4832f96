-- `rounds::begin_rows` meets its contract: a row that was begun is put back among the others. Assumes nothing.
use Rattle.std.proofs.Common.{arith}
use Rattle.rounds.proofs.Rows.{beginning-more}
use Rattle.rounds.proofs.begin_rows.Goals as goal

pub loop-k-preserved : goal.loop-k-preserved
loop-k-preserved c = beginning-more _ _ _ _ _ _ _ c.loop-k.invariant (omega arith) c.begin.ensures
