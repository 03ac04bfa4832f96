-- `watch::list_alone`: the first i places without a witness stand in the log.
use Rattle.watch.proofs.Falling.{Alone}
use Rattle.watch.proofs.list_alone.Given as goal

abbrev pub invariant-loop-i : goal.invariant-loop-i
invariant-loop-i l = Alone l.words l.row l.initial.log l.log l.m l.tail l.i
