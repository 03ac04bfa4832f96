-- `watch_along::ends::look`: the log's places from m up to g have looked.
use Rattle.watch_along.proofs.Ending.{Looking}
use Rattle.watch_along.proofs.ends.look.Given as goal

abbrev pub invariant-loop-g : goal.invariant-loop-g
invariant-loop-g l = Looking l.words l.initial.row l.row l.forth.rows.now l.log l.m l.g
