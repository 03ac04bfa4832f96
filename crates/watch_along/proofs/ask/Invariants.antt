-- `watch_along::ask`: the log's places from m up to g were asked.
use Rattle.watch_along.proofs.Asking.{AskedTo}
use Rattle.watch_along.proofs.ask.Given as goal

abbrev pub invariant-loop-g : goal.invariant-loop-g
invariant-loop-g l = AskedTo l.words l.initial.row l.forth.rows.now l.log l.m l.tail l.initial.line l.row l.line l.n l.g
