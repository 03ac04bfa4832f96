-- `watch_along::ends::cut`: the log's places from `from` up to h are seen to.
use Rattle.watch_along.proofs.Ending.{Cutting}
use Rattle.watch_along.proofs.ends.cut.Given as goal

abbrev pub invariant-loop-h : goal.invariant-loop-h
invariant-loop-h l = Cutting l.words l.initial.row l.row l.initial.log l.log l.m l.tail l.h
