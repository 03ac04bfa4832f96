-- `watch_along::loosen`: the log's places from `from` up to h are seen to.
use Rattle.std.proofs.Common.{◌-◌, ◌≤◌, length}
use Rattle.watch.proofs.Loosening.{Loosening}
use Rattle.watch_along.proofs.loosen.Given as goal

abbrev pub invariant-loop-h : goal.invariant-loop-h
invariant-loop-h l =
    (l.from ≤ l.h) × (l.h ≤ l.tail) × Loosening l.words l.initial.row l.row l.initial.log l.log l.m l.tail l.h

abbrev pub decreases-loop-h : goal.decreases-loop-h
decreases-loop-h l = length l.initial.log - l.h
