-- `watch_along::spread`: the rows of the line's first `head` places were redirected. The measure: what the line may still hold.
use Rattle.std.proofs.Common.{◌-◌, length}
use Rattle.watch_along.proofs.Spreading.{SpreadTo}
use Rattle.watch_along.proofs.spread.Given as goal

abbrev pub invariant-loop-head : goal.invariant-loop-head
invariant-loop-head l = SpreadTo l.words l.initial.row l.back l.initial.line l.n l.row l.line l.tail l.head

abbrev pub decreases-loop-head : goal.decreases-loop-head
decreases-loop-head l = length l.initial.line - l.head
