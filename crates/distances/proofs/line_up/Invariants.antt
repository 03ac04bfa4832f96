-- The first i places are lined up.
use Rattle.distances.specs.Values.{LinedUp}
use Rattle.distances.proofs.line_up.Given as goal

abbrev pub invariant-loop-i : goal.invariant-loop-i
invariant-loop-i l = LinedUp l.v l.near l.i l.tail l.list
