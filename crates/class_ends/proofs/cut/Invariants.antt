-- Every end passed is in order, and the next sheet starts at `start`. Assumes nothing.
use Rattle.class_ends.proofs.Ends.{EndsFitUpTo}
use Rattle.class_ends.proofs.cut.Given as goal

abbrev pub invariant-loop-end : goal.invariant-loop-end
invariant-loop-end l = EndsFitUpTo l.size l.ends l.end-index l.start
