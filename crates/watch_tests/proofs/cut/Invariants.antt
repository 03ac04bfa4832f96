-- `watch_tests::cut`: of the first i places, who hangs on a lost one is cut off.
use Rattle.watch_tests.specs.Tests.{CutBelow}
use Rattle.watch_tests.proofs.cut.Given as goal

abbrev pub invariant-loop-i : goal.invariant-loop-i
invariant-loop-i l = CutBelow l.words l.initial.row l.row l.initial.log l.log l.n l.tail l.i
