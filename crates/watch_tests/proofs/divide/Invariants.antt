-- `watch_tests::divide`: the first i places are divided.
use Rattle.watch_tests.proofs.Dividing.{Dividing}
use Rattle.watch_tests.proofs.divide.Given as goal

abbrev pub invariant-loop-i : goal.invariant-loop-i
invariant-loop-i l = Dividing l.words l.row l.initial.log l.log l.m l.tail l.initial.line l.line l.helped l.i
