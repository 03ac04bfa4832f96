-- `watch_tests::turn`: the first i places are redirected.
use Rattle.watch.specs.Turns.{Redirected}
use Rattle.watch_tests.proofs.Testing.{Below}
use Rattle.watch_tests.proofs.turn.Given as goal

abbrev pub invariant-loop-i : goal.invariant-loop-i
invariant-loop-i l = Redirected (Below l.i) l.words l.was l.to l.initial.row l.row l.n l.initial.line l.line l.tail
