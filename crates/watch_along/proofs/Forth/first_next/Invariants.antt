-- `watch_along::Forth::first_next`: of no cell before e the test says yes.
use Rattle.watch_along.proofs.Seeking.{Passed}
use Rattle.watch_along.proofs.Forth.first_next.Given as goal

abbrev pub invariant-loop-e : goal.invariant-loop-e
invariant-loop-e g l = Passed l.self.rows.now l.i (goal.F-post g l.test) l.e
