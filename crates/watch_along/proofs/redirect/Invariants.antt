-- `watch_along::redirect`: the row is redirected up to cell e.
use Rattle.watch_along.proofs.Redirecting.{RowTo}
use Rattle.watch_along.proofs.redirect.Given as goal

abbrev pub invariant-loop-e : goal.invariant-loop-e
invariant-loop-e l = RowTo l.words l.initial.row l.back l.t l.was l.to l.initial.line l.n l.e l.row l.line l.tail
