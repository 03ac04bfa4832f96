-- `watch_along::redirect_chain`: the places of the chain before place i are redirected. Links lead upwards.
use Rattle.std.proofs.Common.{◌-◌}
use Rattle.watch_along.proofs.Redirecting.{ChainTo}
use Rattle.watch_along.proofs.redirect_chain.Given as goal

abbrev pub invariant-loop-i : goal.invariant-loop-i
invariant-loop-i l = ChainTo l.words l.initial.row l.back l.c l.was l.to l.initial.line l.n l.row l.line l.tail l.i

abbrev pub decreases-loop-i : goal.decreases-loop-i
decreases-loop-i l = l.r - l.i
