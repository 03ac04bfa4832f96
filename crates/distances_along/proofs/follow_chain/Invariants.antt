-- The places of the chain before place i are followed. Each link leads to a later place.
use Rattle.std.proofs.Common.{◌-◌, length}
use Rattle.distances_along.proofs.Lines.{ChainTo}
use Rattle.distances_along.proofs.follow_chain.Given as goal

abbrev pub invariant-loop-i : goal.invariant-loop-i
invariant-loop-i l =
    ChainTo l.moves l.c l.d (length l.initial.near) l.initial.near l.tail l.initial.queue l.near l.queue l.got l.i

abbrev pub decreases-loop-i : goal.decreases-loop-i
decreases-loop-i l = length l.initial.near - l.i
