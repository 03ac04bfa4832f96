-- The row is followed up to cell e.
use Rattle.std.proofs.Common.{length}
use Rattle.distances_along.proofs.Lines.{RowTo}
use Rattle.distances_along.proofs.follow_row.Given as goal

abbrev pub invariant-loop-e : goal.invariant-loop-e
invariant-loop-e l =
    RowTo l.moves l.j l.d (length l.initial.near) l.initial.near l.tail l.initial.queue l.near l.queue l.got l.e
