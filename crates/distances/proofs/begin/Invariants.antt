-- The first i places have begun.
use Rattle.distances.proofs.Spreads.{Begins}
use Rattle.distances.proofs.begin.Given as goal

abbrev pub invariant-loop-i : goal.invariant-loop-i
invariant-loop-i l = Begins l.book l.k l.table l.words l.r l.i l.near
