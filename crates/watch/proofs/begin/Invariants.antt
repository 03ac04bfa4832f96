-- `watch::begin`: the first i places have begun.
use Rattle.watch.proofs.Beginning.{Beginning}
use Rattle.watch.proofs.begin.Given as goal

abbrev pub invariant-loop-i : goal.invariant-loop-i
invariant-loop-i l = Beginning l.book l.k l.table l.initial.row l.row l.i
