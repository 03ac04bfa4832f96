-- The loop of `rounds::begin_rows`: the first row is as it was, and the rows of the promises below k have begun. Assumes nothing.
use Rattle.rounds.proofs.Rows.{Beginning}
use Rattle.rounds.proofs.begin_rows.Given as goal

abbrev pub invariant-loop-k : goal.invariant-loop-k
invariant-loop-k l = Beginning l.book l.table l.r l.fn.wit l.wit l.k
