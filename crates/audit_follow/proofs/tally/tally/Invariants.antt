-- The moves are counted for every rule below i. Assumes nothing.
use Rattle.audit_account.specs.Book.{Tallied}
use Rattle.audit_follow.proofs.tally.tally.Given as goal

abbrev pub invariant-loop-i : goal.invariant-loop-i
invariant-loop-i l = Tallied l.book l.s l.t l.times l.i l.initial.kept l.initial.broken l.kept l.broken l.some
