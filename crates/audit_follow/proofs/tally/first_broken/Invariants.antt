-- No rule below i is broken. Assumes nothing.
use Rattle.std.proofs.Common.{◌≡◌}
use Rattle.audit_account.specs.Book.{broken_by, first_of}
use Rattle.audit_follow.proofs.tally.first_broken.Given as goal

abbrev pub invariant-loop-i : goal.invariant-loop-i
invariant-loop-i l = first_of (broken_by l.book l.s l.t) l.i ≡ 0
