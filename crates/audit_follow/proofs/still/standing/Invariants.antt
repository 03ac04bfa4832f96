-- Every state from the place on and before i is s. Assumes nothing.
use Rattle.std.proofs.Common.{◌-◌}
use Rattle.audit_account.specs.Book.{Standing}
use Rattle.audit_follow.proofs.still.standing.Given as goal

abbrev pub invariant-loop-i : goal.invariant-loop-i
invariant-loop-i l = Standing l.states l.from l.s (l.i - l.from)
