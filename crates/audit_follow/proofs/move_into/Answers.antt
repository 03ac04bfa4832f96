-- `move_into` meets its contract: a first state, or a move counted for every rule. Assumes nothing.
use Rattle.audit_account.proofs.Tallies.{moved-first, moved_on}
use Rattle.audit_follow.proofs.move_into.Goals as goal

pub returns-then-head-eq0 : goal.returns-then-head-eq0
returns-then-head-eq0 c = moved-first _ _ _ _ c.if-head-eq0.true

pub returns : goal.returns
returns c = moved_on _ _ _ _ _ _ _ c.if-head-eq0.false c.tally.ensures
