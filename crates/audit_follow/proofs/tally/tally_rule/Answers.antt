-- `tally_rule` meets its contract: both tallies are written, with more where the rule is kept, or broken. Assumes nothing.
use Rattle.audit_account.proofs.Tallies.{rule-tallied}
use Rattle.audit_follow.proofs.tally.tally_rule.Goals as goal

pub returns : goal.returns
returns c =
    rule-tallied _ _ _ _ _ _ _ _ _ _ _ c.step_asks-asks.ensures c.step_allows-allows.ensures c.counted.ensures c.counted-2.ensures
