-- `rule_told` meets its contract: the first rule broken, for a breach of a step rule alone. Assumes nothing.
use Rattle.std.proofs.Common.{arith, ap, ◌∙◌}
use Rattle.audit_account.proofs.Telling.{told-step, told-other}
use Rattle.audit_follow.specs.Heads.{breach_number}
use Rattle.audit_follow.proofs.rule_told.Goals as goal

pub returns-in-Unlawful : goal.returns-in-Unlawful
returns-in-Unlawful c = told-other _ _ (λ e. omega (arith, e, ap breach_number c.in-Unlawful.is))

pub returns-in-FirstRule : goal.returns-in-FirstRule
returns-in-FirstRule c = told-other _ _ (λ e. omega (arith, e, ap breach_number c.in-FirstRule.is))

pub returns-in-StepRule : goal.returns-in-StepRule
returns-in-StepRule c = told-step _ _ _ (ap breach_number c.in-StepRule.is) (c.unwrap_or.ensures ∙ c.first_broken.ensures)
