-- `judge_kept` meets its contract: the run that steering found is handed over. Assumes nothing.
use Rattle.judge_kept.proofs.Steps.{kept_small, kept-in-table, kept-steerable}
use Rattle.judge_kept.proofs.Findings.{handed-judged}
use Rattle.judge_kept.proofs.judge_kept.Goals as goal

pub steer-steps-requires : goal.steer-steps-requires
steer-steps-requires c = kept-steerable c.requires

pub hand_over-requires : goal.hand_over-requires
hand_over-requires c = (kept-in-table c.requires, kept_small c.requires)

pub returns : goal.returns
returns c = handed-judged c.requires c.steer-steps.ensures c.steer-steps.auto.run c.hand_over.ensures
