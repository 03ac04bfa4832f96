-- `judge_kept_signed` meets its contract: the run that steering by the signs found is handed over. Assumes nothing.
use Rattle.judge_kept.proofs.Steps.{kept-steerable}
use Rattle.judge_kept.proofs.Findings.{handed-judged}
use Rattle.judge_kept.proofs.judge_kept_signed.Goals as goal

pub steer_signed-steps-requires : goal.steer_signed-steps-requires
steer_signed-steps-requires c = (kept-steerable c.requires.0, c.requires.1, c.requires.2)

pub returns : goal.returns
returns c = handed-judged c.requires.0 c.steer_signed-steps.ensures c.steer_signed-steps.auto.run c.hand_over.ensures
