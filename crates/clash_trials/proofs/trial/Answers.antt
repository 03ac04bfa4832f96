-- `trial` meets its contract: what is judged are the bytes that were written, and with no room for a run the judge has three answers.
-- Assumes nothing.
use Rattle.std.proofs.Common.{refl}
use Rattle.clash_trials.proofs.Trials.{third, trial-judged}
use Rattle.clash_trials.proofs.trial.Goals as goal

pub found_by-requires : goal.found_by-requires
found_by-requires c = third c.requires refl (trial-judged c.write_chosen-n.ensures c.judge_front-answer.ensures refl).answered

pub returns : goal.returns
returns c = trial-judged c.write_chosen-n.ensures c.judge_front-answer.ensures c.found_by.ensures
