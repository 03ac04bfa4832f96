-- The run checker's theorem on numbers. Assumes nothing.
use Rattle.runcheck.proofs.Answers.{run-placed}
use Rattle.runcheck.proofs.check_run.Goals as goal

pub returns : goal.returns
returns c = run-placed _ _ _ _ _ c.check.ensures
