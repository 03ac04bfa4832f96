-- The run checker's theorem on bytes. Assumes nothing.
use Rattle.runcheck.proofs.Answers.{run-bytes-checked}
use Rattle.runcheck.proofs.check_run_bytes.Goals as goal

pub returns : goal.returns
returns c = run-bytes-checked _ _ _ _ c.check.ensures.number
