-- The strike checker's theorem on bytes. Assumes nothing.
use Rattle.strikecheck.proofs.Answers.{strikes-bytes-checked}
use Rattle.strikecheck.proofs.check_strikes_bytes.Goals as goal

pub returns : goal.returns
returns c = strikes-bytes-checked _ _ _ _ c.check.ensures.number
