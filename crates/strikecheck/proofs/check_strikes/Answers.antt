-- The strike checker's theorem on numbers. Assumes nothing.
use Rattle.strikecheck.proofs.Answers.{strikes-placed}
use Rattle.strikecheck.proofs.check_strikes.Goals as goal

pub returns : goal.returns
returns c = strikes-placed _ _ _ _ _ c.check.ensures
