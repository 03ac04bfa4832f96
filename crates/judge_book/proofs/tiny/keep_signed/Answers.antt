-- `keep_signed` meets its contract: the signs are those of the kept states. Assumes nothing.
use Rattle.judge_book.proofs.StruckSteps.{front-lawful}
use Rattle.judge_book.proofs.tiny.keep_signed.Goals as goal

pub fill-requires : goal.fill-requires
fill-requires c = (front-lawful c.requires.0 c.keep-k.ensures, c.requires.3)
