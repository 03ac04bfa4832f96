-- `judge_one` meets its contract: what `judge` promises, and its numbers noted. Assumes nothing.
use Rattle.class.proofs.Parts.{judged-noted}
use Rattle.class.proofs.judge_one.Goals as goal

pub returns : goal.returns
returns c = judged-noted c.judge-r.result c.judge-r.ensures c.note.ensures
