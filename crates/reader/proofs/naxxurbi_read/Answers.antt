-- `reader::naxxurbi_read`: the number of the verdict. Assumes nothing.
use Rattle.meaning.specs.Promises.{ReadPlaced}
use Rattle.reader.proofs.naxxurbi_read.Goals as goal

pub returns : goal.returns
unfolding ReadPlaced
returns c = c.verdict_on.ensures.number
