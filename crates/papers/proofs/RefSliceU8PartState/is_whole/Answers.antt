use Rattle.papers.proofs.Numbers.{whole-says}
use Rattle.papers.proofs.RefSliceU8PartState.is_whole.Goals as goal

pub returns : goal.returns
returns c = whole-says c.args.self.now
