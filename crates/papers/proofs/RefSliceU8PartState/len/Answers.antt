use Rattle.std.proofs.Common.{sym}
use Rattle.papers.proofs.Numbers.{in-bytes-length}
use Rattle.papers.proofs.RefSliceU8PartState.len.Goals as goal

pub returns : goal.returns
returns c = sym (in-bytes-length c.args.self.now)
