use Rattle.std.proofs.Common.{arith}
use Rattle.papers.proofs.Numbers.{in-bytes-length}
use Rattle.papers.proofs.MixedStatePartState.len.Goals as goal

pub overflow_add-result : goal.overflow_add-result
overflow_add-result c = omega (arith, c.ranges.self, c.len.ensures, in-bytes-length c.args.self.bytes.now)
