-- `ground::marks::met`: a shifted word ends in the bit that is asked for. Assumes nothing.
use Rattle.std.proofs.Common.{ℕ, eqb, ap}
use Rattle.ground.proofs.Bits.{bit_shifted}
use Rattle.ground.proofs.marks.met.Goals as goal

pub returns : goal.returns
returns c = ap (λ (y : ℕ). eqb y 1) (bit_shifted c.args.k c.args.word)
