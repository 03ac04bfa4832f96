-- `strike::strike_in` meets its contract: there is room for the signs. Assumes nothing.
use Rattle.std.proofs.Common.{arith}
use Rattle.strike.proofs.Ready.{signs-ready}
use Rattle.strike.proofs.strike_in.Goals as goal

pub fill-requires : goal.fill-requires
fill-requires g c = signs-ready g.row.SIGNS c.requires.0 (omega arith)
