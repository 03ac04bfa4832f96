-- `write_strikes` meets its contract. Assumes nothing.
use Rattle.judge_answer.proofs.Wiping.{wiped-strikes}
use Rattle.judge_answer.proofs.write_strikes.Goals as goal

pub returns : goal.returns
returns c = wiped-strikes c.order.ensures c.leave.ensures
