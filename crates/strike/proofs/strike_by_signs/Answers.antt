-- `strike::strike_by_signs` meets its contract: there is room for a row of each reason. Assumes nothing.
use Rattle.strike.proofs.Ready.{tests-ready}
use Rattle.strike.proofs.strike_by_signs.Goals as goal

pub strike_rounds-requires : goal.strike_rounds-requires
strike_rounds-requires g c =
    let pre = c.requires in
    tests-ready g.row.ROWS g.row.STATES pre.0 pre.1 pre.2 pre.3 pre.4 pre.5
