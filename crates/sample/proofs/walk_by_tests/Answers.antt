-- `sample::walk_by_tests` meets its contract: no moves are stored, and the signs are given. Assumes nothing.
use Rattle.std.proofs.Common.{refl}
use Rattle.sample.proofs.Ways.{tests-ready, tested-ways}
use Rattle.sample.proofs.walk_by_tests.Goals as goal

pub walk-requires : goal.walk-requires
walk-requires g c =
    let pre = c.requires in
    let ready = tests-ready g.row.DISTANCES g.row.STATES pre.0 pre.1 pre.2 pre.4 in
    let ways = tested-ways _ _ refl ready.3 ready.2 in
    (ready.0, ready.1, ways.0, ways.1)
