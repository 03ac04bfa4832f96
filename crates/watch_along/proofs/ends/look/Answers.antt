-- `watch_along::ends::look`, by the lemmas of `Ending`.
use Rattle.std.proofs.Common.{arith}
use Rattle.watch_along.proofs.Ending.{looking-none, looking-more, looking-past, looking-done}
use Rattle.watch_along.proofs.ends.look.Goals as goal
use Rattle.watch_along.proofs.ends.look.Goals.{in-Some, in_default}

pub loop-g-init : goal.loop-g-init
loop-g-init c = looking-none _ _ _ _ _

-- The row is as long as it was.
pub loop-g-preserved : goal.loop-g-preserved
loop-g-preserved c =
    let place = c.requires.places _ c.loop-g.auto.g c.loop-g-test.true in
    elim c.match-way_on.branch [
      | in-Some w ↦ rw w.row-is (looking-more c.loop-g.invariant c.requires.few place w.in-Some.ensures)
      | in_default w ↦ rw w.row-is (looking-past c.loop-g.invariant w.in_default.ensures)
    ]

pub returns : goal.returns
returns c = looking-done c.loop-g.invariant (let o = c.loop-g-test.false in omega arith)
