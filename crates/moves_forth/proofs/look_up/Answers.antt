-- The next place is written where its state stands, and left out where it does not.
use Rattle.std.proofs.Common.{arith, length, ◌<◌}
use Rattle.moves_forth.proofs.Lookups.{listed_more, listed-past}
use Rattle.moves_forth.proofs.look_up.Goals as goal
use Rattle.moves_forth.proofs.look_up.Goals.{then-stands+else-to-cells, else-stands}

pub loop-x-preserved : goal.loop-x-preserved
loop-x-preserved c =
    elim c.if-stands.branch [
      | then-stands+else-to-cells w ↦
          let inside : c.loop-x.to < length c.args.cells.now = omega arith in
          rw (w.cells-is, w.to-is)
          (listed_more c.args.list.now c.args.table.now c.args.r c.requires.0.rises _ _ _ _ _ _ _ c.requires.2.rises c.loop-x-test.true
          (c.stands.ensures.yes w.if-stands.true) inside c.loop-x.invariant)
      | else-stands w ↦
          rw (w.cells-is, w.to-is)
          (listed-past c.args.list.now c.args.table.now c.args.r c.requires.0.rises _ _ _ _ _ _ c.place-p.ensures
          (c.stands.ensures.never w.if-stands.false) c.loop-x.invariant)
    ]
