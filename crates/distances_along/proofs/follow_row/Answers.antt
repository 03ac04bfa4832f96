-- One cell's chain more is followed.
use Rattle.std.proofs.Common.{◌<◌, arith}
use Rattle.moves.specs.Layout.{end_at}
use Rattle.distances_along.proofs.Lines.{cell-more}
use Rattle.distances_along.proofs.follow_row.Goals as goal

pub loop-e-preserved : goal.loop-e-preserved
loop-e-preserved c =
    let inside : c.loop-e.e < end_at c.args.moves.now c.args.j = omega arith in
    cell-more _ _ _ _ _ _ _ c.requires _ _ _ _ c.loop-e.invariant _ inside c.cell-c.ensures _ _ _ c.follow_chain-got.ensures
