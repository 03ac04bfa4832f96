-- `sample_step::nearest_in_row` meets its contract. Assumes nothing.
use Rattle.std.proofs.Common.{◌<◌, arith}
use Rattle.moves.specs.Layout.{cells_of, end_at}
use Rattle.sample_step.proofs.Scans.{nearest-all, looked-nearer, looked-not}
use Rattle.sample_step.proofs.nearest_in_row.Goals as goal
use Rattle.sample_step.proofs.nearest_in_row.Goals.{then-near-least, else-near-least}

pub loop-e-preserved : goal.loop-e-preserved
loop-e-preserved c =
    let inside : c.loop-e.e < end_at c.args.forth.now c.args.place = omega arith in
    record {
      within = omega arith;
      nearest = elim c.if-near-least.branch [
        | then-near-least w ↦ rw (w.best-is, w.least-is)
            (looked-nearer (cells_of c.args.forth.now) _ _ c.loop-e.e _ c.cell-x.ensures c.loop-e.invariant.nearest (omega arith)
            w.if-near-least.true)
        | else-near-least w ↦ rw (w.best-is, w.least-is)
            (looked-not (cells_of c.args.forth.now) _ _ c.loop-e.e _ c.cell-x.ensures c.loop-e.invariant.nearest _ c.requires.ascends inside
            w.if-near-least.false)
      ];
    }

pub returns : goal.returns
returns c =
    let inv = c.loop-e.invariant in
    nearest-all (λ x m. (m.0, m.1, omega (arith, m.1, m.2, inv.within), m.3)) (λ x m. (m.0, m.1, omega (arith, m.2), m.3)) inv.nearest
