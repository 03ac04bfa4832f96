-- `watch_along::redirect`, by the lemmas of `Redirecting` on rows.
use Rattle.std.proofs.Common.{arith}
use Rattle.watch_along.proofs.Redirecting.{row-none, row_done, cell-ready, cell-more}
use Rattle.watch_along.proofs.redirect.Goals as goal

pub loop-e-init : goal.loop-e-init
loop-e-init c = row-none _ _ _ _ _ _ _ _ c.requires _ c.row_start-e.ensures

pub redirect_chain-tail-requires : goal.redirect_chain-tail-requires
redirect_chain-tail-requires c =
    cell-ready _ _ _ _ _ _ _ _ c.requires _ _ _ _ c.loop-e.invariant _ (omega arith) c.cell-c.ensures

pub loop-e-preserved : goal.loop-e-preserved
loop-e-preserved c =
    cell-more _ _ _ _ _ _ _ _ c.requires _ _ _ _ c.loop-e.invariant _ (omega arith) c.cell-c.ensures _ _ _
    c.redirect_chain-tail.ensures

pub returns : goal.returns
returns c = row_done _ _ _ _ _ _ _ _ c.requires _ _ _ _ c.loop-e.invariant (omega arith)
