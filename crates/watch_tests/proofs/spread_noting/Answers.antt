-- `watch_tests::spread_noting`, by the lemmas of `Sifting`.
use Rattle.std.proofs.Common.{◌∙◌, slice_index_or}
use Rattle.watch_tests.proofs.Sifting.{spreading-next, spreading-sifted, seen-kept, seen-noted}
use Rattle.watch_tests.proofs.spread_noting.Goals as goal
use Rattle.watch_tests.proofs.spread_noting.Goals.{then-not-is_shut, else-not-is_shut}

-- The place at `head` was spread from, and is noted; or it is passed by.
pub loop-head-preserved : goal.loop-head-preserved
loop-head-preserved c =
    let inv = c.loop-head.invariant in
    elim c.if-not-is_shut.branch [
      | then-not-is_shut w ↦ let E = w.sift-tail.ensures in
          let N = w.note.ensures in
          rw (w.row-is, w.line-is, w.seen-is, w.tail-is) (
            spreading-sifted inv.0 E.0 E.1 E.2,
            E.4 ∙ inv.1,
            seen-noted {t = slice_index_or c.loop-head.line c.loop-head.head 0} (seen-kept E.0.hangs inv.2) E.1 N,
            N.long ∙ inv.3,
          )
      | else-not-is_shut w ↦ rw (w.row-is, w.line-is, w.seen-is, w.tail-is)
          (spreading-next inv.0 (c.is_shut.ensures w.if-not-is_shut.false _ inv.2), inv.1, inv.2, inv.3)
    ]
