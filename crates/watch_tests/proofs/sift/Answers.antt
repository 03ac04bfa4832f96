-- `watch_tests::sift`, by the lemmas of `Sifting`.
use Rattle.std.proofs.Common.{arith}
use Rattle.watch_tests.proofs.Ranking.{brought-swap}
use Rattle.watch_tests.proofs.Sifting.{sifted-more, sifted-past, sifted-shut}
use Rattle.watch_tests.proofs.sift.Goals as goal
use Rattle.watch_tests.proofs.sift.Goals.{then-joins, else-joins}

pub loop-g-preserved : goal.loop-g-preserved
loop-g-preserved c = elim c.if-joins.branch [
  | then-joins w ↦ let so = c.joins.ensures.yes w.if-joins.true in
      rw (w.row-is, w.line-is, w.n-is)
      (sifted-more c.loop-g.invariant c.requires.2 c.loop-g-test.true so.1 so.2
      (brought-swap w.swap.ensures.by_index w.swap.ensures.len))
  | else-joins w ↦ let free = (c.loop-g.invariant.spreading.ranked.places _ c.loop-g-test.true).1 in
      rw (w.row-is, w.line-is, w.n-is)
      (sifted-past c.loop-g.invariant c.requires.2 c.loop-g-test.true (c.joins.ensures.never w.if-joins.false free))
]

pub returns : goal.returns
returns c =
    let inv = c.loop-g.invariant in
    let over = c.loop-g-test.false in
    (inv.spreading, sifted-shut inv c.requires.2 (omega arith), inv.at_head, inv.begun, inv.line_long)
