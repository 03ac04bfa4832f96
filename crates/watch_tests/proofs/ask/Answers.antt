-- `watch_tests::ask`, by the lemmas of `Sifting`.
use Rattle.watch_tests.proofs.Ranking.{brought-swap}
use Rattle.watch_tests.proofs.Sifting.{asked-on-more, asked-on-past}
use Rattle.watch_tests.proofs.ask.Goals as goal
use Rattle.watch_tests.proofs.ask.Goals.{in-Some, in_default}

pub loop-g-preserved : goal.loop-g-preserved
loop-g-preserved c = elim c.match-helper.branch [
  | in-Some w ↦ rw (w.row-is, w.line-is, w.n-is)
      (asked-on-more c.loop-g.invariant c.loop-g-test.true w.in-Some.ensures (brought-swap w.swap.ensures.by_index w.swap.ensures.len))
  | in_default w ↦ rw (w.row-is, w.line-is, w.n-is) (asked-on-past c.loop-g.invariant c.loop-g-test.true w.in_default.ensures)
]
