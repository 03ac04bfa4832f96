-- A listed place that moves to j gets its number, and any other is listed again.
use Rattle.distances_tests.proofs.Sifts.{sift-reach, sift-keep}
use Rattle.distances_tests.proofs.spread.Goals as goal
use Rattle.distances_tests.proofs.spread.Goals.{then-meets, else-meets}

pub loop-i-preserved : goal.loop-i-preserved
loop-i-preserved c =
    elim c.if-meets.branch [
      | then-meets w ↦
          rw (w.near-is, w.list-is, w.kept-is)
          (sift-reach _ _ _ _ _ _ c.requires.0 c.requires.3 _ _ _ _ c.loop-i.invariant c.loop-i-test.true
          (c.meets.ensures.yes w.if-meets.true))
      | else-meets w ↦
          rw (w.near-is, w.list-is, w.kept-is)
          (sift-keep _ _ _ _ _ _ c.requires.0 c.requires.3 _ _ _ _ c.loop-i.invariant c.loop-i-test.true
          (c.meets.ensures.never w.if-meets.false))
    ]
