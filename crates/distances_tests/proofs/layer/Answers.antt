-- A place of the layer is spread, or another serves for it; any other place is passed by.
use Rattle.std.proofs.Common.{arith}
use Rattle.distances_tests.proofs.Turns.{spreading-past, spreading-served, spreading-more, spreading-full, spreading-done}
use Rattle.distances_tests.proofs.layer.Goals as goal
use Rattle.distances_tests.proofs.layer.Goals.{
  then-near-j+then-not-served,
  else-near-j,
  else-near-j-via-then-near-j+else-not-served,
  else-near-j-via-else-near-j,
}

pub returns-then-kept-eq0 : goal.returns-then-kept-eq0
returns-then-kept-eq0 c =
    (spreading-full _ _ _ _ _ _ _ _ c.requires.0 _ _ _ _ c.loop-j.invariant c.if-kept-eq0.true, omega arith)

pub loop-j-preserved : goal.loop-j-preserved
loop-j-preserved c =
    elim c.if-near-j.branch [
      | then-near-j+then-not-served w ↦
          rw (w.kept-is, w.near-is, w.list-is)
          (spreading-more _ _ _ _ _ _ _ _ c.requires.0 _ _ _ _ c.loop-j.invariant _ _ _ (omega arith) w.if-near-j.true w.spread-kept.ensures)
      | else-near-j w ↦
          rw (w.kept-is, w.near-is, w.list-is)
          (elim w.else-near-j.branch [
            | else-near-j-via-then-near-j+else-not-served v ↦
                spreading-served _ _ _ _ _ _ _ _ c.requires.0 _ _ _ _ c.loop-j.invariant v.if-near-j.true
                (v.served.ensures.0 v.if-not-served.false)
            | else-near-j-via-else-near-j v ↦
                spreading-past _ _ _ _ _ _ _ _ c.requires.0 _ _ _ _ c.loop-j.invariant v.if-near-j.false
          ])
    ]

pub returns : goal.returns
returns c = (spreading-done _ _ _ _ _ _ _ _ c.requires.0 _ _ _ _ c.loop-j.invariant (omega arith), omega arith)
