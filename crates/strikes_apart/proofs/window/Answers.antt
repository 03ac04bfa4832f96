-- A number below the window, one of the window or above it, and what the whole pass shows. Assumes nothing.
use Rattle.std.proofs.Common.{◌-◌, arith}
use Rattle.strikes_apart.proofs.Windows.{seen_below, seen-later, seen-marked, seen-settled, seen-different}
use Rattle.strikes_apart.proofs.window.Goals as goal
use Rattle.strikes_apart.proofs.window.Goals.{then-k-lt-WINDOW+else-met, else-k-lt-WINDOW}

pub loop-i-preserved-then-s-low : goal.loop-i-preserved-then-s-low
loop-i-preserved-then-s-low g c = seen_below c.loop-i.invariant c.at-s.ensures c.if-s-low.true

pub loop-i-preserved : goal.loop-i-preserved
loop-i-preserved g c =
    elim c.if-k-lt-WINDOW.branch [
      | then-k-lt-WINDOW+else-met w ↦
          rw (w.marks-is, w.next-is)
          (seen-marked c.loop-i.invariant c.at-s.ensures (c.at-s.result - c.args.low) (omega arith) w.if-k-lt-WINDOW.true w.met.ensures
          w.if-met.false w.mark.ensures)
      | else-k-lt-WINDOW w ↦
          rw (w.marks-is, w.next-is)
          (seen-later c.loop-i.invariant c.at-s.ensures (omega arith) w.min-next.ensures)
    ]

pub returns-then-next-lt-ALL_STATES : goal.returns-then-next-lt-ALL_STATES
returns-then-next-lt-ALL_STATES g c =
    (c.loop-i.invariant.above, seen-settled c.loop-i.invariant (omega (arith, c.len-i-end.ensures, c.loop-i-test.false)))

pub returns-else-next-lt-ALL_STATES : goal.returns-else-next-lt-ALL_STATES
returns-else-next-lt-ALL_STATES g c =
    λ before. seen-different c.loop-i.invariant (omega (arith, c.len-i-end.ensures, c.loop-i-test.false)) before
    c.if-next-lt-ALL_STATES.false
