-- `watch_tests::loosen`, by the lemmas of `Loosening` and `Cutting`.
use Rattle.std.proofs.Common.{arith}
use Rattle.watch.proofs.Loosening.{loosening-within, loosening-turn, loosening-more, loosening-done}
use Rattle.watch_tests.proofs.Cutting.{loosening-pass}
use Rattle.watch_tests.proofs.loosen.Goals as goal

pub offset_bounds-log-h : goal.offset_bounds-log-h
offset_bounds-log-h c =
    let w = loosening-within c.requires.0 c.loop-h.invariant.2 in
    omega (arith, w, c.loop-h-test.true, c.requires.0.pointed.few)

pub bounds-log-h : goal.bounds-log-h
bounds-log-h c =
    let w = loosening-within c.requires.0 c.loop-h.invariant.2 in
    omega (arith, w, c.loop-h-test.true, c.requires.0.log_is.in-log, c.loop-h.invariant.2.cut.log_long)

pub turn-tail-requires : goal.turn-tail-requires
turn-tail-requires c = loosening-turn c.requires.0 c.loop-h.invariant.2 c.loop-h.invariant.0 c.loop-h-test.true c.requires.1

pub loop-h-smaller-then-tail-h-lt-MANY : goal.loop-h-smaller-then-tail-h-lt-MANY
loop-h-smaller-then-tail-h-lt-MANY c =
    let w = loosening-within c.requires.0 c.loop-h.invariant.2 in
    omega (arith, w, c.loop-h-test.true, c.requires.0.log_is.in-log)

-- One place's turn is over.
pub loop-h-preserved-then-tail-h-lt-MANY : goal.loop-h-preserved-then-tail-h-lt-MANY
loop-h-preserved-then-tail-h-lt-MANY c =
    let T = c.turn-tail.ensures in
    let inv = c.loop-h.invariant in (
      omega (arith, inv.0),
      omega (arith, c.loop-h-test.true, T.grows),
      loosening-more c.requires.0 inv.2 (λ i k p. omega (arith, k, inv.2.cut.long)) inv.0 c.loop-h-test.true T,
    )

pub loop-h-smaller : goal.loop-h-smaller
loop-h-smaller c =
    let w = loosening-within c.requires.0 c.loop-h.invariant.2 in
    omega (arith, w, c.loop-h-test.true, c.requires.0.log_is.in-log)

-- A pass over all places is over.
pub loop-h-preserved : goal.loop-h-preserved
loop-h-preserved c =
    let C = c.cut-tail.ensures in
    let inv = c.loop-h.invariant in (omega (arith, inv.0, inv.1), C.grows, loosening-pass c.requires.0 inv.2 C)

pub returns : goal.returns
returns c = loosening-done c.requires.0 c.loop-h.invariant.2 (omega arith)
