-- `watch_along::loosen`, by the lemmas of `Loosening`.
use Rattle.std.proofs.Common.{◌≤◌, length, arith}
use Rattle.watch.proofs.Loosening.{loosening-none, loosening-within, loosening-place, loosening-turn, loosening-more, loosening-done}
use Rattle.watch_along.proofs.Redirecting.{redirectable-along}
use Rattle.watch_along.proofs.loosen.Goals as goal

pub loop-h-init : goal.loop-h-init
loop-h-init c = (omega arith, c.requires.0.since, loosening-none c.requires.0)

-- The log is no longer than there are places.
within : (c : goal.In-loop-h) → c.loop-h.tail ≤ length c.args.row.now
within c = loosening-within c.requires.0 c.loop-h.invariant.2

pub offset_bounds-log-h : goal.offset_bounds-log-h
offset_bounds-log-h c = omega (arith, within c, c.loop-h-test.true, c.requires.0.pointed.few)

pub bounds-log-h : goal.bounds-log-h
bounds-log-h c = let w = loosening-within c.requires.0 c.loop-h.invariant.2 in
    omega (arith, w, c.loop-h-test.true, c.requires.0.log_is.in-log, c.loop-h.invariant.2.cut.log_long)

pub redirect-tail-requires : goal.redirect-tail-requires
redirect-tail-requires c =
    let inv = c.loop-h.invariant in
    redirectable-along c.requires.1 inv.2.cut.long (loosening-place c.requires.0 inv.2 inv.0 c.loop-h-test.true)
    (loosening-turn c.requires.0 inv.2 inv.0 c.loop-h-test.true c.requires.2)

pub loop-h-smaller : goal.loop-h-smaller
loop-h-smaller c = let w = loosening-within c.requires.0 c.loop-h.invariant.2 in
    omega (arith, w, c.loop-h-test.true, c.requires.0.log_is.in-log)

pub loop-h-preserved : goal.loop-h-preserved
loop-h-preserved c =
    let T = c.redirect-tail.ensures in
    let inv = c.loop-h.invariant in (
      omega (arith, inv.0),
      omega (arith, c.loop-h-test.true, T.grows),
      loosening-more c.requires.0 inv.2 (λ i k p. p) inv.0 c.loop-h-test.true T,
    )

pub returns : goal.returns
returns c = loosening-done c.requires.0 c.loop-h.invariant.2 (omega arith)
