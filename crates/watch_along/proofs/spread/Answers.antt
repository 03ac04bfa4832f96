-- `watch_along::spread`, by the lemmas of `Spreading`.
use Rattle.std.proofs.Common.{arith}
use Rattle.watch_along.proofs.Spreading.{spread_none, spread-next, spread-ready, spread-more, spread-done}
use Rattle.watch_along.proofs.spread.Goals as goal

pub loop-head-init : goal.loop-head-init
loop-head-init c = spread_none _ _ _ _ _ c.requires

pub offset_bounds-line-head : goal.offset_bounds-line-head
offset_bounds-line-head c =
    omega (arith, (spread-next _ _ _ _ _ c.requires _ _ _ _ c.loop-head.invariant c.loop-head-test.true).3)

pub bounds-line-head : goal.bounds-line-head
bounds-line-head c = (spread-next _ _ _ _ _ c.requires _ _ _ _ c.loop-head.invariant c.loop-head-test.true).2

pub redirect-tail-requires : goal.redirect-tail-requires
redirect-tail-requires c = spread-ready _ _ _ _ _ c.requires _ _ _ _ c.loop-head.invariant c.loop-head-test.true

pub loop-head-smaller : goal.loop-head-smaller
loop-head-smaller c =
    let next = (spread-next _ _ _ _ _ c.requires _ _ _ _ c.loop-head.invariant c.loop-head-test.true).2 in
    omega (arith, next, c.loop-head.invariant.line_long)

pub loop-head-preserved : goal.loop-head-preserved
loop-head-preserved c =
    spread-more _ _ _ _ _ c.requires _ _ _ _ c.loop-head.invariant c.loop-head-test.true _ _ _ c.redirect-tail.ensures

pub returns : goal.returns
returns c = (
  spread-done _ _ _ _ _ c.requires _ _ _ _ c.loop-head.invariant (omega arith),
  c.loop-head.invariant.long,
  c.loop-head.invariant.line_long,
)
