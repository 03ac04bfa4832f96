-- `watch_along::redirect_chain`, by the lemmas of `Redirecting` on chains.
use Rattle.std.proofs.Common.{◌<◌, length, arith}
use Rattle.meaning.specs.Promises.{most_states}
use Rattle.watch_along.proofs.Redirecting.{chain-none, chain-done, chain-room, chain-further, chain-past, chain_more}
use Rattle.watch_along.proofs.redirect_chain.Goals as goal
use Rattle.watch_along.proofs.redirect_chain.Goals.{then-is_so, else-is_so}

pub loop-i-init : goal.loop-i-init
loop-i-init c = chain-none _ _ _ _ _ _ _ _ c.requires.0 c.requires.1

-- Where a place is to be redirected, the line has room for it.
room : (c : goal.Then-is_so) → (c.loop-i.tail < length c.loop-i.line) × (c.loop-i.tail < most_states)
room c = chain-room _ _ _ _ _ _ _ _ c.requires.0 c.requires.1 _ _ _ _ c.loop-i.invariant c.loop-i-test.true c.is_so.ensures
    c.if-is_so.true

pub offset_bounds-line-tail : goal.offset_bounds-line-tail
offset_bounds-line-tail c = omega (arith, (room c).1)

pub bounds-line-tail : goal.bounds-line-tail
bounds-line-tail c = (room c).0

pub overflow_add-tail : goal.overflow_add-tail
overflow_add-tail c = omega (arith, (room c).1)

pub loop-i-smaller : goal.loop-i-smaller
loop-i-smaller c = omega (
  arith,
  c.loop-i-test.true,
  chain-further _ _ _ _ _ _ _ _ c.requires.0 c.requires.1 _ _ _ _ c.loop-i.invariant c.loop-i-test.true _ c.link-i.ensures.0,
)

pub loop-i-preserved : goal.loop-i-preserved
loop-i-preserved c = elim c.if-is_so.branch [
  | then-is_so w ↦ rw (w.row-is, w.line-is, w.tail-is)
      (chain_more _ _ _ _ _ _ _ _ c.requires.0 c.requires.1 _ _ _ _ c.loop-i.invariant c.loop-i-test.true _ c.link-i.ensures.0
      c.is_so.ensures w.if-is_so.true)
  | else-is_so w ↦ rw (w.row-is, w.line-is, w.tail-is)
      (chain-past _ _ _ _ _ _ _ _ c.requires.0 c.requires.1 _ _ _ _ c.loop-i.invariant c.loop-i-test.true _ c.link-i.ensures.0
      c.is_so.ensures w.if-is_so.false)
]

pub returns : goal.returns
returns c = chain-done _ _ _ _ _ _ _ _ c.requires.0 c.requires.1 _ _ _ _ c.loop-i.invariant c.loop-i-test.false
