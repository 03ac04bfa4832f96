-- `watch_tests::turn`, by the lemmas of `Testing`.
use Rattle.std.proofs.Common.{◌<◌, length, arith}
use Rattle.meaning.specs.Promises.{most_states}
use Rattle.watch_tests.proofs.Testing.{turn-none, turn-past, turn-room, turn_more, turn-done}
use Rattle.watch_tests.proofs.turn.Goals as goal
use Rattle.watch_tests.proofs.turn.Goals.{then-is_so, else-is_so}

pub loop-i-init : goal.loop-i-init
loop-i-init c = turn-none _ _ _ _ _ _ c.requires

-- Where a place is to be redirected, the line has room for it.
room : (c : goal.Then-is_so) → (c.loop-i.tail < length c.loop-i.line) × (c.loop-i.tail < most_states)
room c = turn-room _ _ _ _ _ _ c.requires _ _ _ _ c.loop-i.invariant c.loop-i-test.true c.is_so.ensures c.if-is_so.true

pub offset_bounds-line-tail : goal.offset_bounds-line-tail
offset_bounds-line-tail c = omega (arith, (room c).1)

pub bounds-line-tail : goal.bounds-line-tail
bounds-line-tail c = (room c).0

pub overflow_add-tail : goal.overflow_add-tail
overflow_add-tail c = omega (arith, (room c).1)

pub loop-i-preserved : goal.loop-i-preserved
loop-i-preserved c = elim c.if-is_so.branch [
  | then-is_so w ↦ rw (w.row-is, w.line-is, w.tail-is)
      (turn_more _ _ _ _ _ _ c.requires _ _ _ _ c.loop-i.invariant c.loop-i-test.true c.is_so.ensures w.if-is_so.true)
  | else-is_so w ↦ rw (w.row-is, w.line-is, w.tail-is)
      (turn-past _ _ _ _ _ _ c.requires _ _ _ _ c.loop-i.invariant c.loop-i-test.true c.is_so.ensures w.if-is_so.false)
]

pub returns : goal.returns
returns c = turn-done _ _ _ _ _ _ c.requires _ _ _ _ c.loop-i.invariant (omega arith) c.loop-i-test.false
