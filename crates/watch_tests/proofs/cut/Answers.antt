-- `watch_tests::cut`, by the lemmas of `Cutting`.
use Rattle.std.proofs.Common.{◌<◌, length, arith}
use Rattle.meaning.specs.Promises.{most_states}
use Rattle.watch_tests.proofs.Cutting.{cut-none, cut-past, cut-room, cut-more, cut-done}
use Rattle.watch_tests.proofs.cut.Goals as goal
use Rattle.watch_tests.proofs.cut.Goals.{then-is_cut, else-is_cut}

pub loop-i-init : goal.loop-i-init
loop-i-init c = cut-none _ _ _ _

-- Where a place is cut off, the log has room for it.
room : (c : goal.Then-is_cut) → (c.loop-i.tail < length c.loop-i.log) × (c.loop-i.tail < most_states)
room c = cut-room c.requires c.loop-i.invariant c.loop-i-test.true c.is_cut.ensures c.if-is_cut.true

pub offset_bounds-log-tail : goal.offset_bounds-log-tail
offset_bounds-log-tail c = omega (arith, (room c).1)

pub bounds-log-tail : goal.bounds-log-tail
bounds-log-tail c = (room c).0

pub overflow_add-tail : goal.overflow_add-tail
overflow_add-tail c = omega (arith, (room c).1)

pub loop-i-preserved : goal.loop-i-preserved
loop-i-preserved c = elim c.if-is_cut.branch [
  | then-is_cut w ↦ rw (w.row-is, w.log-is, w.tail-is)
      (cut-more c.requires c.loop-i.invariant c.loop-i-test.true c.is_cut.ensures w.if-is_cut.true)
  | else-is_cut w ↦ rw (w.row-is, w.log-is, w.tail-is)
      (cut-past c.requires c.loop-i.invariant c.loop-i-test.true c.is_cut.ensures w.if-is_cut.false)
]

pub returns : goal.returns
returns c = cut-done c.loop-i-test.false c.loop-i.invariant
