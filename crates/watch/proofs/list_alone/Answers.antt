-- `watch::list_alone`, by the lemmas of `Falling`.
use Rattle.std.proofs.Common.{◌<◌, length, arith}
use Rattle.watch.proofs.Falling.{alone-none, alone-inside, alone-more, alone-past, alone-done}
use Rattle.watch.proofs.list_alone.Goals as goal
use Rattle.watch.proofs.list_alone.Goals.{then-is_so, else-is_so}

pub loop-i-init : goal.loop-i-init
loop-i-init c = alone-none _ _ _ _

-- A place without a witness has room in the log.
room : (c : goal.Then-is_so) → c.loop-i.tail < length c.loop-i.log
room c = let so = c.is_so.ensures.yes c.if-is_so.true in
    alone-inside c.requires.0 c.loop-i.invariant c.loop-i-test.true so.0 so.1

pub offset_bounds-log-tail : goal.offset_bounds-log-tail
offset_bounds-log-tail c = omega (arith, room c, c.loop-i.invariant.log_long, c.requires.1)

pub bounds-log-tail : goal.bounds-log-tail
bounds-log-tail c = room c

pub overflow_add-tail : goal.overflow_add-tail
overflow_add-tail c = omega (arith, room c, c.loop-i.invariant.log_long, c.requires.1)

pub loop-i-preserved : goal.loop-i-preserved
loop-i-preserved c = elim c.if-is_so.branch [
  | then-is_so w ↦ let so = c.is_so.ensures.yes w.if-is_so.true in
      rw (w.log-is, w.tail-is) (alone-more c.requires.0 c.loop-i.invariant c.loop-i-test.true so.0 so.1)
  | else-is_so w ↦ rw (w.log-is, w.tail-is)
      (alone-past c.requires.0 c.loop-i.invariant (c.is_so.ensures.never w.if-is_so.false))
]

pub returns : goal.returns
returns c = alone-done c.requires.0 c.loop-i.invariant (omega arith) (omega arith)
