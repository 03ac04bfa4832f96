-- `watch_tests::divide`, by the lemmas of `Dividing`.
use Rattle.std.proofs.Common.{◌<◌, length, arith}
use Rattle.meaning.specs.Promises.{most_states}
use Rattle.watch_tests.proofs.Dividing.{dividing-none, dividing-front, dividing-room, dividing-done}
use Rattle.watch_tests.proofs.Dividing.{dividing-lone, dividing-helped, dividing-struck}
use Rattle.watch_tests.proofs.divide.Goals as goal
use Rattle.watch_tests.proofs.divide.Goals.{then-words-i-eq0+then-row-i, then-words-i-eq0+else-row-i, else-words-i-eq0}

pub loop-i-init : goal.loop-i-init
loop-i-init c = dividing-none _ _ _ _ _

-- Where a place stands alone, the log has room for it.
pub offset_bounds-log-tail : goal.offset_bounds-log-tail
offset_bounds-log-tail c =
    let room = dividing-room c.requires.0 c.loop-i.invariant c.requires.1 c.loop-i-test.true (omega arith) c.if-row-i.true in
    omega (arith, room.1)

pub bounds-log-tail : goal.bounds-log-tail
bounds-log-tail c = (dividing-room c.requires.0 c.loop-i.invariant c.requires.1 c.loop-i-test.true (omega arith) c.if-row-i.true).0

pub overflow_add-tail : goal.overflow_add-tail
overflow_add-tail c =
    let room = dividing-room c.requires.0 c.loop-i.invariant c.requires.1 c.loop-i-test.true (omega arith) c.if-row-i.true in
    omega (arith, room.1)

-- The line has room for one with a witness.
front : (c : goal.Else-row-i) → (c.loop-i.helped < length c.loop-i.line) × (c.loop-i.helped < most_states)
    × (c.loop-i.i < most_states)
front c = dividing-front c.requires.0 c.loop-i.invariant c.requires.2 c.loop-i-test.true

pub offset_bounds-line-helped : goal.offset_bounds-line-helped
offset_bounds-line-helped c = omega (arith, (front c).1)

pub bounds-line-helped : goal.bounds-line-helped
bounds-line-helped c = (front c).0

pub overflow_add-helped : goal.overflow_add-helped
overflow_add-helped c = omega (arith, (front c).1)

pub loop-i-preserved : goal.loop-i-preserved
loop-i-preserved c = let inv = c.loop-i.invariant in let more = c.loop-i-test.true in
    elim c.if-words-i-eq0.branch [
      | then-words-i-eq0+then-row-i w ↦ rw (w.log-is, w.line-is, w.helped-is, w.tail-is)
          (dividing-lone c.requires.0 inv more w.if-words-i-eq0.true w.if-row-i.true)
      | then-words-i-eq0+else-row-i w ↦ rw (w.log-is, w.line-is, w.helped-is, w.tail-is)
          (dividing-helped c.requires.0 inv more c.requires.2 w.if-words-i-eq0.true w.if-row-i.false)
      | else-words-i-eq0 w ↦ rw (w.log-is, w.line-is, w.helped-is, w.tail-is)
          (dividing-struck c.requires.0 inv more w.if-words-i-eq0.false)
    ]

pub returns : goal.returns
returns c = dividing-done c.requires.0 c.loop-i.invariant c.loop-i-test.false
