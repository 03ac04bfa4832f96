-- `ends_tests::dead_ends`, by the lemmas of `Passes` and `Noting`.
use Rattle.std.proofs.Common.{◌<◌, ◌∙◌, length, length-set, arith, refl}
use Rattle.ends_tests.proofs.Noting.{noting-none, noting-more}
use Rattle.ends_tests.proofs.Passes.{passing-none, passing-past, passing-moved, passing-fell, passing-done, fell-room}
use Rattle.ends_tests.proofs.dead_ends.Goals as goal
use Rattle.ends_tests.proofs.dead_ends.Goals.{then-pending+in-Some, then-pending+in_default, else-pending}

pub loop-i-init : goal.loop-i-init
loop-i-init c = let pre = c.requires in (passing-none _ _ _ _ _ _ _ pre.pointers, noting-none _ _ _ _ pre.log_is, refl)

pub loop-i-preserved : goal.loop-i-preserved
loop-i-preserved c =
    let pre = c.requires in
    let inv = c.loop-i.invariant in
    let more = c.loop-i-test.true in
    let inside : c.loop-i.i < length c.loop-i.row = omega arith in
    elim c.if-pending.branch [
      | then-pending+in-Some w ↦ rw (w.words-is, w.row-is, w.log-is, w.end-is) (
        passing-moved _ _ _ _ _ _ pre.unphased _ _ _ _ inv.0 more inside _ c.named-pointer.ensures _ c.pending.ensures
            w.if-pending.true w.in-Some.ensures,
        inv.1,
        length-set c.loop-i.row _ _ ∙ inv.2,
      )
      | then-pending+in_default w ↦ let room = fell-room pre inv.0 inv.1 more c.pending.ensures w.if-pending.true in
          rw (w.words-is, w.row-is, w.log-is, w.end-is) (
            passing-fell _ _ _ _ _ _ pre.unphased _ _ _ _ inv.0 inv.1.grows more _ c.named-pointer.ensures c.pending.ensures
                w.if-pending.true w.in_default.ensures,
            noting-more _ _ _ _ _ _ _ _ _ inv.1 more room,
            inv.2,
          )
      | else-pending w ↦ rw (w.words-is, w.row-is, w.log-is, w.end-is) (
        passing-past _ _ _ _ _ _ pre.unphased _ _ _ _ inv.0 more _ c.named-pointer.ensures c.pending.ensures
            w.if-pending.false,
        inv.1,
        inv.2,
      )
    ]

pub bounds-log-end : goal.bounds-log-end
bounds-log-end c =
    let inv = c.loop-i.invariant in
    fell-room c.requires inv.0 inv.1 c.loop-i-test.true c.pending.ensures c.if-pending.true

pub returns : goal.returns
returns c =
    let inv = c.loop-i.invariant in
    let over = c.loop-i-test.false in
    passing-done c.requires _ _ _ _ _ (omega arith) inv.0 inv.1 inv.2
