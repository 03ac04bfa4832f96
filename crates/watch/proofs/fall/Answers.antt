-- `watch::fall`, by the lemmas of `Falling`.
use Rattle.std.proofs.Common.{◌<◌, ◌≤◌, length, arith}
use Rattle.watch.proofs.Falling.{falling-none, falling-place, falling-more, falling-past, falling-done}
use Rattle.watch.proofs.fall.Goals as goal
use Rattle.watch.proofs.fall.Goals.{then-is_so, else-is_so}

pub loop-g-init : goal.loop-g-init
loop-g-init c = falling-none c.requires.0

pub is_so-requires : goal.is_so-requires
is_so-requires c =
    let F = c.requires.0 in
    let place = falling-place F c.loop-g.invariant c.loop-g.auto.g c.loop-g-test.true in
    (omega (arith, place, c.loop-g.invariant.long, F.log_is.in_words), place)

-- There is room in the log for one more, which is short.
room : (c : goal.Then-is_so) → c.loop-g.end < length c.loop-g.log
room c = omega (arith, c.loop-g-test.true, c.loop-g.invariant.behind, c.requires.0.within, c.loop-g.invariant.log_long)

short : (c : goal.Then-is_so) → length c.loop-g.log ≤ 16384
short c = omega (arith, c.requires.1, c.loop-g.invariant.log_long)

pub offset_bounds-log-end : goal.offset_bounds-log-end
offset_bounds-log-end c = omega (arith, room c, short c)

pub bounds-log-end : goal.bounds-log-end
bounds-log-end c = room c

pub overflow_add-end : goal.overflow_add-end
overflow_add-end c = omega (arith, room c, short c)

pub loop-g-preserved : goal.loop-g-preserved
loop-g-preserved c = elim c.if-is_so.branch [
  | then-is_so w ↦ let so = c.is_so.ensures.yes w.if-is_so.true in
      rw (w.words-is, w.log-is, w.end-is)
      (falling-more c.requires.0 c.loop-g.invariant c.loop-g.auto.g c.loop-g-test.true so.0 so.1)
  | else-is_so w ↦ rw (w.words-is, w.log-is, w.end-is)
      (falling-past c.requires.0 c.loop-g.invariant (c.is_so.ensures.never w.if-is_so.false))
]

pub returns : goal.returns
returns c = falling-done c.requires.0 c.loop-g.invariant
    (let F = c.requires.0 in let g = c.loop-g.auto.g in let n = F.grows in omega arith)
