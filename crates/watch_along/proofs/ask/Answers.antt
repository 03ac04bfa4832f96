-- `watch_along::ask`, by the lemmas of `Asking`.
use Rattle.std.proofs.Common.{◌<◌, length, refl, arith}
use Rattle.meaning.specs.Promises.{most_states}
use Rattle.watch_along.proofs.Asking.{asked-none, ask-past, ask-room, ask-more, asked-done}
use Rattle.watch_along.proofs.ask.Goals as goal
use Rattle.watch_along.proofs.ask.Goals.{in-Some, in_default}

pub loop-g-init : goal.loop-g-init
loop-g-init c = asked-none _ _ _ _ _ _ _ c.requires

-- Where a helper was found, there is room in the line.
room : (c : goal.In-Some) → (c.in-Some.j < most_states) × (c.loop-g.n < length c.loop-g.line) × (c.loop-g.n < most_states)
room c = ask-room _ _ _ _ _ _ _ c.requires _ _ _ _ c.loop-g.invariant c.loop-g-test.true _ refl _ c.in-Some.ensures

pub offset_bounds-line-n : goal.offset_bounds-line-n
offset_bounds-line-n c = omega (arith, (room c).2)

pub bounds-line-n : goal.bounds-line-n
bounds-line-n c = (room c).1

pub overflow_add-n : goal.overflow_add-n
overflow_add-n c = omega (arith, (room c).2)

pub loop-g-preserved : goal.loop-g-preserved
loop-g-preserved c = elim c.match-helper.branch [
  | in-Some w ↦ rw (w.row-is, w.line-is, w.n-is)
      (ask-more _ _ _ _ _ _ _ c.requires _ _ _ _ c.loop-g.invariant c.loop-g-test.true _ refl _ w.in-Some.ensures)
  | in_default w ↦ rw (w.row-is, w.line-is, w.n-is)
      (ask-past _ _ _ _ _ _ _ c.requires _ _ _ _ c.loop-g.invariant c.loop-g-test.true _ refl w.in_default.ensures)
]

pub returns : goal.returns
returns c = asked-done _ _ _ _ _ _ _ c.requires _ _ _ _ c.loop-g.invariant
    (let o = c.loop-g-test.false in omega arith)
