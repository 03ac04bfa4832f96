-- The four bytes of number i are there, and are that number's. Assumes nothing.
use Rattle.std.proofs.Common.{arith, ◌∙◌}
use Rattle.papers.proofs.Numbers.{room-for, in-bytes-at}
use Rattle.papers.proofs.RefSliceU8PartState.at.Goals as goal

pub overflow_mul-at : goal.overflow_mul-at
overflow_mul-at c = omega (arith, room-for c.args.self.now c.args.i c.requires)

pub bounds-self-at : goal.bounds-self-at
bounds-self-at c = omega (arith, room-for c.args.self.now c.args.i c.requires)

pub overflow_add-at : goal.overflow_add-at
overflow_add-at c = omega (arith, room-for c.args.self.now c.args.i c.requires)

pub bounds-self-at-2 : goal.bounds-self-at-2
bounds-self-at-2 c = omega (arith, room-for c.args.self.now c.args.i c.requires)

pub overflow_add-at-2 : goal.overflow_add-at-2
overflow_add-at-2 c = omega (arith, room-for c.args.self.now c.args.i c.requires)

pub bounds-self-at-3 : goal.bounds-self-at-3
bounds-self-at-3 c = omega (arith, room-for c.args.self.now c.args.i c.requires)

pub overflow_add-at-3 : goal.overflow_add-at-3
overflow_add-at-3 c = omega (arith, room-for c.args.self.now c.args.i c.requires)

pub bounds-self-at-4 : goal.bounds-self-at-4
bounds-self-at-4 c = omega (arith, room-for c.args.self.now c.args.i c.requires)

pub returns : goal.returns
returns c = c.from_be_bytes.ensures ∙ in-bytes-at c.args.self.now c.args.i c.requires
