-- `judge_all` meets its contract: in a fair class each sheet is cut within the input, and its numbers have room. Assumes nothing.
use Rattle.std.proofs.Common.{arith}
use Rattle.class.specs.Desks.{desk_of}
use Rattle.class.proofs.Parts.{turning-none, turning-more, turning-room, turning-cut, turning-all}
use Rattle.class.proofs.judge_all.Goals as goal

pub loop-i-init : goal.loop-i-init
loop-i-init c =
    let a = c.args in
    turning-none a.sheets.now a.ends.now (desk_of a.table.now a.words.now a.scratch.now a.run.now a.numbers.now)

pub slice_bounds-judge_one-count : goal.slice_bounds-judge_one-count
slice_bounds-judge_one-count c = (turning-cut c.loop-i.invariant c.requires (omega arith)).0

pub slice_bounds-judge_one-end : goal.slice_bounds-judge_one-end
slice_bounds-judge_one-end c =
    let t = turning-cut c.loop-i.invariant c.requires (omega arith) in
    omega (arith, t.0, t.1)

pub judge_one-requires : goal.judge_one-requires
judge_one-requires c = omega (arith, c.requires.fits, (turning-room c.loop-i.invariant).numbers)

pub loop-i-preserved : goal.loop-i-preserved
loop-i-preserved c = turning-more c.loop-i.invariant (omega arith) c.judge_one.ensures

pub returns : goal.returns
returns c = turning-all c.loop-i.invariant (omega arith)
