-- The left side, then the right one. Assumes nothing.
use Rattle.std.proofs.Common.{arith}
use Rattle.reader.specs.Place.{part}
use Rattle.compile.proofs.RowLaws.{step_left, step_right, step-written}
use Rattle.compile.proofs.Summing.{list-ordered}
use Rattle.compile.proofs.record.step.Goals as goal

pub put_list-requires : goal.put_list-requires
unfolding part
put_list-requires c = (list-ordered (step_left _ _ _ c.step_parts-p.ensures c.requires.0), omega (arith, c.requires.1))

pub put_list-requires-2 : goal.put_list-requires-2
unfolding part
put_list-requires-2 c =
    (list-ordered (step_right _ _ _ c.step_parts-p.ensures c.requires.0), omega (arith, c.requires.1, c.put_list.ensures.keeps.long))

pub returns : goal.returns
unfolding part
returns c = step-written _ _ _ c.step_parts-p.ensures _ _ _ _ c.put_list.ensures c.put_list-2.ensures
