-- The masks behind each other, then the least and the most. Assumes nothing.
use Rattle.std.proofs.Common.{arith}
use Rattle.reader.specs.Place.{part}
use Rattle.compile.proofs.RowLaws.{limit-list, limit-written}
use Rattle.compile.proofs.Summing.{list-ordered}
use Rattle.compile.proofs.record.limit.Goals as goal

pub put_list-requires : goal.put_list-requires
unfolding part
put_list-requires c = (list-ordered (limit-list _ _ _ c.limit_parts-p.ensures c.requires.0), omega (arith, c.requires.1))

pub returns : goal.returns
unfolding part
returns c =
    limit-written _ _ _ c.limit_parts-p.ensures _ _ _ _ _ c.put_list.ensures c.least.ensures c.put_bounds.ensures
