-- The literals behind the length byte. Assumes nothing.
use Rattle.std.proofs.Common.{refl, arith}
use Rattle.meaning.specs.Sheet.{next_at, byte}
use Rattle.reader.specs.Place.{part}
use Rattle.compile.proofs.RowLaws.{record-list, record-written}
use Rattle.compile.proofs.Summing.{list-ordered}
use Rattle.compile.proofs.record.list.Goals as goal

pub overflow_add-start : goal.overflow_add-start
unfolding next_at byte
overflow_add-start c = let f = c.requires.0.fits in omega arith

pub bounds-sheet-at : goal.bounds-sheet-at
unfolding next_at byte
bounds-sheet-at c = let f = c.requires.0.fits in omega arith

pub overflow_add-end : goal.overflow_add-end
unfolding next_at byte
overflow_add-end c = let f = c.requires.0.fits in omega arith

pub slice_bounds-put_list-end : goal.slice_bounds-put_list-end
unfolding next_at byte
slice_bounds-put_list-end c = let f = c.requires.0.fits in omega arith

pub put_list-requires : goal.put_list-requires
unfolding byte part
put_list-requires c = (list-ordered (record-list _ _ _ refl c.requires.0), omega (arith, c.requires.1))

pub returns : goal.returns
unfolding byte part
returns c = record-written _ _ _ refl _ _ _ c.put_list.ensures
