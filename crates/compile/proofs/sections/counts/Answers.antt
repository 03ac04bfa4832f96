-- The sheet has its five counts, and they stand. Assumes nothing.
use Rattle.std.proofs.Common.{arith}
use Rattle.meaning.specs.Sheet.{byte}
use Rattle.reader.proofs.Good.{good-header}
use Rattle.compile.proofs.sections.counts.Goals as goal

pub bounds-sheet-3 : goal.bounds-sheet-3
bounds-sheet-3 c = omega (arith, (good-header _ c.requires.0).least)

pub bounds-sheet-4 : goal.bounds-sheet-4
bounds-sheet-4 c = omega (arith, (good-header _ c.requires.0).least)

pub bounds-sheet-5 : goal.bounds-sheet-5
bounds-sheet-5 c = omega (arith, (good-header _ c.requires.0).least)

pub bounds-sheet-6 : goal.bounds-sheet-6
bounds-sheet-6 c = omega (arith, (good-header _ c.requires.0).least)

pub bounds-sheet-7 : goal.bounds-sheet-7
bounds-sheet-7 c = omega (arith, (good-header _ c.requires.0).least)

pub returns : goal.returns
unfolding byte
returns c = (c.put_counts.ensures.counts, c.put_counts.ensures.long)
