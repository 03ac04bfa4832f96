-- A cell is read where the cells stand.
use Rattle.moves.proofs.Layouts.{cell-read}
use Rattle.moves.proofs.cell.Goals as goal

pub returns : goal.returns
returns c = cell-read _ _ c.requires.1
