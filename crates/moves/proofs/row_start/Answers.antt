-- A start is read where the starts stand.
use Rattle.moves.proofs.Layouts.{start-read}
use Rattle.moves.proofs.row_start.Goals as goal

pub returns : goal.returns
returns c = start-read _ _ c.requires.1
