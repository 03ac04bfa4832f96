-- A cell and an end are written.
use Rattle.moves.proofs.Layouts.{appended}
use Rattle.moves.proofs.append.Goals as goal

pub returns : goal.returns
returns c = appended _ _ _ _ c.requires.1 c.requires.3 c.row_end-e.ensures.0
