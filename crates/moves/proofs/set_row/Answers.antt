-- A start and an end are written.
use Rattle.moves.proofs.Layouts.{row-set}
use Rattle.moves.proofs.set_row.Goals as goal

pub returns : goal.returns
returns c = row-set _ _ _ _ c.requires.1
