-- An end is read where the ends stand.
use Rattle.std.proofs.Common.{rules}
use Rattle.moves.proofs.Layouts.{end_read}
use Rattle.moves.proofs.row_end.Goals as goal

pub returns : goal.returns
returns c = (end_read _ _ c.requires.1, search rules)
