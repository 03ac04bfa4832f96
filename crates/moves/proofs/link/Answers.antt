-- A link is read where the links stand.
use Rattle.std.proofs.Common.{rules}
use Rattle.moves.proofs.Layouts.{link-read}
use Rattle.moves.proofs.link.Goals as goal

pub returns : goal.returns
returns c = (link-read _ _, search rules)
