-- A link is written.
use Rattle.moves.proofs.Layouts.{link_set}
use Rattle.moves.proofs.set_link.Goals as goal

pub returns : goal.returns
returns c = link_set _ _ _
