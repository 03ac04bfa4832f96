-- A row is set, and then a link.
use Rattle.moves.proofs.Layouts.{place_set}
use Rattle.moves.proofs.set_place.Goals as goal

pub returns : goal.returns
returns c = place_set _ _ _ _ _ _ _ c.set_row.ensures c.set_link.ensures
