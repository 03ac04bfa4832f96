-- `strike::strike_stored` meets its contract: the moves can be stored. Assumes nothing.
use Rattle.std.proofs.Common.{refl}
use Rattle.strike.proofs.Ready.{strikable-storable}
use Rattle.strike.proofs.strike_stored.Goals as goal

pub store-requires : goal.store-requires
store-requires c = (strikable-storable c.requires.0, refl, refl)
