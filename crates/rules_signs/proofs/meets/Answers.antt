-- The bits are apart, and where there are not enough of them the book is asked. Assumes nothing.
use Rattle.std.proofs.Common.{refl}
use Rattle.rules.proofs.Saying.{move-says}
use Rattle.rules_signs.proofs.meets.Goals as goal

pub returns-else-signs-eq1 : goal.returns-else-signs-eq1
returns-else-signs-eq1 c = move-says _ refl refl c.moves.ensures
