-- `watch_along::Forth::seek_helper`: what the test says of each place.
use Rattle.std.proofs.Common.{rules, refl}
use Rattle.watch_along.proofs.Seeking.{next-helper}
use Rattle.watch_along.proofs.ForthMoves.seek_helper.Goals as goal

pub returns : goal.returns
returns c = next-helper _ _ _ _ _ _ refl _ c.first_next.ensures (λ j b t. search rules)
