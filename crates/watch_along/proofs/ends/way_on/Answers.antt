-- `watch_along::ends::way_on`: what the test says of each place.
use Rattle.std.proofs.Common.{rules}
use Rattle.watch_along.proofs.Seeking.{next-way}
use Rattle.watch_along.proofs.ends.way_on.Goals as goal

pub returns : goal.returns
returns c = next-way _ _ _ _ _ _ c.first_next.ensures (λ j t. search rules) (λ j t u. search rules)
