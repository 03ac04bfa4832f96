-- `watch_along::ends::phase`, by the lemmas of `Ending`.
use Rattle.watch_along.proofs.Ending.{phase-ended}
use Rattle.watch_along.proofs.ends.phase.Goals as goal

pub returns : goal.returns
returns c = phase-ended c.requires.ahead c.requires.woven c.lost-tail.ensures c.look.ensures c.fall.ensures c.requires.some
