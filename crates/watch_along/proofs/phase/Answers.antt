-- `watch_along::phase`, by the lemmas of `Phasing`.
use Rattle.watch.proofs.Phasing.{phase-watched}
use Rattle.watch_along.proofs.phase.Goals as goal

pub returns : goal.returns
returns c = (
  phase-watched c.requires.before c.lost-tail.ensures c.requires.some c.rehang.ensures.0 c.fall.ensures,
  c.rehang.ensures.1,
)
