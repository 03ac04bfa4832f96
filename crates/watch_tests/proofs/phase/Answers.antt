-- `watch_tests::phase`, by the lemmas of `Phasing`.
use Rattle.watch.proofs.Phasing.{phase-watched}
use Rattle.watch_tests.proofs.phase.Goals as goal

pub returns : goal.returns
returns c = (
  phase-watched c.requires.before c.loosen-tail.ensures c.requires.some c.rehang_lost.ensures.0 c.fall.ensures,
  c.rehang_lost.ensures.1,
)
