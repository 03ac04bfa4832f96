-- `watch_tests::first_phase`, by the lemmas of `Testing` and `Phasing`.
use Rattle.std.proofs.Common.{◌∙◌}
use Rattle.watch.proofs.Phasing.{phase-watched}
use Rattle.watch_tests.proofs.Testing.{first-testable, first-spreading}
use Rattle.watch_tests.proofs.first_phase.Goals as goal

pub spread-requires : goal.spread-requires
spread-requires c =
    let D = c.divide-d.ensures in
    (first-testable c.requires D.0 D.1 D.2 c.copy-k.ensures, first-spreading c.requires D.0 D.1 D.2 c.copy-k.ensures)

pub returns : goal.returns
returns c = (
  phase-watched c.requires.before c.divide-d.ensures.0 c.requires.some c.spread.ensures.0 c.fall.ensures,
  c.spread.ensures.1 ∙ c.copy-k.ensures.long ∙ c.divide-d.ensures.1.long,
)
