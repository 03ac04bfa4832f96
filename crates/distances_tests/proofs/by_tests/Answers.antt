-- What is measured is put back, whichever table is lent for it.
use Rattle.std.proofs.Common.{arith}
use Rattle.distances.proofs.Parts.{near-measured}
use Rattle.distances_tests.proofs.by_tests.Goals as goal

pub returns-then-left-le-FEW_WAITING : goal.returns-then-left-le-FEW_WAITING
returns-then-left-le-FEW_WAITING c =
    (near-measured _ _ _ _ _ _ _ _ c.requires.1 (c.layers.ensures.0.answers _ _ c.begin.ensures), omega arith)

pub returns-else-left-le-FEW_WAITING : goal.returns-else-left-le-FEW_WAITING
returns-else-left-le-FEW_WAITING c = (
  near-measured _ _ _ _ _ _ _ _ c.requires.1 (c.layers-else-left-le-FEW_WAITING.ensures.0.answers _ _ c.begin.ensures),
  omega arith,
)
