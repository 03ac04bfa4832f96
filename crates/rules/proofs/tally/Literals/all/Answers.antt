-- Both tests together. Assumes nothing.
use Rattle.std.proofs.Common.{arith}
use Rattle.std.proofs.lemmas.Grind.{common_steps}
use Rattle.rules.specs.Book.{all_of}
use Rattle.rules.proofs.tally.Literals.all.Goals as goal

pub returns-then-s-self : goal.returns-then-s-self
unfolding all_of
returns-then-s-self c = grind (arith, common_steps)

pub returns-else-s-self : goal.returns-else-s-self
unfolding all_of
returns-else-s-self c = grind (arith, common_steps)
