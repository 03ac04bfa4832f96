-- Either test. Assumes nothing.
use Rattle.std.proofs.Common.{arith}
use Rattle.std.proofs.lemmas.Grind.{common_steps}
use Rattle.rules.specs.Book.{some_of}
use Rattle.rules.proofs.tally.Literals.some.Goals as goal

pub returns-then-s-self-ne0 : goal.returns-then-s-self-ne0
unfolding some_of
returns-then-s-self-ne0 c = grind (arith, common_steps)

pub returns-else-s-self-ne0 : goal.returns-else-s-self-ne0
unfolding some_of
returns-else-s-self-ne0 c = grind (arith, common_steps)
