-- Either test. Assumes nothing.
use Rattle.std.proofs.Common.{arith}
use Rattle.std.proofs.lemmas.Grind.{common_steps}
use Rattle.rules.specs.Book.{step_ok}
use Rattle.rules.proofs.book.Book.step_ok.Goals as goal

pub returns-then-not-step_asks : goal.returns-then-not-step_asks
unfolding step_ok
returns-then-not-step_asks c = grind (arith, common_steps)

pub returns-else-not-step_asks : goal.returns-else-not-step_asks
unfolding step_ok
returns-else-not-step_asks c = grind (arith, common_steps)
