-- Both tests together. Assumes nothing.
use Rattle.std.proofs.Common.{arith}
use Rattle.std.proofs.lemmas.Grind.{common_steps}
use Rattle.rules.specs.Book.{book_first}
use Rattle.rules.proofs.book.Book.first_state.Goals as goal

pub returns-then-lawful : goal.returns-then-lawful
unfolding book_first
returns-then-lawful c = grind (arith, common_steps)

pub returns-else-lawful : goal.returns-else-lawful
unfolding book_first
returns-else-lawful c = grind (arith, common_steps)
