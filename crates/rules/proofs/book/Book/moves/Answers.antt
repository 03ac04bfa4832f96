-- The three tests together. Assumes nothing.
use Rattle.std.proofs.Common.{arith}
use Rattle.std.proofs.lemmas.Grind.{common_steps}
use Rattle.rules.specs.Book.{book_moves}
use Rattle.rules.proofs.book.Book.moves.Goals as goal

pub returns-then-lawful-2 : goal.returns-then-lawful-2
unfolding book_moves
returns-then-lawful-2 c = grind (arith, common_steps)

pub returns-else-lawful-2 : goal.returns-else-lawful-2
unfolding book_moves
returns-else-lawful-2 c = grind (arith, common_steps)
