-- Both tests together. Assumes nothing.
use Rattle.std.proofs.Common.{arith}
use Rattle.std.proofs.lemmas.Grind.{common_steps}
use Rattle.rules.specs.Book.{book_kept}
use Rattle.rules.proofs.book.Book.kept.Goals as goal

pub returns-then-k-promises : goal.returns-then-k-promises
unfolding book_kept
returns-then-k-promises c = grind (arith, common_steps)

pub returns-else-k-promises : goal.returns-else-k-promises
unfolding book_kept
returns-else-k-promises c = grind (arith, common_steps)
