-- The states up to place i each move to the following one. Assumes nothing.
use Rattle.std.proofs.Common.{ℕ, suc, ◌<◌}
use Rattle.rules.specs.Book.{book_system}
use Rattle.runcheck.proofs.Running.{Moves}
use Rattle.runcheck.proofs.moves_on.Given as goal

abbrev pub invariant-loop-i : goal.invariant-loop-i
invariant-loop-i g l = (j : ℕ) → suc j < l.i → Moves (book_system l.book) (g.S.Part.items l.states) j (suc j)
