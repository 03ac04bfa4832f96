-- The first i states are lawful. Assumes nothing.
use Rattle.std.proofs.Common.{ℕ, ◌<◌, get_or}
use Rattle.rules.specs.Book.{book_system}
use Rattle.strikecheck.proofs.all_lawful.Given as goal

abbrev pub invariant-loop-i : goal.invariant-loop-i
invariant-loop-i g l = (j : ℕ) → j < l.i → (book_system l.book).Lawful (get_or (g.S.Part.items l.states) j 0)
