-- The remainders of the first i words are at most the number of promises. Assumes nothing.
use Rattle.std.proofs.Common.{ℕ, ◌%◌, ◌<◌, ◌≤◌, get_or}
use Rattle.rules.specs.Book.{book_system}
use Rattle.strikecheck.proofs.reasons_fit.Given as goal

abbrev pub invariant-loop-i : goal.invariant-loop-i
invariant-loop-i g l = (j : ℕ) → j < l.i → get_or (g.W.Part.items l.words) j 0 % 32 ≤ (book_system l.book).promises
