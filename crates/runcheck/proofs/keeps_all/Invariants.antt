-- The promises before promise k are kept. Assumes nothing.
use Rattle.std.proofs.Common.{ℕ, ◌<◌}
use Rattle.rules.specs.Book.{book_system}
use Rattle.runcheck.specs.Run.{KeptFrom}
use Rattle.runcheck.proofs.keeps_all.Given as goal

abbrev pub invariant-loop-k : goal.invariant-loop-k
invariant-loop-k g l = (j : ℕ) → j < l.k → KeptFrom (book_system l.book) (g.S.Part.items l.states) l.a j
