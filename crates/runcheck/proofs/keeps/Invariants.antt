-- No state from a up to place i keeps promise k. Assumes nothing.
use Rattle.rules.specs.Book.{book_system}
use Rattle.runcheck.proofs.Running.{Missed}
use Rattle.runcheck.proofs.keeps.Given as goal

abbrev pub invariant-loop-i : goal.invariant-loop-i
invariant-loop-i g l = Missed (book_system l.book) (g.S.Part.items l.states) l.a l.k l.i
