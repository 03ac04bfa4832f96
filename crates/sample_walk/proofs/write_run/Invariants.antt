-- The loop of `sample_walk::write_run`: the first i states of the cut sample run are written. Assumes nothing.
use Rattle.rules.specs.Book.{book_system}
use Rattle.sample_walk.proofs.Writings.{Writing}
use Rattle.sample_walk.proofs.write_run.Given as goal

abbrev pub invariant-loop-i : goal.invariant-loop-i
invariant-loop-i l =
    Writing (book_system l.book) l.table l.end.b l.end.at.place l.end.at.aim l.fn.run l.run l.r l.i l.at.place l.at.aim l.a
