-- The loop of `sample_step::promise_rows`: the rows of the first q promises are measured. Assumes nothing.
use Rattle.std.proofs.Common.{◌≡◌, length}
use Rattle.rules.specs.Book.{book_system}
use Rattle.sample_step.proofs.Distances.{RowsTo}
use Rattle.sample_step.proofs.promise_rows.Given as goal

abbrev pub invariant-loop-q : goal.invariant-loop-q
invariant-loop-q l = record {
  long : length l.dist ≡ length l.fn.dist;
  rows : RowsTo (book_system l.book) l.table l.r l.q l.dist;
  queue_long : length l.queue ≡ length l.fn.queue;
}
