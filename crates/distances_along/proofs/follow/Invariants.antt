-- The rows of the queue's first `head` places are followed. The measure: the places that can still come to stand in the queue.
use Rattle.std.proofs.Common.{◌-◌}
use Rattle.rules.specs.Book.{book_system}
use Rattle.distances_along.proofs.Along.{Tracing}
use Rattle.distances_along.proofs.follow.Given as goal

abbrev pub invariant-loop-head : goal.invariant-loop-head
invariant-loop-head l =
    Tracing (book_system l.book) ((book_system l.book).Kept l.k) l.table l.words l.r l.back l.initial.queue l.queue l.near l.tail l.head

abbrev pub decreases-loop-head : goal.decreases-loop-head
decreases-loop-head l = l.r - l.head
