-- The loop of `sample_step::first_place`: none of the places so far holds a first state. Assumes nothing.
use Rattle.std.proofs.Common.{◌≡◌, ℕ, ◌<◌, get_or, false}
use Rattle.rules.specs.Book.{book_first}
use Rattle.sample_step.proofs.first_place.Given as goal

abbrev pub invariant-loop-place : goal.invariant-loop-place
invariant-loop-place l = (y : ℕ) → y < l.place → book_first l.book (get_or l.table y 0) ≡ false
