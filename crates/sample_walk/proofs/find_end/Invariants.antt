-- The loop of `sample_walk::find_end`: the walk has come to moment b, each pair of state and aim marked and none met twice. It ends because
-- there are no more than r times the aims such pairs. Assumes nothing.
use Rattle.std.proofs.Common.{◌*◌, ◌-◌}
use Rattle.rules.specs.Book.{book_system}
use Rattle.sample_step.specs.Rows.{aims_of}
use Rattle.sample_walk.proofs.Trails.{Walking}
use Rattle.sample_walk.proofs.find_end.Given as goal

abbrev pub invariant-loop-next : goal.invariant-loop-next
invariant-loop-next l = Walking l.book l.table l.dist l.forth l.signs l.fn.words l.words l.r l.b l.at.place l.at.aim

abbrev pub decreases-loop-next : goal.decreases-loop-next
decreases-loop-next l = l.r * aims_of (book_system l.book) - l.b
