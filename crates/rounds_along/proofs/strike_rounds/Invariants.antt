-- The loop of `rounds_along::strike_rounds`: the words are right before the phase that comes next (`Running`), the rows of the promises rest
-- (`Moving`), and so does the row of the ways on (`Ahead`). Assumes nothing.
use Rattle.std.proofs.Common.{◌≡◌, suc, ◌+◌, ◌-◌, ◌*◌, length, get_or}
use Rattle.moves.specs.Layout.{Backed}
use Rattle.watch_along.specs.Ends.{Ahead}
use Rattle.rounds.specs.Rows.{row_of}
use Rattle.rounds.proofs.Running.{Running}
use Rattle.rounds.proofs.Moving.{Moving}
use Rattle.rounds_along.proofs.strike_rounds.Given as goal

abbrev pub invariant-loop-course : goal.invariant-loop-course
invariant-loop-course l = record {
  running : Running l.book l.table l.fn.words l.r l.words l.course.left l.course.base l.course.reason l.course.quiet;
  moving : Moving l.book l.table l.r l.words l.wit (Backed l.back) l.log l.course.m l.course.news;
  ahead : Ahead l.words (row_of l.r 0 l.wit) l.back l.log (get_or l.course.news 0 0) l.course.m;
  wit_long : length l.wit ≡ length l.fn.wit;
  log_long : length l.log ≡ length l.fn.log;
  line_long : length l.line ≡ length l.fn.line;
}

abbrev pub decreases-loop-course : goal.decreases-loop-course
decreases-loop-course l = 32 * l.course.left + (suc l.p - l.course.quiet)
