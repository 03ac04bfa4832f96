-- The loop of `rounds_tests::strike_rounds`: the words are right before the phase that comes next (`Running`), the rows of the promises rest
-- (`Moving`), and the pointers are right. Assumes nothing.
use Rattle.std.proofs.Common.{◌≡◌, suc, ◌+◌, ◌-◌, ◌*◌, length}
use Rattle.rules.specs.Table.{To}
use Rattle.ends_tests.specs.Phases.{Pointers}
use Rattle.rounds.specs.Rows.{row_of}
use Rattle.rounds.proofs.Running.{Running}
use Rattle.rounds.proofs.Moving.{Moving}
use Rattle.rounds_tests.proofs.strike_rounds.Given as goal

abbrev pub invariant-loop-course : goal.invariant-loop-course
invariant-loop-course l = record {
  running : Running l.book l.table l.fn.words l.r l.words l.course.left l.course.base l.course.reason l.course.quiet;
  moving : Moving l.book l.table l.r l.words l.wit (To l.book l.table) l.log l.course.m l.course.news;
  pointers : Pointers l.book l.table l.words (row_of l.r 0 l.wit) l.r;
  wit_long : length l.wit ≡ length l.fn.wit;
  log_long : length l.log ≡ length l.fn.log;
  line_long : length l.line ≡ length l.fn.line;
}

abbrev pub decreases-loop-course : goal.decreases-loop-course
decreases-loop-course l = 32 * l.course.left + (suc l.p - l.course.quiet)
