-- `ends_tests::dead_ends`: the first i places are judged, the pointers are right, and what fell stands in the log.
use Rattle.std.proofs.Common.{◌≡◌, length}
use Rattle.ends_tests.proofs.Noting.{Noting}
use Rattle.ends_tests.proofs.Passes.{Passing}
use Rattle.ends_tests.proofs.dead_ends.Given as goal

abbrev pub invariant-loop-i : goal.invariant-loop-i
invariant-loop-i l =
    Passing l.book l.table (length l.initial.row) l.word l.initial.words l.m l.i l.end l.words l.row
    × Noting (length l.initial.row) l.initial.words l.initial.log l.m l.end l.words l.log
    × (length l.row ≡ length l.initial.row)
