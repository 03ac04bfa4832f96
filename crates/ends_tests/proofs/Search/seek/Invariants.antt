-- `ends_tests::Search::seek`: no place from `lo` on and below j will do.
use Rattle.std.proofs.Common.{slice_index_or}
use Rattle.ends_tests.proofs.Answers.{Passed}
use Rattle.ends_tests.proofs.Search.seek.Given as goal

abbrev pub invariant-loop-j : goal.invariant-loop-j
invariant-loop-j l =
    Passed l.self.book.now l.self.table.now l.self.words.now l.self.word (slice_index_or l.self.table.now l.self.i 0) l.lo l.j
