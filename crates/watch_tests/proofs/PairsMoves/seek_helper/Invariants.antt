-- `watch_tests::Pairs::seek_helper`: none of the first j places helps.
use Rattle.rules.specs.Table.{To}
use Rattle.watch_tests.proofs.Testing.{NoHelper}
use Rattle.watch_tests.proofs.PairsMoves.seek_helper.Given as goal

abbrev pub invariant-loop-j : goal.invariant-loop-j
invariant-loop-j l = NoHelper l.words l.row (To l.self.book.now l.self.table.now) l.i l.j
