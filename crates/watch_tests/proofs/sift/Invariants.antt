-- `watch_tests::sift`: the line's places behind its first n, before g, do not join.
use Rattle.rules.specs.Table.{To}
use Rattle.watch_tests.proofs.Sifting.{SiftedTo}
use Rattle.watch_tests.proofs.sift.Given as goal

abbrev pub invariant-loop-g : goal.invariant-loop-g
invariant-loop-g l =
    SiftedTo l.words l.initial.row l.row (To l.pairs.book.now l.pairs.table.now) l.initial.line l.line l.head l.from l.n l.g l.k
