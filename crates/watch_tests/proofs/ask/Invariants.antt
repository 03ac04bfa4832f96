-- `watch_tests::ask`: the line's places before g were asked.
use Rattle.rules.specs.Table.{To}
use Rattle.watch_tests.proofs.Sifting.{AskedOn}
use Rattle.watch_tests.proofs.ask.Given as goal

abbrev pub invariant-loop-g : goal.invariant-loop-g
invariant-loop-g l = AskedOn l.words l.initial.row l.row (To l.pairs.book.now l.pairs.table.now) l.initial.line l.line l.n l.g l.k
