-- `watch_tests::spread_noting`: the line's first `head` places were spread from, or need not be, and what is noted is so.
use Rattle.std.proofs.Common.{◌≡◌, ◌-◌, length}
use Rattle.rules.specs.Table.{To}
use Rattle.watch_tests.specs.Tests.{Spreading, Seen}
use Rattle.watch_tests.proofs.spread_noting.Given as goal

abbrev pub invariant-loop-head : goal.invariant-loop-head
invariant-loop-head l =
    Spreading l.words l.initial.row l.row (To l.pairs.book.now l.pairs.table.now) l.line l.head l.tail l.k
    × (length l.line ≡ length l.initial.line) × Seen l.words l.row (To l.pairs.book.now l.pairs.table.now) l.seen
    × (length l.seen ≡ length l.initial.seen)

abbrev pub decreases-loop-head : goal.decreases-loop-head
decreases-loop-head l = l.k - l.head
