-- The list's first i places are looked at.
use Rattle.std.proofs.Common.{length}
use Rattle.rules.specs.Table.{To}
use Rattle.distances_tests.proofs.Sifts.{Sifting}
use Rattle.distances_tests.proofs.spread.Given as goal

abbrev pub invariant-loop-i : goal.invariant-loop-i
invariant-loop-i l =
    Sifting (λ m. To l.book l.table m l.j) l.d (length l.initial.near) l.left l.initial.near l.initial.list l.i l.kept l.near l.list
