-- The places of layer d below j are spread.
use Rattle.distances_tests.proofs.Turns.{Spreading}
use Rattle.distances_tests.proofs.layer.Given as goal

abbrev pub invariant-loop-j : goal.invariant-loop-j
invariant-loop-j l = Spreading l.book l.table l.r l.d l.left l.initial.near l.initial.list l.j l.kept l.near l.list
