-- The layers before d are spread. The measure: the places not reached yet.
use Rattle.distances_tests.proofs.Turns.{Measuring}
use Rattle.distances_tests.proofs.layers.Given as goal

abbrev pub invariant-loop-left : goal.invariant-loop-left
invariant-loop-left l = Measuring l.book l.table l.r l.initial.near l.left l.d l.near l.list

abbrev pub decreases-loop-left : goal.decreases-loop-left
decreases-loop-left l = l.left
