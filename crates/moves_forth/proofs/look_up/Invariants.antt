-- The places of the listed states so far are written.
use Rattle.moves_forth.specs.Storing.{Listed, Filled}
use Rattle.moves_forth.proofs.look_up.Given as goal

abbrev pub invariant-loop-x : goal.invariant-loop-x
invariant-loop-x l = Filled (Listed l.list l.x-index l.table l.r) l.at l.initial.cells l.cells l.to
