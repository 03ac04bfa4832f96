-- What is summed and what is left make up the list's masks. Assumes nothing.
use Rattle.compile.proofs.Summing.{Summed}
use Rattle.compile.proofs.build.masks_of.Given as goal

abbrev pub invariant-loop-b : goal.invariant-loop-b
invariant-loop-b l = Summed l.literals l.b-index l.held l.unheld
