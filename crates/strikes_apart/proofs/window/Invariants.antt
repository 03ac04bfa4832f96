-- What is seen after i places. Assumes nothing.
use Rattle.strikes_apart.proofs.Windows.{Seen}
use Rattle.strikes_apart.proofs.window.Given as goal

abbrev pub invariant-loop-i : goal.invariant-loop-i
invariant-loop-i g l = Seen (g.S.Part.items l.states) l.low l.marks l.next l.i
