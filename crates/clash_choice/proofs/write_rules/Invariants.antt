-- The marked ones of the rules passed are written. Assumes nothing.
use Rattle.clash_choice.specs.Writing.{RulesWritten}
use Rattle.clash_choice.proofs.write_rules.Given as goal

abbrev pub invariant-loop-mark : goal.invariant-loop-mark
invariant-loop-mark l = RulesWritten l.sheet l.marks l.mark-index l.fn.at l.initial.buffer l.buffer l.p
