-- The marks are those of the numbers passed. Assumes nothing.
use Rattle.std.proofs.Common.{◌≡◌, take}
use Rattle.clash_choice.specs.Proposals.{marks_of}
use Rattle.clash_choice.proofs.proposals.mark.Given as goal

abbrev pub invariant-loop-number : goal.invariant-loop-number
invariant-loop-number l = l.marks ≡ marks_of (take l.number-index l.rules)
