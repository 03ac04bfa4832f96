-- The numbers passed are in order and in the sheet, and the last of them is `above`. Assumes nothing.
use Rattle.clash_choice.proofs.Proposing.{ProposedUpTo}
use Rattle.clash_choice.proofs.proposals.is_proposal.Given as goal

abbrev pub invariant-loop-number : goal.invariant-loop-number
invariant-loop-number l = ProposedUpTo l.count l.rules l.number-index l.above
