-- What is mixed stays small. Assumes nothing.
use Rattle.std.proofs.Common.{◌<◌}
use Rattle.rules_signs.specs.Signs.{mixed_below}
use Rattle.rules_signs.proofs.slot.Given as goal

abbrev pub invariant-loop-word : goal.invariant-loop-word
invariant-loop-word l = l.mix < mixed_below
