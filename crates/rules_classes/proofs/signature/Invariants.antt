-- The signature is below the prime number. Assumes nothing.
use Rattle.std.proofs.Common.{◌<◌}
use Rattle.rules_classes.proofs.signature.Given as goal

abbrev pub invariant-loop-i : goal.invariant-loop-i
invariant-loop-i l = l.sign < 2147483647
