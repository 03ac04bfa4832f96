-- The slot stands in the table. Assumes nothing.
use Rattle.std.proofs.Common.{◌+◌, ◌<◌, length}
use Rattle.rules_classes.proofs.slot_of.Given as goal

abbrev pub invariant-loop : goal.invariant-loop
invariant-loop l = l.slot + l.slot + 1 < length l.places
