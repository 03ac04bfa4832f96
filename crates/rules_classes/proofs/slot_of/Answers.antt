-- A remainder by the number of slots is one of them. Assumes nothing.
use Rattle.std.proofs.Common.{arith}
use Rattle.rules_classes.proofs.Slots.{slot-inside}
use Rattle.rules_classes.proofs.slot_of.Goals as goal

pub loop-preserved : goal.loop-preserved
loop-preserved c = slot-inside _ _ (omega (arith, c.requires.1))
