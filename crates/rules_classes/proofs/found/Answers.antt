-- A remainder by the number of slots is one of them. Assumes nothing.
use Rattle.rules_classes.proofs.Slots.{slot-inside}
use Rattle.rules_classes.proofs.found.Goals as goal

pub slot_of-slot-requires : goal.slot_of-slot-requires
slot_of-slot-requires c = (c.requires.1, slot-inside _ _ c.requires.0)
