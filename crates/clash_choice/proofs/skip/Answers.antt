-- `skip` meets its contract. Assumes nothing.
use Rattle.std.proofs.Common.{arith, refl}
use Rattle.meaning.specs.Sheet.{after_at}
use Rattle.clash_choice.proofs.Places.{next_fits, after_next}
use Rattle.clash_choice.proofs.skip.Goals as goal

pub loop-record-init : goal.loop-record-init
unfolding after_at
loop-record-init c = refl

pub next-at-requires : goal.next-at-requires
next-at-requires c = next_fits c.requires (omega arith) c.loop-record.invariant

pub loop-record-preserved : goal.loop-record-preserved
loop-record-preserved c = after_next _ _ _ c.loop-record.invariant c.next-at.ensures
