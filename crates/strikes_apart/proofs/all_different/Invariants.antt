-- The numbers below `low` are settled. Assumes nothing.
use Rattle.std.proofs.Common.{◌-◌}
use Rattle.ground.specs.States.{all_states}
use Rattle.strikes_apart.specs.Windows.{Settled}
use Rattle.strikes_apart.proofs.all_different.Given as goal

abbrev pub invariant-loop-low : goal.invariant-loop-low
invariant-loop-low g l = Settled (g.S.Part.items l.states) l.low

abbrev pub decreases-loop-low : goal.decreases-loop-low
decreases-loop-low g l = all_states - l.low
