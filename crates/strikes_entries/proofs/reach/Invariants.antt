-- The first m words are below the limit. Assumes nothing.
use Rattle.strikes_entries.specs.Entries.{Under}
use Rattle.strikes_entries.proofs.reach.Given as goal

abbrev pub invariant-loop-m : goal.invariant-loop-m
invariant-loop-m g l = Under (g.W.Part.items l.words) l.limit l.m
