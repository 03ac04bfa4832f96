-- The numbers below i pass. Assumes nothing.
use Rattle.std.proofs.Common.{ℕ, ◌<◌, true}
use Rattle.rules.proofs.ask.each_below.Given as goal

abbrev pub invariant-loop-i : goal.invariant-loop-i
invariant-loop-i g l = (j : ℕ) → j < l.i → goal.F-post g l.test j true
