-- The words before k pass. Assumes nothing.
use Rattle.std.proofs.Common.{ℕ, ◌+◌, ◌<◌, true, get_or}
use Rattle.rules_signs.proofs.words.each_passes.Given as goal

abbrev pub invariant-loop-k : goal.invariant-loop-k
invariant-loop-k g l = (j : ℕ) → j < l.k → goal.F-post g l.test (get_or l.signs (l.a + j) 0) (get_or l.signs (l.u + j) 0) true
