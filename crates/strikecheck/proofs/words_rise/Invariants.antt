-- The words up to place i never fall. Assumes nothing.
use Rattle.std.proofs.Common.{ℕ, suc, ◌<◌, ◌≤◌, get_or}
use Rattle.strikecheck.proofs.words_rise.Given as goal

abbrev pub invariant-loop-i : goal.invariant-loop-i
invariant-loop-i g l =
    let words = g.W.Part.items l.words in
    (j : ℕ) → suc j < l.i → get_or words j 0 ≤ get_or words (suc j) 0
