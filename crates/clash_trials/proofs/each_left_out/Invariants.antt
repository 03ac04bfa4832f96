-- Each rule passed was left out by itself, and the worst of it is known. Assumes nothing.
use Rattle.std.specs.Prelude.{Ok}
use Rattle.clash_trials.specs.Trials.{lent_three}
use Rattle.clash_trials.specs.Parts.{answer_for}
use Rattle.clash_trials.proofs.Loops.{EachSoFar}
use Rattle.clash_trials.proofs.each_left_out.Given as goal

abbrev pub invariant-loop-i : goal.invariant-loop-i
invariant-loop-i l =
    EachSoFar l.sheet (lent_three l.initial.table l.initial.words l.initial.scratch) l.initial.marks l.i (answer_for (Ok l.worst)) l.marks
    (lent_three l.table l.words l.scratch)
