-- The rules that are left to try end it as all of them do. Assumes nothing.
use Rattle.clash_trials.specs.Trials.{lent_three}
use Rattle.clash_trials.proofs.Loops.{DropsSoFar}
use Rattle.clash_trials.proofs.drop_rules.Given as goal

abbrev pub invariant-loop-i : goal.invariant-loop-i
invariant-loop-i l =
    DropsSoFar l.sheet (lent_three l.initial.table l.initial.words l.initial.scratch) l.fn.count l.initial.marks l.i l.marks
    (lent_three l.table l.words l.scratch)
