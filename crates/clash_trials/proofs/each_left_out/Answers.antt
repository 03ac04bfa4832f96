-- `each_left_out` meets its contract. Assumes nothing.
use Rattle.std.proofs.Common.{arith, ap, ◌∙◌, Ok}
use Rattle.std.proofs.lemmas.Result.{err_from_is_err_and}
use Rattle.clash_trials.specs.declared.Finding.{Finding}
use Rattle.clash_trials.specs.Parts.{answer_for}
use Rattle.clash_trials.proofs.Loops.{each_start, each-11, each-12, each-13, each-unchosen, each_all}
use Rattle.clash_trials.proofs.each_left_out.Goals as goal
use Rattle.clash_trials.proofs.each_left_out.Goals.{in-CanBeKept, in-CannotBeKept}

pub loop-i-init : goal.loop-i-init
loop-i-init c = each_start

pub loop-i-preserved-then-marks-i-eq0 : goal.loop-i-preserved-then-marks-i-eq0
loop-i-preserved-then-marks-i-eq0 c = each-unchosen c.loop-i.invariant (omega arith)

pub left_out-requires : goal.left_out-requires
left_out-requires c = (c.requires.0, omega arith)

pub returns-in_err-less : goal.returns-in_err-less
returns-in_err-less c =
    let p = err_from_is_err_and c.from_residual.result c.from_residual.ensures.1 in
    rw p.1 (each-11 c.loop-i.invariant c.left_out.ensures (λ e. omega arith) (ap answer_for c.in_err-less.was))

pub loop-i-preserved : goal.loop-i-preserved
loop-i-preserved c =
    elim c.match-less.branch [
      | in-CanBeKept w ↦ rw w.worst-is (each-12 c.loop-i.invariant c.left_out.ensures
          (ap answer_for c.in_ok-less.was ∙ ap (λ (f : Finding). answer_for (Ok f)) w.in-CanBeKept.is))
      | in-CannotBeKept w ↦ rw w.worst-is (each-13 c.loop-i.invariant c.left_out.ensures (λ e. omega arith)
          (ap answer_for c.in_ok-less.was ∙ ap (λ (f : Finding). answer_for (Ok f)) w.in-CannotBeKept.is))
    ]

pub returns : goal.returns
returns c = each_all c.loop-i.invariant c.requires.1 (omega arith)
