-- `drop_rules` meets its contract. Assumes nothing.
use Rattle.std.proofs.Common.{arith, ap, ◌∙◌, Ok}
use Rattle.std.proofs.lemmas.Result.{err_from_is_err_and}
use Rattle.clash_trials.specs.declared.Finding.{Finding}
use Rattle.clash_trials.specs.Parts.{answer_for}
use Rattle.clash_trials.proofs.Loops.{drop-start, drop-11, drop-12, drop-13, drop_all}
use Rattle.clash_trials.proofs.drop_rules.Goals as goal

pub loop-i-init : goal.loop-i-init
loop-i-init c = drop-start

pub left_out-requires : goal.left_out-requires
left_out-requires c = (c.requires.0, omega (arith, c.loop-i.invariant.inside))

pub returns-in_err-without : goal.returns-in_err-without
returns-in_err-without c =
    let p = err_from_is_err_and c.from_residual.result c.from_residual.ensures.1 in
    rw p.1 (drop-11 c.loop-i.invariant c.left_out.ensures (omega arith) (ap answer_for c.in_err-without.was))

pub loop-i-preserved-in-CanBeKept : goal.loop-i-preserved-in-CanBeKept
loop-i-preserved-in-CanBeKept c =
    drop-12 c.loop-i.invariant c.left_out.ensures (omega arith)
    (ap answer_for c.in_ok-without.was ∙ ap (λ (f : Finding). answer_for (Ok f)) c.in-CanBeKept.is)

pub loop-i-preserved : goal.loop-i-preserved
loop-i-preserved c =
    drop-13 c.loop-i.invariant c.left_out.ensures (omega arith)
    (ap answer_for c.in_ok-without.was ∙ ap (λ (f : Finding). answer_for (Ok f)) c.in-CannotBeKept.is)

pub returns : goal.returns
returns c = drop_all c.loop-i.invariant (omega arith)
