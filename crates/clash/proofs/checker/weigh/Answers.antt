-- `weigh` meets its contract. Assumes nothing.
use Rattle.std.proofs.Common.{ap, ◌∙◌, Ok}
use Rattle.std.proofs.lemmas.Result.{err_from_is_err_and}
use Rattle.clash_trials.specs.declared.Finding.{Finding}
use Rattle.clash_trials.specs.Parts.{answer_for}
use Rattle.clash.proofs.Answers.{found-roomy, weighed-at-once, weighed-one-less, weighed-fight, weighed-kept, weighed-spare}
use Rattle.clash.proofs.checker.weigh.Goals as goal

pub returns-in_err-together : goal.returns-in_err-together
returns-in_err-together c =
    let p = err_from_is_err_and c.from_residual.result c.from_residual.ensures.1 in
    rw (p.1, p.2) (weighed-at-once c.trial.ensures (ap answer_for c.in_err-together.was))

pub returns-in_err-less : goal.returns-in_err-less
returns-in_err-less c =
    let p = err_from_is_err_and c.from_residual-in_err-less.result c.from_residual-in_err-less.ensures.1 in
    rw (p.1, p.2) (weighed-one-less c.trial.ensures c.each_left_out.ensures (ap answer_for c.in_err-less.was))

pub returns-in-CannotBeKept-CanBeKept : goal.returns-in-CannotBeKept-CanBeKept
returns-in-CannotBeKept-CanBeKept c =
    weighed-fight c.trial.ensures c.each_left_out.ensures
    (ap answer_for c.in_ok-together.was ∙ ap (λ (f : Finding). answer_for (Ok f)) c.in-CannotBeKept-CanBeKept.is-0)
    (ap answer_for c.in_ok-less.was ∙ ap (λ (f : Finding). answer_for (Ok f)) c.in-CannotBeKept-CanBeKept.is-1)

pub returns-in_default : goal.returns-in_default
returns-in_default c =
    weighed-spare c.trial.ensures c.each_left_out.ensures (found-roomy c.in_ok-together.was)
    (ap answer_for c.in_ok-less.was ∙ ap (λ (f : Finding). answer_for (Ok f)) c.in_default.is-1)

pub returns-in_default-2 : goal.returns-in_default-2
returns-in_default-2 c =
    weighed-kept c.trial.ensures c.each_left_out.ensures
    (ap answer_for c.in_ok-together.was ∙ ap (λ (f : Finding). answer_for (Ok f)) c.in_default.is-0)
    (found-roomy c.in_ok-less.was)
