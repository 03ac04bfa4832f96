-- `work` meets its contract. Assumes nothing.
use Rattle.std.proofs.Common.{arith, ap, ◌∙◌, Ok, is_ok}
use Rattle.std.proofs.lemmas.Result.{err_from_is_err_and}
use Rattle.clash_trials.specs.declared.Finding.{Finding}
use Rattle.clash_trials.specs.Parts.{answer_for}
use Rattle.clash.proofs.Answers.{has-count, found-roomy, drops-long, works-at-once, works-kept, works-dropping, works-at-last, works-found}
use Rattle.clash.proofs.planner.work.Goals as goal

pub bounds-sheet-6 : goal.bounds-sheet-6
bounds-sheet-6 c = has-count c.args.sheet.now c.requires.0

pub returns-in_err-whole : goal.returns-in_err-whole
returns-in_err-whole c =
    let p = err_from_is_err_and c.from_residual.result c.from_residual.ensures.1 in
    rw (p.1, p.2) (works-at-once c.mark_first.ensures c.trial.ensures _ (ap answer_for c.in_err-whole.was))

pub returns-in-CanBeKept : goal.returns-in-CanBeKept
returns-in-CanBeKept c =
    works-kept c.mark_first.ensures c.trial.ensures _
    (ap answer_for c.in_ok-whole.was ∙ ap (λ (f : Finding). answer_for (Ok f)) c.in-CanBeKept.is)

pub drop_rules-requires : goal.drop_rules-requires
drop_rules-requires c = (c.requires.0, omega (arith, c.type_inv.sheet 6))

pub returns-in_err-drop_rules : goal.returns-in_err-drop_rules
returns-in_err-drop_rules c =
    let p = err_from_is_err_and c.from_residual-in_err-drop_rules.result c.from_residual-in_err-drop_rules.ensures.1 in
    let cannot = ap answer_for c.in_ok-whole.was ∙ ap (λ (f : Finding). answer_for (Ok f)) c.in-CannotBeKept.is in
    rw (p.1, p.2) (works-dropping c.mark_first.ensures c.trial.ensures cannot c.drop_rules.ensures (ap is_ok c.in_err-drop_rules.was))

pub each_left_out-requires : goal.each_left_out-requires
each_left_out-requires c = (
  c.requires.0,
  drops-long c.drop_rules.ensures (ap is_ok c.in_ok-drop_rules.was) c.mark_first.ensures (omega (arith, c.type_inv.sheet 6)),
)

pub returns-in_err-each_left_out : goal.returns-in_err-each_left_out
returns-in_err-each_left_out c =
    let p = err_from_is_err_and c.from_residual-in_err-each_left_out.result c.from_residual-in_err-each_left_out.ensures.1 in
    let cannot = ap answer_for c.in_ok-whole.was ∙ ap (λ (f : Finding). answer_for (Ok f)) c.in-CannotBeKept.is in
    rw (p.1, p.2) (works-at-last c.mark_first.ensures c.trial.ensures cannot c.drop_rules.ensures (ap is_ok c.in_ok-drop_rules.was)
    c.each_left_out.ensures (ap answer_for c.in_err-each_left_out.was))

pub returns : goal.returns
returns c =
    let cannot = ap answer_for c.in_ok-whole.was ∙ ap (λ (f : Finding). answer_for (Ok f)) c.in-CannotBeKept.is in
    works-found c.mark_first.ensures c.trial.ensures cannot c.drop_rules.ensures (ap is_ok c.in_ok-drop_rules.was)
    c.each_left_out.ensures (found-roomy c.in_ok-each_left_out.was)
