-- `what_is` meets its contract: each way out is the tests as they came out. Assumes nothing.
use Rattle.std.proofs.Common.{refl, sym, ◌∙◌}
use borrow.Author.Tests.{eq-eqb, ne_eqb}
use Rattle.audit_account.proofs.Telling.{is-by}
use Rattle.audit_follow.proofs.what_is.Goals as goal

pub returns-then-not-lawful : goal.returns-then-not-lawful
returns-then-not-lawful c = sym (is-by _ _ _ _ (sym c.lawful.ensures ∙ c.if-not-lawful.true) refl refl refl)

pub returns-then-first_state : goal.returns-then-first_state
returns-then-first_state c =
    sym (is-by _ _ _ _ (sym c.lawful.ensures ∙ c.if-not-lawful.false) (eq-eqb _ 0 c.if-count-eq0.true)
    (sym c.first_state.ensures ∙ c.if-first_state.true) refl)

pub returns-then-count-eq0 : goal.returns-then-count-eq0
returns-then-count-eq0 c =
    sym (is-by _ _ _ _ (sym c.lawful.ensures ∙ c.if-not-lawful.false) (eq-eqb _ 0 c.if-count-eq0.true)
    (sym c.first_state.ensures ∙ c.if-first_state.false) refl)

pub returns-then-broke : goal.returns-then-broke
returns-then-broke c =
    sym (is-by _ _ _ _ (sym c.lawful.ensures ∙ c.if-not-lawful.false) (ne_eqb _ 0 c.if-count-eq0.false) refl c.if-broke.true)

pub returns : goal.returns
returns c = sym (is-by _ _ _ _ (sym c.lawful.ensures ∙ c.if-not-lawful.false) (ne_eqb _ 0 c.if-count-eq0.false) refl c.if-broke.false)
