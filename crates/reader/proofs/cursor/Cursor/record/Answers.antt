-- `reader::cursor::Cursor::record`: a record past the end is missing; any other is read by its kind. Assumes nothing.
use Rattle.std.proofs.Common.{sym, ap, ◌∙◌, arith}
use Rattle.meaning.specs.Sheet.{byte, next_at, a_limit, a_first, a_step, a_promise}
use Rattle.reader.specs.Answer.{kind_of, next_step}
use Rattle.reader.specs.declared.Kind as K
use Rattle.reader.proofs.Sections.{record-missing, record-there}
use Rattle.reader.proofs.cursor.Cursor.record.Goals as goal

pub returns-then-s-at : goal.returns-then-s-at
unfolding byte next_at
returns-then-s-at c = c.refuse.ensures ∙ record-missing _ _ _ _ (omega arith)

pub returns-then-len-s : goal.returns-then-len-s
unfolding byte next_at
returns-then-len-s c = c.refuse-then-len-s.ensures ∙ record-missing _ _ _ _ (omega arith)

pub returns-in-Limit : goal.returns-in-Limit
unfolding byte next_at
returns-in-Limit c = c.limit.ensures ∙ record-there a_limit _ _ _ (omega arith)
    ∙ ap (λ (k : K.Kind). next_step (kind_of k) c.args.n c.args.s.now c.args.self.at) (sym c.in-Limit.is)

pub returns-in-FirstRule : goal.returns-in-FirstRule
unfolding byte next_at
returns-in-FirstRule c = c.first_rule.ensures ∙ record-there a_first _ _ _ (omega arith)
    ∙ ap (λ (k : K.Kind). next_step (kind_of k) c.args.n c.args.s.now c.args.self.at) (sym c.in-FirstRule.is)

pub returns-in-StepRule : goal.returns-in-StepRule
unfolding byte next_at
returns-in-StepRule c = c.step_rule.ensures ∙ record-there a_step _ _ _ (omega arith)
    ∙ ap (λ (k : K.Kind). next_step (kind_of k) c.args.n c.args.s.now c.args.self.at) (sym c.in-StepRule.is)

pub returns-in-Promise : goal.returns-in-Promise
unfolding byte next_at
returns-in-Promise c = c.promise.ensures ∙ record-there a_promise _ _ _ (omega arith)
    ∙ ap (λ (k : K.Kind). next_step (kind_of k) c.args.n c.args.s.now c.args.self.at) (sym c.in-Promise.is)
