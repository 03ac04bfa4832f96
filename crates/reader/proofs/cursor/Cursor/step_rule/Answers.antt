-- `reader::cursor::Cursor::step_rule`: refused for its shape, else its left side's fault, else its right side's. Assumes nothing.
use Rattle.std.proofs.Common.{ℕ, ◌<◌, get_or, sym, subst, ◌∙◌, add-one}
use Rattle.std.proofs.lemmas.Result.{err_from_is_err_and}
use Rattle.meaning.specs.Sheet.{byte}
use Rattle.reader.proofs.Reading.{step-short, step_count, left-refused, left-moved}
use Rattle.reader.proofs.cursor.Cursor.step_rule.Goals as goal

pub returns-then-len-lt1 : goal.returns-then-len-lt1
unfolding byte
returns-then-len-lt1 c = c.refuse.ensures ∙ step-short _ _ _ c.requires c.if-len-lt1.true

pub returns-then-s-count : goal.returns-then-s-count
unfolding byte
returns-then-s-count c =
    c.refuse-then-s-count.ensures ∙ step_count _ _ _ c.requires c.if-len-lt1.false c.if-s-count.true

pub step_parts-p-requires : goal.step_parts-p-requires
unfolding byte
step_parts-p-requires c =
    let s = c.args.s.now in
    let at = c.args.self.at in
    record {
      fits = c.requires;
      long = c.if-len-lt1.false;
      count = subst (λ (i : ℕ). get_or s i 0 < get_or s at 0) (add-one at) c.if-s-count.false;
    }

pub returns-in_err-right : goal.returns-in_err-right
unfolding byte
returns-in_err-right c =
    let p = err_from_is_err_and c.from_residual.result c.from_residual.ensures.1 in
    rw (p.1, p.2)
    (left-refused _ _ _ c.requires _ c.step_parts-p.ensures c.if-len-lt1.false c.if-s-count.false (sym c.in_err-right.ensures))

pub returns : goal.returns
unfolding byte
returns c =
    c.list-2.ensures
    ∙ (left-moved _ _ _ c.requires _ c.step_parts-p.ensures c.if-len-lt1.false c.if-s-count.false (sym c.in_ok-right.ensures)).1
