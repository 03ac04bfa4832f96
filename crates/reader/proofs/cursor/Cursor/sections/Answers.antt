-- `reader::cursor::Cursor::sections`: the four sections and the end in a row, each cursor within the sheet. Assumes nothing.
use Rattle.std.proofs.Common.{sym, ap, arith, ◌∙◌}
use Rattle.std.proofs.lemmas.Result.{err_from_is_err_and}
use Rattle.meaning.specs.Sheet.{byte, letters_in, a_limit}
use Rattle.reader.specs.Answer.{records_step}
use Rattle.reader.specs.Header.{limits_in}
use Rattle.reader.proofs.Sections.{moved-within}
use Rattle.reader.proofs.Whole.{limits-refused, firsts-refused, steps-refused, promises-refused, sections-ended}
use Rattle.reader.proofs.cursor.Cursor.sections.Goals as goal

pub records-requires : goal.records-requires
unfolding byte letters_in
records-requires c = omega (arith, c.requires.behind, c.requires.least)

pub returns-in_err-firsts : goal.returns-in_err-firsts
unfolding byte letters_in
returns-in_err-firsts c =
    let p = err_from_is_err_and c.from_residual.result c.from_residual.ensures.1 in
    let s = c.args.s.now in
    rw (p.1, p.2)
    (limits-refused s (ap (records_step a_limit (letters_in s) s (limits_in s)) (sym c.requires.behind) ∙ sym c.in_err-firsts.ensures))

pub records-requires-2 : goal.records-requires-2
unfolding byte letters_in
records-requires-2 c =
    moved-within _ _ _ _ _ (sym c.in_ok-firsts.ensures) (omega (arith, c.requires.behind, c.requires.least))

pub returns-in_err-steps : goal.returns-in_err-steps
unfolding byte letters_in
returns-in_err-steps c =
    let p = err_from_is_err_and c.from_residual-in_err-steps.result c.from_residual-in_err-steps.ensures.1 in
    let s = c.args.s.now in
    rw (p.1, p.2)
    (firsts-refused s (ap (records_step a_limit (letters_in s) s (limits_in s)) (sym c.requires.behind) ∙ sym c.in_ok-firsts.ensures)
    (sym c.in_err-steps.ensures))

pub records-requires-3 : goal.records-requires-3
unfolding byte letters_in
records-requires-3 c =
    moved-within _ _ _ _ _ (sym c.in_ok-steps.ensures)
    (moved-within _ _ _ _ _ (sym c.in_ok-firsts.ensures) (omega (arith, c.requires.behind, c.requires.least)))

pub returns-in_err-promises : goal.returns-in_err-promises
unfolding byte letters_in
returns-in_err-promises c =
    let p = err_from_is_err_and c.from_residual-in_err-promises.result c.from_residual-in_err-promises.ensures.1 in
    let s = c.args.s.now in
    rw (p.1, p.2)
    (steps-refused s (ap (records_step a_limit (letters_in s) s (limits_in s)) (sym c.requires.behind) ∙ sym c.in_ok-firsts.ensures)
    (sym c.in_ok-steps.ensures) (sym c.in_err-promises.ensures))

pub records-requires-4 : goal.records-requires-4
unfolding byte letters_in
records-requires-4 c =
    moved-within _ _ _ _ _ (sym c.in_ok-promises.ensures)
    (moved-within _ _ _ _ _ (sym c.in_ok-steps.ensures)
    (moved-within _ _ _ _ _ (sym c.in_ok-firsts.ensures) (omega (arith, c.requires.behind, c.requires.least))))

pub returns-in_err-last : goal.returns-in_err-last
unfolding byte letters_in
returns-in_err-last c =
    let p = err_from_is_err_and c.from_residual-in_err-last.result c.from_residual-in_err-last.ensures.1 in
    let s = c.args.s.now in
    rw (p.1, p.2)
    (promises-refused s (ap (records_step a_limit (letters_in s) s (limits_in s)) (sym c.requires.behind) ∙ sym c.in_ok-firsts.ensures)
    (sym c.in_ok-steps.ensures) (sym c.in_ok-promises.ensures) (sym c.in_err-last.ensures))

pub returns : goal.returns
unfolding byte letters_in
returns c =
    let s = c.args.s.now in
    c.end.ensures
    ∙ sections-ended s (ap (records_step a_limit (letters_in s) s (limits_in s)) (sym c.requires.behind) ∙ sym c.in_ok-firsts.ensures)
    (sym c.in_ok-steps.ensures) (sym c.in_ok-promises.ensures) (sym c.in_ok-last.ensures)
