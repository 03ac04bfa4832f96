-- `reader::walk`: the header's fault is the sheet's; behind a header without fault the sections' fault is. Assumes nothing.
use Rattle.std.proofs.Common.{sym, ◌∙◌}
use Rattle.std.proofs.lemmas.Result.{err_from_is_err_and}
use Rattle.reader.proofs.Whole.{header-passed, sections-are-whole, header_refused}
use Rattle.reader.proofs.walk.Goals as goal

pub returns-in_err-first : goal.returns-in_err-first
returns-in_err-first c =
    let p = err_from_is_err_and c.from_residual.result c.from_residual.ensures.1 in
    rw (p.1, p.2) (header_refused c.args.sheet.now (sym c.in_err-first.ensures))

pub sections-requires : goal.sections-requires
sections-requires c = header-passed c.args.sheet.now (sym c.in_ok-first.ensures)

pub returns : goal.returns
returns c = c.sections.ensures ∙ sections-are-whole c.args.sheet.now (sym c.in_ok-first.ensures)
