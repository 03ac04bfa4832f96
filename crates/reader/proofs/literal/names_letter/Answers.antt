-- `reader::literal::names_letter`: a literal's letter is its size. Assumes nothing.
use Rattle.std.proofs.Common.{Bool, ◌&&◌, leb, sym, ap, ◌∙◌}
use borrow.Author.Tests.{le-leb, lt-leb}
use Rattle.reader.proofs.Literals.{names-by-size}
use Rattle.reader.proofs.literal.names_letter.Goals as goal

pub returns-then-letter-ge1 : goal.returns-then-letter-ge1
returns-then-letter-ge1 c =
    ap (λ (t : Bool). t && leb c.letter_of-letter.result c.args.n) (sym (le-leb 1 c.letter_of-letter.result c.if-letter-ge1.true))
    ∙ names-by-size c.args.n c.args.b c.letter_of-letter.ensures

pub returns-else-letter-ge1 : goal.returns-else-letter-ge1
returns-else-letter-ge1 c =
    let t = lt-leb 1 c.letter_of-letter.result c.if-letter-ge1.false in
    t ∙ ap (λ (t : Bool). t && leb c.letter_of-letter.result c.args.n) (sym t)
    ∙ names-by-size c.args.n c.args.b c.letter_of-letter.ensures
