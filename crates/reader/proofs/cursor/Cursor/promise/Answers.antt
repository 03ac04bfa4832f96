-- `reader::cursor::Cursor::promise`: refused unless one byte long, else its list. Assumes nothing.
use Rattle.std.proofs.Common.{◌≡◌, ◌+◌, refl, ◌∙◌, arith}
use Rattle.meaning.specs.Sheet.{byte, next_at}
use Rattle.reader.proofs.Reading.{promise-long, promise-shaped}
use Rattle.reader.proofs.cursor.Cursor.promise.Goals as goal

pub returns-then-s-at-ne1 : goal.returns-then-s-at-ne1
unfolding byte
returns-then-s-at-ne1 c = c.refuse.ensures ∙ promise-long _ _ _ c.requires c.if-s-at-ne1.true

pub returns : goal.returns
unfolding byte next_at
returns c =
    let a = c.args in
    let next : a.self.at + 2 ≡ next_at a.s.now a.self.at = omega arith in
    c.list.ensures ∙ promise-shaped a.s.now a.n a.self.at c.requires _ _ refl next c.if-s-at-ne1.false
