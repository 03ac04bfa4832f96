-- `reader::cursor::Cursor::first_rule`: its list. Assumes nothing.
use Rattle.std.proofs.Common.{◌≡◌, ◌+◌, get_or, refl, ◌∙◌, arith}
use Rattle.meaning.specs.Sheet.{byte, next_at}
use Rattle.reader.proofs.Reading.{first-shaped}
use Rattle.reader.proofs.cursor.Cursor.first_rule.Goals as goal

pub returns : goal.returns
unfolding byte next_at
returns c =
    let a = c.args in
    let next : a.self.at + 1 + get_or a.s.now a.self.at 0 ≡ next_at a.s.now a.self.at = omega arith in
    c.list.ensures ∙ first-shaped a.s.now a.n a.self.at c.requires _ _ refl next
