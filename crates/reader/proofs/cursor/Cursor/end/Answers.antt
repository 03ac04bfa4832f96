-- `reader::cursor::Cursor::end`: the cursor must stand behind the last byte. Assumes nothing.
use Rattle.std.proofs.Common.{◌∙◌}
use Rattle.reader.proofs.Sections.{at-end, not-at-end}
use Rattle.reader.proofs.cursor.Cursor.end.Goals as goal

pub returns-then-at-s : goal.returns-then-at-s
returns-then-at-s c = at-end c.args.s.now c.args.self.at c.if-at-s.true

pub returns-else-at-s : goal.returns-else-at-s
returns-else-at-s c = c.refuse.ensures ∙ not-at-end c.args.s.now c.args.self.at c.if-at-s.false
