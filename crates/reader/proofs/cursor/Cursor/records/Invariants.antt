-- What is left of the section has the fault of the whole.
use Rattle.std.proofs.Common.{◌-◌}
use Rattle.reader.specs.Answer.{kind_of}
use Rattle.reader.proofs.Sections.{Section}
use Rattle.reader.proofs.cursor.Cursor.records.Given as goal

abbrev pub invariant-loop : goal.invariant-loop
invariant-loop l = Section (kind_of l.kind) l.n l.s l.count l.fn.self.at (l.count - l.counter) l.c.at
