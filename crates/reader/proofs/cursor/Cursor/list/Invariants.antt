-- What is left of the list has the fault of the whole.
use Rattle.reader.proofs.Reading.{Listing}
use Rattle.reader.proofs.cursor.Cursor.list.Given as goal

abbrev pub invariant-loop-at : goal.invariant-loop-at
invariant-loop-at l = Listing l.s l.n l.end l.fn.self.at l.before l.at
