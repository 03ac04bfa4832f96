-- What the first i step rules ask is gathered. Assumes nothing.
use Rattle.std.proofs.Common.{◌≡◌, length}
use Rattle.rules.specs.Book.{gather_size}
use Rattle.rules.proofs.Gathering.{StepSofar}
use Rattle.rules.proofs.book.Book.gather_next.Given as goal

abbrev pub invariant-loop-i : goal.invariant-loop-i
invariant-loop-i l = record { long : length l.clauses ≡ gather_size; gathered : StepSofar l.self l.s l.clauses l.n l.i }
