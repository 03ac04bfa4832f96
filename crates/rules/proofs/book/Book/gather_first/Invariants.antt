-- The first i first rules' clauses are gathered. Assumes nothing.
use Rattle.std.proofs.Common.{◌≡◌, length}
use Rattle.rules.specs.Book.{gather_size}
use Rattle.rules.proofs.Gathering.{FirstSofar}
use Rattle.rules.proofs.book.Book.gather_first.Given as goal

abbrev pub invariant-loop-i : goal.invariant-loop-i
invariant-loop-i l = record { long : length l.clauses ≡ gather_size; gathered : FirstSofar l.self l.clauses l.i }
