-- The first i entries show what they must, `near` and `far` have not gone too far, and there are places for classes. Assumes nothing.
use Rattle.std.proofs.Common.{◌≡◌, length}
use Rattle.rules.specs.Book.{book_system}
use Rattle.rules_classes.specs.Classes.{few_places}
use Rattle.strikes_entries.proofs.Entries.{Entered}
use Rattle.strikes_entries.proofs.entries_right.Given as goal

abbrev pub invariant-loop-i : goal.invariant-loop-i
invariant-loop-i g l =
    Entered (book_system l.book) (g.S.Part.items l.states) (g.W.Part.items l.words) l.i l.near l.far × (length l.earlier ≡ few_places)
