-- The live ones of the first i rules are listed. Assumes nothing.
use Rattle.rules_signs.proofs.Listing.{Listed}
use Rattle.rules_signs.proofs.live.list_live.Given as goal

abbrev pub invariant-loop-i : goal.invariant-loop-i
invariant-loop-i l = Listed l.book l.table l.r l.live l.n l.i
