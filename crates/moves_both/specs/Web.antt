-- What storing the moves of a table's first r places tells. Assumes nothing.
use Rattle.std.specs.Prelude.{◌≡◌, Bool, true, false, List, ℕ}
use Rattle.moves.specs.Moves.{Forth, Back}

-- what storing tells: whether the two lists hold the moves forth and the moves back, or there was no room
pub data StoredRows (book table : List ℕ) (r : ℕ) (forth back : List ℕ) (stored : Bool) : Type 0 where
  none : stored ≡ false → StoredRows book table r forth back stored
  both : stored ≡ true → Forth book table r forth → Back book table r back → StoredRows book table r forth back stored
