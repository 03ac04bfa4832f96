-- What `measure::distances` asks of stored moves, signs and queue. Assumes nothing.
use Rattle.std.specs.Prelude.{◌≡◌, List, ℕ, ◌≤◌, length}
use Rattle.moves.specs.Moves.{Back}
use Rattle.rules_signs.specs.Signs.{Signed}

-- if moves are stored, they are the moves back, else there are signs; the queue has room for every place
pub record Followable (book table : List ℕ) (r : ℕ) (back queue signs : List ℕ) : Type 0 where
  pub stored : (length back ≡ 0 → ⊥) → Back book table r back
  pub tested : length back ≡ 0 → Signed book table r signs
  pub in_queue : r ≤ length queue
