-- What following asks where no moves are stored. Assumes nothing.
use mathlib.Core.Path.{◌≡◌}
use mathlib.Core.List.{List}
use Prim.Native.Nat.{ℕ, ◌≤◌}
use lib.ListN.{length}
use Rattle.rules_signs.specs.Signs.{Signed}
use Rattle.sample_step.specs.Follow.{Followable}

-- Signs are enough, and a queue with room for every place.
pub none-followable : (book table : List ℕ) (r : ℕ) (back queue signs : List ℕ) → length back ≡ 0 → Signed book table r signs
    → r ≤ length queue
    → Followable book table r back queue signs
none-followable book table r back queue signs none signed room = record {
  stored = λ some. absurd (some none);
  tested = λ _. signed;
  in_queue = room;
}
