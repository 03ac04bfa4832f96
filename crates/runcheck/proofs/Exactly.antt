-- What the run checker's 0 means: the sheet is good, a is below the number of states, and the endless reading of the paper obeys; and
-- every such paper gets 0. On bytes the same of the numbers in them. Assumes nothing.
use mathlib.Core.Path.{◌≡◌}
use mathlib.Core.Logic.{◌↔◌}
use mathlib.Core.Option.{none}
use mathlib.Core.List.{List}
use Prim.Native.Nat.{ℕ, ◌<◌}
use lib.ListN.{length}
use Rattle.meaning.specs.System.{Obeys}
use Rattle.meaning.specs.Sheet.{first_fault}
use Rattle.meaning.specs.Papers.{reading}
use Rattle.meaning.specs.Promises.{system_in, Whole, numbers_in, state_bytes, RunChecked, RunBytesChecked}
use Rattle.meaning.proofs.Lasso.{run-accepted-exactly}
use Rattle.papers.proofs.Verdict.{zero-exactly}

-- Answer 0 on numbers.
pub run-obeys-exactly : (sheet states : List ℕ) (a n : ℕ) → RunChecked sheet states a n
    → (n ≡ 0) ↔ ((first_fault sheet ≡ none) × ((a < length states) × Obeys (system_in sheet) (reading states a)))
unfolding RunChecked
run-obeys-exactly sheet states a n c = (
  λ z. let h = (zero-exactly c).0 z in (h.0, (run-accepted-exactly _ _ _).0 h.1),
  λ h. (zero-exactly c).1 (h.0, (run-accepted-exactly _ _ _).1 h.1),
)

-- Answer 0 on bytes.
pub run-bytes-obey-exactly : (sheet states : List ℕ) (a n : ℕ) → RunBytesChecked sheet states a n
    → (n ≡ 0) ↔ ((first_fault sheet ≡ none) × Whole state_bytes states
    × ((a < length (numbers_in state_bytes states)) × Obeys (system_in sheet) (reading (numbers_in state_bytes states) a)))
unfolding RunBytesChecked
run-bytes-obey-exactly sheet states a n c = (
  λ z. let h = (zero-exactly c).0 z in (h.0, h.1.0, (run-accepted-exactly _ _ _).0 h.1.1),
  λ h. (zero-exactly c).1 (h.0, (h.1, (run-accepted-exactly _ _ _).1 h.2)),
)
