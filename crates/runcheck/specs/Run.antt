-- The run checker's conditions one at a time, over any system, and its promise for a paper whose states are any part
-- (crate papers). The two public calls promise what the meaning says (RunPlaced, RunBytesChecked). Assumes nothing.
use Rattle.std.specs.Prelude.{List, ℕ, suc, ◌≤◌, ◌<◌, length, get_or}
use Rattle.meaning.specs.System.{System}
use Rattle.meaning.specs.Papers.{RunAccepted}
use Rattle.meaning.specs.Promises.{Checked}

-- each state moves to the following one
abbrev pub MovesOn : System → List ℕ → Type 0
MovesOn S states = (i : ℕ) → suc i < length states → S.Move (get_or states i 0) (get_or states (suc i) 0)

-- promise k is kept in some state from a on; every promise is
abbrev pub KeptFrom : System → List ℕ → (a k : ℕ) → Type 0
KeptFrom S states a k = (i : ℕ) × (a ≤ i) × (i < length states) × S.Kept k (get_or states i 0)

abbrev pub AllKept : System → List ℕ → (a : ℕ) → Type 0
AllKept S states a = (k : ℕ) → k < S.promises → KeptFrom S states a k

-- in a system: the part is whole, and the run of its states is accepted
unfoldable pub PaperAccepted : System → (whole : Type 0) (states : List ℕ) (a : ℕ) → Type 0
PaperAccepted S whole states a = whole × RunAccepted S states a

-- the number for a sheet, a paper and a
unfoldable pub PaperChecked : (sheet : List ℕ) (whole : Type 0) (states : List ℕ) (a n : ℕ) → Type 0
unfolding PaperAccepted
PaperChecked sheet whole states a n = Checked sheet (λ S. PaperAccepted S whole states a) n
