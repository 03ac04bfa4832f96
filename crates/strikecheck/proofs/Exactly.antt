-- What the strike checker's 0 means: the sheet is good and no endless run obeys it; and the checker says 0 exactly for a good sheet and a
-- list that document 01 accepts. On bytes the same of the numbers in them. Assumes nothing.
use mathlib.Core.Path.{◌≡◌}
use mathlib.Core.Logic.{◌↔◌}
use mathlib.Core.Option.{none}
use mathlib.Core.List.{List}
use Prim.Native.Nat.{ℕ}
use Rattle.meaning.specs.System.{CanBeKept}
use Rattle.meaning.specs.Sheet.{first_fault}
use Rattle.meaning.specs.Papers.{StrikesAccepted}
use Rattle.meaning.specs.Promises.{system_in, Whole, numbers_in, state_bytes, word_bytes, StrikesChecked, StrikesBytesChecked}
use Rattle.meaning.proofs.Soundness.{accepted-strikes-no-run}
use Rattle.papers.proofs.Verdict.{zero-exactly}

-- Answer 0 on numbers, exactly; and what follows.
pub strikes-accepted-exactly : (sheet states words : List ℕ) (n : ℕ) → StrikesChecked sheet states words n
    → (n ≡ 0) ↔ ((first_fault sheet ≡ none) × StrikesAccepted (system_in sheet) states words)
unfolding StrikesChecked
strikes-accepted-exactly sheet states words n c = zero-exactly c

pub strikes-no-run : (sheet states words : List ℕ) (n : ℕ) → StrikesChecked sheet states words n → n ≡ 0
    → (first_fault sheet ≡ none) × (CanBeKept (system_in sheet) → ⊥)
strikes-no-run sheet states words n c z =
    let h = (strikes-accepted-exactly sheet states words n c).0 z in (h.0, accepted-strikes-no-run h.1)

-- Answer 0 on bytes, exactly; and what follows.
pub strikes-bytes-accepted-exactly : (sheet states words : List ℕ) (n : ℕ) → StrikesBytesChecked sheet states words n
    → (n ≡ 0) ↔ ((first_fault sheet ≡ none)
    × (Whole state_bytes states × Whole word_bytes words × StrikesAccepted (system_in sheet) (numbers_in state_bytes states)
    (numbers_in word_bytes words)))
unfolding StrikesBytesChecked
strikes-bytes-accepted-exactly sheet states words n c = zero-exactly c

pub strikes-bytes-no-run : (sheet states words : List ℕ) (n : ℕ) → StrikesBytesChecked sheet states words n → n ≡ 0
    → (first_fault sheet ≡ none) × (CanBeKept (system_in sheet) → ⊥)
strikes-bytes-no-run sheet states words n c z =
    let h = (strikes-bytes-accepted-exactly sheet states words n c).0 z in (h.0, accepted-strikes-no-run h.1.2)
