-- The strike list: rounds, reasons, words and order, over any system. Document 01, "The judge's two papers", second paragraph.
-- The rounds are cut into phases, one for each reason of each round: phase n is reason n % (p + 1) of round n / (p + 1) + 1, where p is
-- the number of promises; so phases follow one another as the document's rounds and reasons do. Assumes nothing.
use Rattle.std.specs.Prelude.{◌≡◌, ◌⊎◌, List, ℕ, zero, suc, ◌+◌, ◌*◌, ◌/◌, ◌%◌, ◌<◌, length, get_or}
use Rattle.meaning.specs.System.{System, Reachable, In}

-- A path: n moves, through states of U only (s itself included), lead from s to a state where G is true. A path of no
-- moves counts (docs/DECISIONS.md).
abbrev pub Way : (S : System) (U G : ℕ → Type 0) → ℕ → ℕ → Type 0
Way S U G zero s = U s × G s
Way S U G (suc n) s = U s × ((t : ℕ) × S.Move s t × Way S U G n t)

-- What saves s from a reason while U is unstruck. Reason 0: s has a move to an unstruck state (to itself counts). Reason i: a path of
-- unstruck states meets promise i's literal.
abbrev pub SavedBy : System → (ℕ → Type 0) → ℕ → ℕ → Type 0
SavedBy S U zero s = (t : ℕ) × S.Move s t × U t
SavedBy S U (suc k) s = (n : ℕ) × Way S U (S.Kept k) n s

abbrev pub reason_of : System → ℕ → ℕ
reason_of S n = n % suc S.promises

abbrev pub round_of : System → ℕ → ℕ
round_of S n = suc (n / suc S.promises)

-- Unstruck before phase n. "Begin with all R reachable states"; each phase strikes together: whether a state is saved is judged by what
-- was unstruck before the phase.
abbrev pub Left : System → ℕ → ℕ → Type 0
Left S zero s = Reachable S s
Left S (suc n) s = Left S n s × SavedBy S (Left S n) (reason_of S n) s

-- struck in phase n
abbrev pub Struck : System → ℕ → ℕ → Type 0
Struck S n s = Left S n s × (SavedBy S (Left S n) (reason_of S n) s → ⊥)

-- "Each struck state gets the word 32 x round + reason."
abbrev pub word_of : System → ℕ → ℕ
word_of S n = 32 * round_of S n + reason_of S n

-- The strike list of a system in which all reachable states are struck. "States of one word stand in ascending order; words ascend."
-- ("Stop after a round that strikes nothing" changes no word: a quiet round is followed by none that strikes, `quiet-stays`.)
pub record StrikeList (S : System) (states words : List ℕ) : Type 0 where
  pub as_many : length words ≡ length states
  pub ordered : (i : ℕ) → suc i < length states
      → (get_or words i 0 < get_or words (suc i) 0) ⊎ ((get_or words i 0 ≡ get_or words (suc i) 0) × (get_or states i 0 < get_or states (suc i) 0))
  pub struck : (i : ℕ) → i < length states → (n : ℕ) × Struck S n (get_or states i 0) × (get_or words i 0 ≡ word_of S n)
  pub whole : (s : ℕ) → Reachable S s → In states s
