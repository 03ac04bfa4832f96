-- When a paper is accepted, whoever wrote it, over any system. Document 01, "The two checkers". Assumes nothing.
use Rattle.std.specs.Prelude.{◌≡◌, cond, List, ℕ, zero, suc, ◌%◌, ◌≤◌, ◌<◌, ltb, length, get_or}
use Rattle.meaning.specs.System.{System, In}

-- "A proposed run (b states and a number a) is accepted exactly if b is at least 1, a is below b, state 0 is a first state, each state
-- moves to the following one, the last moves to state a, and each promise is true in some state from a to b-1." (That b is at least 1
-- follows from a below b.)
pub record RunAccepted (S : System) (states : List ℕ) (a : ℕ) : Type 0 where
  pub back : a < length states
  pub first : S.First (get_or states 0 0)
  pub moves : (i : ℕ) → suc i < length states → S.Move (get_or states i 0) (get_or states (suc i) 0)
  pub closes : (i : ℕ) → suc i ≡ length states → S.Move (get_or states i 0) (get_or states a 0)
  pub keeps : (k : ℕ) → k < S.promises → (i : ℕ) × (a ≤ i) × (i < length states) × S.Kept k (get_or states i 0)

-- The place on the paper that moment i of the endless reading has: "reading goes on from b-1 back to a".
abbrev pub place : ℕ → ℕ → ℕ → ℕ
place a b zero = 0
place a b (suc i) = cond (ltb (suc (place a b i)) b) (suc (place a b i)) a

-- the endless reading of a paper (demands 2 and 3 speak of it; no promise does)
abbrev pub reading : List ℕ → ℕ → ℕ → ℕ
reading states a i = get_or states (place a (length states) i) 0

-- t is listed with a word of W. "A state may be listed twice": some listing has such a word.
abbrev pub Listed : List ℕ → List ℕ → (ℕ → Type 0) → ℕ → Type 0
Listed states words W t = (j : ℕ) × (j < length states) × (get_or states j 0 ≡ t) × W (get_or words j 0)

-- What an entry must show: "reason 0, every next state is listed with a smaller word; reason i, promise i's literal is false there and
-- every next state is listed with the same or a smaller word".
abbrev pub EntryRight : System → List ℕ → List ℕ → (reason word s : ℕ) → Type 0
EntryRight S states words zero word s = (t : ℕ) → S.Move s t → Listed states words (λ w. w < word) t
EntryRight S states words (suc k) word s = (S.Kept k s → ⊥) × ((t : ℕ) → S.Move s t → Listed states words (λ w. w ≤ word) t)

-- "A proposed strike list (states and words) is accepted exactly if there are as many words as states, the words never fall, each state
-- is lawful, each word's remainder by 32 is at most p, every first state is listed, and for each entry .."
pub record StrikesAccepted (S : System) (states words : List ℕ) : Type 0 where
  pub as_many : length words ≡ length states
  pub rising : (i : ℕ) → suc i < length states → get_or words i 0 ≤ get_or words (suc i) 0
  pub lawful : (i : ℕ) → i < length states → S.Lawful (get_or states i 0)
  pub reasons : (i : ℕ) → i < length states → get_or words i 0 % 32 ≤ S.promises
  pub firsts : (s : ℕ) → S.First s → In states s
  pub entries : (i : ℕ) → i < length states → EntryRight S states words (get_or words i 0 % 32) (get_or words i 0) (get_or states i 0)
