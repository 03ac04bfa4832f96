-- Witnesses: what the numbers of a row say, when a place hangs, and what a row is between two phases. A row has a number for each place:
-- `nobody`, nobody helps it; `itself`, it keeps the promise itself; or the place that is its witness. Assumes nothing.
use Rattle.std.specs.Prelude.{◌≡◌, ◌⊎◌, List, ℕ, zero, suc, ◌+◌, ◌-◌, ◌≤◌, ◌<◌, length, get_or}
use Rattle.ground.specs.Listed.{Between}
use Rattle.meaning.specs.Promises.{most_states}
use Rattle.distances.specs.Far.{Unstruck}
use Rattle.distances.specs.Values.{total, kept_in}

-- nobody helps a place; or it keeps the promise itself; every place's number is less
abbrev pub nobody : ℕ
nobody = 65535

abbrev pub itself : ℕ
itself = 65534

-- what a row begins with: it keeps promise k, or nobody helps it yet
pub record BegunRow (book : List ℕ) (k : ℕ) (table old row : List ℕ) : Type 0 where
  pub long : length row ≡ length old
  pub keeps : (i : ℕ) → i < length row → kept_in book k (get_or table i 0) → get_or row i 0 ≡ itself
  pub lacks : (i : ℕ) → i < length row → (kept_in book k (get_or table i 0) → ⊥) → get_or row i 0 ≡ nobody

-- From here on, in this file and in Turns, M i j says that place i moves to place j.

-- the numbers of a row: nobody, the place itself, or a place to which this one moves
pub record Pointed (row : List ℕ) (M : ℕ → ℕ → Type 0) : Type 0 where
  pub few : length row ≤ most_states
  pub each : (i : ℕ) → i < length row → (get_or row i 0 ≡ nobody) ⊎ (get_or row i 0 ≡ itself) ⊎ (get_or row i 0 < length row)
  pub leads : (i : ℕ) → i < length row → get_or row i 0 < length row → M i (get_or row i 0)

-- in n steps from witness to witness one comes from place i to one that keeps the promise
abbrev pub ChainIn : (row : List ℕ) (n i : ℕ) → Type 0
ChainIn row zero i = (i < length row) × (get_or row i 0 ≡ itself)
ChainIn row (suc n) i = (i < length row) × (get_or row i 0 < length row) × ChainIn row n (get_or row i 0)

abbrev pub Chain : (row : List ℕ) (i : ℕ) → Type 0
Chain row i = (n : ℕ) × ChainIn row n i

-- the same through unstruck places
abbrev pub HungIn : (words row : List ℕ) (n i : ℕ) → Type 0
HungIn words row zero i = (i < length row) × Unstruck words i × (get_or row i 0 ≡ itself)
HungIn words row (suc n) i = (i < length row) × Unstruck words i × (get_or row i 0 < length row) × HungIn words row n (get_or row i 0)

abbrev pub Hung : (words row : List ℕ) (i : ℕ) → Type 0
Hung words row i = (n : ℕ) × HungIn words row n i

-- every unstruck place that has a witness hangs
abbrev pub AllHung : (words row : List ℕ) → Type 0
AllHung words row = (i : ℕ) → i < length row → Unstruck words i → (get_or row i 0 ≡ nobody → ⊥) → Hung words row i

-- 1 for an unstruck place; how many of the first r are unstruck
abbrev pub free_in : (words : List ℕ) (r : ℕ) → ℕ
free_in words r = total (λ i. 1 - get_or words i 0) r

-- the log's first m places are as many as are struck, and there is room for all
pub record Log (words : List ℕ) (r : ℕ) (log : List ℕ) (m : ℕ) : Type 0 where
  pub in_words : r ≤ length words
  pub in-log : r ≤ length log
  pub count : m + free_in words r ≡ r
  pub places : (t : ℕ) → t < m → get_or log t 0 < r

-- a row before its promise's first phase: no place has another for its witness
pub record Fresh (words row log : List ℕ) (m : ℕ) : Type 0 where
  pub log_is : Log words (length row) log m
  pub few : length row ≤ most_states
  pub each : (i : ℕ) → i < length row → (get_or row i 0 ≡ nobody) ⊎ (get_or row i 0 ≡ itself)

-- a row between two phases of its promise: every unstruck place has a witness, and one that was struck since stands in the log from `from`
-- on
pub record Rested (words row : List ℕ) (M : ℕ → ℕ → Type 0) (log : List ℕ) (from m : ℕ) : Type 0 where
  pub log_is : Log words (length row) log m
  pub since : from ≤ m
  pub pointed : Pointed row M
  pub chained : (i : ℕ) → i < length row → Unstruck words i → (get_or row i 0 ≡ nobody → ⊥) → Chain row i
  pub helped : (i : ℕ) → i < length row → Unstruck words i → get_or row i 0 ≡ nobody → ⊥
  pub noted : (i : ℕ) → i < length row → Unstruck words i → get_or row i 0 < length row
      → Unstruck words (get_or row i 0) ⊎ Between log from m (get_or row i 0)

-- who keeps the promise is as it was
abbrev pub SameOwn : (old row : List ℕ) → Type 0
SameOwn old row = (i : ℕ) → i < length row → (get_or row i 0 ≡ itself → get_or old i 0 ≡ itself)
    × (get_or old i 0 ≡ itself → get_or row i 0 ≡ itself)

-- a row in which who has a witness hangs, and which differs from an old one only in whom its places hang on
pub record Hangs (words old row : List ℕ) (M : ℕ → ℕ → Type 0) : Type 0 where
  pub long : length row ≡ length old
  pub pointed : Pointed row M
  pub hung : AllHung words row
  pub own : SameOwn old row
  pub only : (i : ℕ) → i < length row → get_or row i 0 ≡ nobody → get_or old i 0 ≡ nobody

-- places may hang anew: those with a witness hang, and those without stand in the log from m up to `tail`
pub record Hangable (words row : List ℕ) (M : ℕ → ℕ → Type 0) (log : List ℕ) (m tail : ℕ) : Type 0 where
  pub pointed : Pointed row M
  pub hung : AllHung words row
  pub in_words : length row ≤ length words
  pub in-log : tail ≤ length log
  pub grows : m ≤ tail
  pub places : (t : ℕ) → m ≤ t → t < tail → (get_or log t 0 < length row) × Unstruck words (get_or log t 0)
  pub alone : (i : ℕ) → i < length row → Unstruck words i → get_or row i 0 ≡ nobody → Between log m tail i

-- they hang, and who is left without a witness has no next place with one
pub record Rehung (words old row : List ℕ) (M : ℕ → ℕ → Type 0) : Type 0 where
  pub long : length row ≡ length old
  pub pointed : Pointed row M
  pub hung : AllHung words row
  pub own : SameOwn old row
  pub only : (i : ℕ) → i < length row → get_or row i 0 ≡ nobody → get_or old i 0 ≡ nobody
  pub closed : (i j : ℕ) → i < length row → j < length row → Unstruck words i → Unstruck words j → M i j
      → get_or row i 0 ≡ nobody → (get_or row j 0 ≡ nobody → ⊥) → ⊥
