-- Watching a promise by tests of pairs: what the functions promise one another. The line holds first the places that have a witness and are
-- to be spread from, and behind them those that stand alone. Assumes nothing.
use Rattle.std.specs.Prelude.{◌≡◌, Bool, true, false, ◌⊎◌, List, ℕ, suc, ◌+◌, ◌≤◌, ◌<◌, length, get_or}
use Rattle.ground.specs.Listed.{Between}
use Rattle.meaning.specs.Promises.{most_states}
use Rattle.rules.specs.Table.{To}
use Rattle.rules_signs.specs.Signs.{Signed}
use Rattle.distances.specs.Far.{Unstruck}
use Rattle.watch.specs.Witness.{nobody, Hangs, free_in}
use Rattle.watch.specs.Turns.{Line, Before, count_met_at}

-- every place may move to every other: more need not be known for cutting off
abbrev pub Anywhere : (i j : ℕ) → Type 0
Anywhere i j = Unit {0}

-- whether place i is unstruck and hangs on a place that was struck, or that has no witness itself
pub record IsCut (words row : List ℕ) (i : ℕ) (b : Bool) : Type 0 where
  pub yes : b ≡ true → Unstruck words i × (get_or row i 0 < length row)
  pub never : b ≡ false → Unstruck words i → get_or row i 0 < length row → Unstruck words (get_or row i 0)
      × (get_or row (get_or row i 0) 0 ≡ nobody → ⊥)

-- places may be cut off: the log has room behind its first n for every unstruck place that has a witness
pub record Cuttable (words row log : List ℕ) (n : ℕ) : Type 0 where
  pub few : length row ≤ most_states
  pub in_words : length row ≤ length words
  pub room : n + free_in words (length row) ≤ length log + count_met_at nobody words row
  pub log_few : length log ≤ most_states

-- after one pass over the first i places: who was cut off stands in the log behind its first n, and who of them still has a witness hangs
-- on an unstruck place which has one, too, or was itself cut off in this pass
pub record CutBelow (words old row before log : List ℕ) (n tail i : ℕ) : Type 0 where
  pub long : length row ≡ length old
  pub each : (j : ℕ) → j < length old → (get_or row j 0 ≡ get_or old j 0) ⊎ ((get_or row j 0 ≡ nobody) × (get_or old j 0 < length old))
  pub log_long : length log ≡ length before
  pub kept : (t : ℕ) → t < n → get_or log t 0 ≡ get_or before t 0
  pub grows : n ≤ tail
  pub places : (t : ℕ) → n ≤ t → t < tail → (get_or log t 0 < length old) × Unstruck words (get_or log t 0)
  pub alone : (j : ℕ) → j < length old → Unstruck words j → get_or row j 0 ≡ nobody → (get_or old j 0 ≡ nobody) ⊎ Between log n tail j
  pub past : (j : ℕ) → j < i → j < length old → Unstruck words j → get_or row j 0 < length old
      → Unstruck words (get_or row j 0) × ((get_or row (get_or row j 0) 0 ≡ nobody → ⊥) ⊎ Between log n tail (get_or row j 0))
  pub counted : tail + count_met_at nobody words old ≡ n + count_met_at nobody words row

-- two numbers of the line changed places
pub record Brought (before line : List ℕ) (n g : ℕ) : Type 0 where
  pub long : length line ≡ length before
  pub here : get_or line n 0 ≡ get_or before g 0
  pub there : get_or line g 0 ≡ get_or before n 0
  pub other : (s : ℕ) → (s ≡ n → ⊥) → (s ≡ g → ⊥) → get_or line s 0 ≡ get_or before s 0

-- the line's first k are those of the first i places that are unstruck and have a witness
pub record Fronted (words row : List ℕ) (i : ℕ) (before line : List ℕ) (k : ℕ) : Type 0 where
  pub long : length line ≡ length before
  pub room : k ≤ i
  pub places : (s : ℕ) → s < k → (get_or line s 0 < i) × Unstruck words (get_or line s 0) × (get_or row (get_or line s 0) 0 ≡ nobody → ⊥)
  pub whole : (j : ℕ) → j < i → Unstruck words j → (get_or row j 0 ≡ nobody → ⊥) → Between line 0 k j

-- behind the line's first n, up to k, are the log's places from m up to `tail`
pub record Copied (log : List ℕ) (m tail : ℕ) (before line : List ℕ) (n k : ℕ) : Type 0 where
  pub long : length line ≡ length before
  pub kept : (s : ℕ) → s < n → get_or line s 0 ≡ get_or before s 0
  pub grows : n ≤ k
  pub count : n + tail ≡ m + k
  pub same : (s : ℕ) → n + s < k → get_or line (n + s) 0 ≡ get_or log (m + s) 0

-- the line's first n have a witness, and who stands alone stands behind them, up to k
pub record Ranked (words row line : List ℕ) (n k : ℕ) : Type 0 where
  pub ordered : n ≤ k
  pub places : (s : ℕ) → s < k → (get_or line s 0 < length row) × Unstruck words (get_or line s 0)
  pub helped : (s : ℕ) → s < n → get_or row (get_or line s 0) 0 ≡ nobody → ⊥
  pub alone : (i : ℕ) → i < length row → Unstruck words i → get_or row i 0 ≡ nobody → Between line n k i

-- where a place that stands alone moves to one with a witness, that stands in the line from `head` on
abbrev pub Pending : (words row : List ℕ) (M : ℕ → ℕ → Type 0) (line : List ℕ) (head n : ℕ) → Type 0
Pending words row M line head n =
    (i j : ℕ) → i < length row → j < length row → Unstruck words i → Unstruck words j → M i j → get_or row i 0 ≡ nobody
    → (get_or row j 0 ≡ nobody → ⊥)
    → Between line head n j

-- no unstruck place that stands alone moves to place t
abbrev pub Shut : (words row : List ℕ) (M : ℕ → ℕ → Type 0) (t : ℕ) → Type 0
Shut words row M t = (i : ℕ) → i < length row → Unstruck words i → get_or row i 0 ≡ nobody → M i t → ⊥

-- nobody who stands alone moves to a place that is noted in a slot: the slot has that place plus one, and 0 where none is noted
pub record Seen (words row : List ℕ) (M : ℕ → ℕ → Type 0) (seen : List ℕ) : Type 0 where
  pub shut : (q t : ℕ) → q < length seen → get_or seen q 0 ≡ suc t → t < length row → Shut words row M t

-- at most place t is noted since
pub record Noted (before seen : List ℕ) (t : ℕ) : Type 0 where
  pub long : length seen ≡ length before
  pub each : (q : ℕ) → (get_or seen q 0 ≡ get_or before q 0) ⊎ (get_or seen q 0 ≡ suc t)

-- while witnesses spread: the line's first `head` were spread from
pub record Spreading (words old row : List ℕ) (M : ℕ → ℕ → Type 0) (line : List ℕ) (head n k : ℕ) : Type 0 where
  pub hangs : Hangs words old row M
  pub ranked : Ranked words row line n k
  pub pending : Pending words row M line head n

-- the moves of a row's places can be tested, and the line has room for k places
pub record Testable (book table words row signs line : List ℕ) (k : ℕ) : Type 0 where
  pub signed : Signed book table (length row) signs
  pub in_words : length row ≤ length words
  pub room : k ≤ length line
  pub line_few : length line ≤ most_states

-- whether place j is unstruck, has a witness, and place i moves to it
pub record HelpsIt (words row : List ℕ) (M : ℕ → ℕ → Type 0) (i j : ℕ) (b : Bool) : Type 0 where
  pub yes : b ≡ true → Unstruck words j × (get_or row j 0 ≡ nobody → ⊥) × M i j
  pub never : b ≡ false → Unstruck words j → (get_or row j 0 ≡ nobody → ⊥) → M i j → ⊥

-- whether place i is unstruck, stands alone and moves to place t
pub record JoinsIt (words row : List ℕ) (M : ℕ → ℕ → Type 0) (i t : ℕ) (b : Bool) : Type 0 where
  pub yes : b ≡ true → Unstruck words i × (get_or row i 0 ≡ nobody) × M i t
  pub never : b ≡ false → Unstruck words i → get_or row i 0 ≡ nobody → M i t → ⊥

-- a phase may be run by tests
pub record WatchingByTests (book table words row signs log line : List ℕ) (m from word : ℕ) : Type 0 where
  pub some : 0 < word
  pub signed : Signed book table (length row) signs
  pub line_is : Line row line
  pub log_few : length log ≤ most_states
  pub before : Before words row (To book table) log from m
