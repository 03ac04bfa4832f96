-- Dead ends along stored moves. A row has a number for each place: `nobody`, none is known; or a next place, its way on. Assumes nothing.
use Rattle.std.specs.Prelude.{◌≡◌, ◌⊎◌, Option, MatchOption, List, ℕ, ◌≤◌, ◌<◌, length, get_or}
use Rattle.ground.specs.Listed.{Between}
use Rattle.meaning.specs.Promises.{most_states}
use Rattle.moves.specs.Layout.{Backed}
use Rattle.distances.specs.Far.{Unstruck}
use Rattle.watch.specs.Witness.{nobody, Log}
use Rattle.watch.specs.Turns.{FellTo}
use Rattle.watch_along.specs.Along.{Leads, Readable, Walkable, Woven}

-- no way on is known yet
abbrev pub Blank : (row : List ℕ) → Type 0
Blank row = (i : ℕ) → i < length row → get_or row i 0 ≡ nobody

-- the row between two rounds: every unstruck place has a way on, and one that was struck since stands in the log from `from` on
pub record Going (words row back log : List ℕ) (from m : ℕ) : Type 0 where
  pub log_is : Log words (length row) log m
  pub since : from ≤ m
  pub backward : Walkable back (length row)
  pub few : length row ≤ most_states
  pub each : (i : ℕ) → i < length row → (get_or row i 0 ≡ nobody) ⊎ (get_or row i 0 < length row)
  pub leads : (i : ℕ) → i < length row → get_or row i 0 < length row → Backed back i (get_or row i 0)
  pub helped : (i : ℕ) → i < length row → Unstruck words i → get_or row i 0 ≡ nobody → ⊥
  pub noted : (i : ℕ) → i < length row → Unstruck words i → get_or row i 0 < length row
      → Unstruck words (get_or row i 0) ⊎ Between log from m (get_or row i 0)

-- what the row may be before a round: blank, and then `from` is above m; or as it is between two
pub data Ahead (words row back log : List ℕ) (from m : ℕ) : Type 0 where
  opening : m < from → Log words (length row) log m → length row ≤ most_states → Blank row → Ahead words row back log from m
  going : Going words row back log from m → Ahead words row back log from m

-- whose way on was struck has none now, and stands in the log behind its first m; all others go on to an unstruck place
pub record CutOff (words old row back before log : List ℕ) (m tail : ℕ) : Type 0 where
  pub long : length row ≡ length old
  pub each : (i : ℕ) → i < length old → (get_or row i 0 ≡ nobody) ⊎ (get_or row i 0 < length old)
  pub leads : (i : ℕ) → i < length old → get_or row i 0 < length old → Backed back i (get_or row i 0)
  pub sure : (i : ℕ) → i < length old → Unstruck words i → get_or row i 0 < length old → Unstruck words (get_or row i 0)
  pub log_long : length log ≡ length before
  pub kept : (t : ℕ) → t < m → get_or log t 0 ≡ get_or before t 0
  pub grows : m ≤ tail
  pub within : tail ≤ length old
  pub places : (t : ℕ) → m ≤ t → t < tail → get_or log t 0 < length old
  pub alone : (i : ℕ) → i < length old → Unstruck words i → get_or row i 0 ≡ nobody → Between log m tail i

-- an unstruck next place of place i, of r places, sought along its row; or there is none
abbrev pub WayOn : (words forth : List ℕ) (r i : ℕ) (onto : Option ℕ) → Type 0
WayOn words forth r i onto =
    MatchOption onto ((h : ℕ) → Leads forth i h → Unstruck words h → ⊥) (λ j. (j < r) × Leads forth i j × Unstruck words j)

-- the log's places from m up to `tail` may look for a way on
pub record Lookable (words row forth log : List ℕ) (m tail : ℕ) : Type 0 where
  pub few : length row ≤ most_states
  pub in_words : length row ≤ length words
  pub onward : Readable forth (length row)
  pub grows : m ≤ tail
  pub in-log : tail ≤ length log
  pub log_few : length log ≤ most_states
  pub places : (t : ℕ) → m ≤ t → t < tail → get_or log t 0 < length row

-- they have looked: who found one has it, and who has none is at a dead end
pub record Looked (words old row forth log : List ℕ) (m tail : ℕ) : Type 0 where
  pub long : length row ≡ length old
  pub each : (i : ℕ) → i < length old
      → (get_or row i 0 ≡ get_or old i 0) ⊎ ((get_or row i 0 < length old) × Leads forth i (get_or row i 0) × Unstruck words (get_or row i 0))
  pub none_left : (t : ℕ) → m ≤ t → t < tail → get_or row (get_or log t 0) 0 ≡ nobody → (j : ℕ) → Leads forth (get_or log t 0) j
      → Unstruck words j → ⊥

-- a round's phase may be run
pub record Endable (words row forth back log : List ℕ) (m from word : ℕ) : Type 0 where
  pub some : 0 < word
  pub woven : Woven (length row) forth back
  pub log_few : length log ≤ most_states
  pub ahead : Ahead words row back log from m

-- it was run: who goes on to an unstruck place stays, who does not falls; those that fell in it count as struck in the next round only
pub record Ended (words words' row row' forth back log log' : List ℕ) (m m' word : ℕ) : Type 0 where
  pub long : length row' ≡ length row
  pub saved : (i : ℕ) → i < length row → Unstruck words i → (get_or row' i 0 ≡ nobody → ⊥)
      → (get_or row' i 0 < length row) × Unstruck words (get_or row' i 0) × Backed back i (get_or row' i 0)
  pub stuck : (i : ℕ) → i < length row → Unstruck words i → get_or row' i 0 ≡ nobody → (j : ℕ) → Leads forth i j → Unstruck words j → ⊥
  pub fell : FellTo row' word words words' log log' m m'
  pub going : Going words' row' back log' m m'
