-- What the functions that watch a promise promise one another, along stored moves or by tests. Assumes nothing.
use Rattle.std.specs.Prelude.{◌≡◌, Bool, Option, MatchOption, true, false, cond, ◌⊎◌, List, ℕ, ◌+◌, ◌-◌, ◌*◌, ◌≤◌, ◌<◌, length, get_or, eqb}
use Rattle.ground.specs.Listed.{Between}
use Rattle.meaning.specs.Promises.{most_states}
use Rattle.distances.specs.Far.{Unstruck}
use Rattle.distances.specs.Values.{total}
use Rattle.watch.specs.Witness.{nobody, Pointed, AllHung, SameOwn, Log, Rested, Fresh}

-- the number x of a table names a place: it is that place plus one, and 0 names none
abbrev pub Names : (x : ℕ) (place : Option ℕ) → Type 0
Names x place = MatchOption place (x ≡ 0) (λ t. x ≡ t + 1)

-- whether place i is unstruck and its number is v
pub record IsSo (words row : List ℕ) (i v : ℕ) (b : Bool) : Type 0 where
  pub yes : b ≡ true → Unstruck words i × (get_or row i 0 ≡ v)
  pub never : b ≡ false → Unstruck words i → get_or row i 0 ≡ v → ⊥

-- whether place j is unstruck and has a witness
pub record Helps (words row : List ℕ) (j : ℕ) (b : Bool) : Type 0 where
  pub yes : b ≡ true → Unstruck words j × (get_or row j 0 ≡ nobody → ⊥)
  pub never : b ≡ false → Unstruck words j → (get_or row j 0 ≡ nobody → ⊥) → ⊥

-- how much the first r places weigh, each by its word and its number
abbrev pub weight : (w : ℕ → ℕ → ℕ) (words row : List ℕ) (r : ℕ) → ℕ
weight w words row r = total (λ i. w (get_or words i 0) (get_or row i 0)) r

-- 1 for an unstruck place whose number is v
abbrev pub unstruck_at : (v word x : ℕ) → ℕ
unstruck_at v word x = (1 - word) * cond (eqb x v) 1 0

-- how many of a row's places are unstruck and have the number v
abbrev pub count_met_at : (v : ℕ) (words row : List ℕ) → ℕ
count_met_at v words row = weight (unstruck_at v) words row (length row)

-- places may be redirected: `was` and `to` differ, and the line has room for every unstruck place whose number is `was`
pub record Turnable (words row : List ℕ) (was to : ℕ) (line : List ℕ) (n : ℕ) : Type 0 where
  pub few : length row ≤ most_states
  pub in_words : length row ≤ length words
  pub apart : was ≡ to → ⊥
  pub room : n + count_met_at was words row ≤ length line
  pub line_few : length line ≤ most_states

-- what happens to a place: P holds there, it is unstruck and had `was`, and has `to` now; or it is as it was
pub data Redirects (P : Type 0) (word was to old new : ℕ) : Type 0 where
  turns : P → word ≡ 0 → old ≡ was → new ≡ to → Redirects P word was to old new
  stays : new ≡ old → (P → word ≡ 0 → old ≡ was → ⊥) → Redirects P word was to old new

-- the places of P that are unstruck and had `was` have `to` now and stand in the line behind its first n, and all else is as it was
pub record Redirected (P : ℕ → Type 0) (words : List ℕ) (was to : ℕ) (old row : List ℕ) (n : ℕ) (before line : List ℕ)
    (m : ℕ) : Type 0 where
  pub long : length row ≡ length old
  pub each : (i : ℕ) → i < length old → Redirects (P i) (get_or words i 0) was to (get_or old i 0) (get_or row i 0)
  pub line_long : length line ≡ length before
  pub grows : n ≤ m
  pub kept : (t : ℕ) → t < n → get_or line t 0 ≡ get_or before t 0
  pub added : (t : ℕ) → n ≤ t → t < m
      → (get_or line t 0 < length old) × Unstruck words (get_or line t 0) × (get_or old (get_or line t 0) 0 ≡ was)
      × (get_or row (get_or line t 0) 0 ≡ to)
  pub whole : (i : ℕ) → i < length old → Unstruck words i → get_or old i 0 ≡ was → get_or row i 0 ≡ to → Between line n m i
  pub weighs : (w : ℕ → ℕ → ℕ) → weight w words row (length old) + (m - n) * w 0 was ≡ weight w words old (length old) + (m - n) * w 0 to

-- who hung on a struck or a lost place is lost and stands in the log behind its first m; all others hang
pub record Loosened (words old row before log : List ℕ) (m tail : ℕ) : Type 0 where
  pub long : length row ≡ length old
  pub loses : (i : ℕ) → i < length old → (get_or row i 0 ≡ get_or old i 0) ⊎ ((get_or row i 0 ≡ nobody) × (get_or old i 0 < length old))
  pub hung : AllHung words row
  pub log_long : length log ≡ length before
  pub kept : (t : ℕ) → t < m → get_or log t 0 ≡ get_or before t 0
  pub grows : m ≤ tail
  pub within : tail ≤ length old
  pub places : (t : ℕ) → m ≤ t → t < tail → (get_or log t 0 < length old) × Unstruck words (get_or log t 0)
  pub alone : (i : ℕ) → i < length old → Unstruck words i → get_or row i 0 ≡ nobody → Between log m tail i

-- place j helps place i: place i moves to it, it is unstruck and has a witness
pub record HelpedBy (words row : List ℕ) (M : ℕ → ℕ → Type 0) (i j : ℕ) : Type 0 where
  pub inside : j < length row
  pub moves : M i j
  pub unstruck : Unstruck words j
  pub helped : get_or row j 0 ≡ nobody → ⊥

-- nobody helps place i
abbrev pub Helpless : (words row : List ℕ) (M : ℕ → ℕ → Type 0) (i : ℕ) → Type 0
Helpless words row M i =
    (h : ℕ) → h < length row → M i h → Unstruck words h → (get_or row h 0 ≡ nobody → ⊥) → ⊥

-- who helps place i: a place to which it moves that is unstruck and has a witness
abbrev pub HelperIn : (words row : List ℕ) (M : ℕ → ℕ → Type 0) (i : ℕ) (who : Option ℕ) → Type 0
HelperIn words row M i who = MatchOption who (Helpless words row M i) (HelpedBy words row M i)

-- who helps place i, if it is unstruck and has no witness yet
abbrev pub HelperFor : (words row : List ℕ) (M : ℕ → ℕ → Type 0) (i : ℕ) (who : Option ℕ) → Type 0
HelperFor words row M i who =
    MatchOption who (Unstruck words i → get_or row i 0 ≡ nobody → Helpless words row M i)
    (λ j. Unstruck words i × (get_or row i 0 ≡ nobody) × HelpedBy words row M i j)

-- the line in which they stand
pub record Line (row line : List ℕ) : Type 0 where
  pub in_line : length row ≤ length line
  pub line_few : length line ≤ most_states

-- who stands alone may fall: the word is one of a struck place, and all such places stand in the log from m up to `tail`
pub record Fallable (words row log : List ℕ) (m tail word : ℕ) : Type 0 where
  pub some : 0 < word
  pub log_is : Log words (length row) log m
  pub grows : m ≤ tail
  pub within : tail ≤ length log
  pub places : (t : ℕ) → m ≤ t → t < tail → get_or log t 0 < length row
  pub alone : (i : ℕ) → i < length row → Unstruck words i → get_or row i 0 ≡ nobody → Between log m tail i

-- what falling does to a place
pub data FallsAt (word old new x : ℕ) : Type 0 where
  was : (old ≡ 0 → ⊥) → new ≡ old → FallsAt word old new x
  keeps : old ≡ 0 → new ≡ 0 → (x ≡ nobody → ⊥) → FallsAt word old new x
  falls : old ≡ 0 → new ≡ word → x ≡ nobody → FallsAt word old new x

-- the unstruck places of a row without a witness have the word now, and stand in the log behind its first m
pub record FellTo (row : List ℕ) (word : ℕ) (old words before log : List ℕ) (m m' : ℕ) : Type 0 where
  pub long : length words ≡ length old
  pub each : (i : ℕ) → i < length row → FallsAt word (get_or old i 0) (get_or words i 0) (get_or row i 0)
  pub rest : (i : ℕ) → length row ≤ i → get_or words i 0 ≡ get_or old i 0
  pub log_long : length log ≡ length before
  pub kept : (t : ℕ) → t < m → get_or log t 0 ≡ get_or before t 0
  pub grows : m ≤ m'
  pub log_is : Log words (length row) log m'
  pub noted : (i : ℕ) → i < length row → Unstruck old i → (Unstruck words i → ⊥) → Between log m m' i

-- what a row may be before a phase: fresh, and then `from` is above m; or at rest
pub data Before (words row : List ℕ) (M : ℕ → ℕ → Type 0) (log : List ℕ) (from m : ℕ) : Type 0 where
  first : m < from → Fresh words row log m → Before words row M log from m
  again : Rested words row M log from m → Before words row M log from m

-- it was run: the row is rehung, who stands alone fell, and the row rests
pub record Watched (words words' row row' : List ℕ) (M : ℕ → ℕ → Type 0) (log log' : List ℕ) (m m' word : ℕ) : Type 0 where
  pub long : length row' ≡ length row
  pub own : SameOwn row row'
  pub hung : AllHung words row'
  pub pointed : Pointed row' M
  pub closed : (i j : ℕ) → i < length row' → j < length row' → Unstruck words i → Unstruck words j → M i j
      → get_or row' i 0 ≡ nobody → (get_or row' j 0 ≡ nobody → ⊥) → ⊥
  pub fell : FellTo row' word words words' log log' m m'
  pub rested : Rested words' row' M log' m' m'
