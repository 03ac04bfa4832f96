-- Distances to a promise through the unstruck states of a table. Assumes nothing.
use Rattle.std.specs.Prelude.{◌≡◌, List, ℕ, ◌+◌, ◌≤◌, ◌<◌, length, get_or}
use Rattle.meaning.specs.System.{System}
use Rattle.meaning.specs.Strike.{Way}

-- place i is unstruck: its word is 0
abbrev pub Unstruck : (words : List ℕ) (i : ℕ) → Type 0
Unstruck words i = get_or words i 0 ≡ 0

-- s is one of the table's first r states and unstruck
abbrev pub UnstruckIn : (table words : List ℕ) (r s : ℕ) → Type 0
UnstruckIn table words r s = (i : ℕ) × (i < r) × (get_or table i 0 ≡ s) × Unstruck words i

-- no distance: from here no path of unstruck states meets the promise
abbrev pub far : ℕ
far = 65535

-- a struck place's value: it is looked at no more
abbrev pub gone : ℕ
gone = 65534

-- what place i's distance says: unstruck and reached by the fewest moves, unstruck and never reached, or struck
pub data Place (S : System) (U G : ℕ → Type 0) (s word d : ℕ) : Type 0 where
  near : word ≡ 0 → d < gone → Way S U G d s → ((n : ℕ) → Way S U G n s → d ≤ n) → Place S U G s word d
  never : word ≡ 0 → d ≡ far → ((n : ℕ) → Way S U G n s → ⊥) → Place S U G s word d
  struck : (word ≡ 0 → ⊥) → d ≡ gone → Place S U G s word d

-- the distances of the first r places to the states of G stand in `dist` from `from` on; below `from` it is as it was
pub record Measured (S : System) (G : ℕ → Type 0) (table words : List ℕ) (r from : ℕ) (old dist : List ℕ) : Type 0 where
  pub long : length dist ≡ length old
  pub below : (i : ℕ) → i < from → get_or dist i 0 ≡ get_or old i 0
  pub places : (i : ℕ) → i < r → Place S (UnstruckIn table words r) G (get_or table i 0) (get_or words i 0) (get_or dist (from + i) 0)
