-- What the values of places say, whichever way distances are found: how a place begins, which places stand in a list, what one spread does,
-- what is sure at any time, and what the distances are. Assumes nothing.
use Rattle.std.specs.Prelude.{◌≡◌, true, ◌⊎◌, List, ℕ, zero, suc, ◌+◌, ◌-◌, ◌≤◌, ◌<◌, length, get_or}
use Rattle.ground.specs.Listed.{Between}
use Rattle.meaning.specs.System.{System}
use Rattle.meaning.specs.Strike.{Way}
use Rattle.rules.specs.Book.{promises_of, book_kept, book_system}
use Rattle.rules.specs.Table.{LawfulTable}
use Rattle.distances.specs.Far.{Unstruck, UnstruckIn, far, gone, Place}

-- what measuring distances asks of the sheet and the table
pub record Measurable (book : List ℕ) (k : ℕ) (table words : List ℕ) (r : ℕ) : Type 0 where
  pub states : LawfulTable book table r
  pub promise : k < promises_of book
  pub in_words : r ≤ length words

-- promise k is kept in s
abbrev pub kept_in : (book : List ℕ) (k s : ℕ) → Type 0
kept_in book k s = book_kept book k s ≡ true

-- what a place begins with
pub data Begun (Goal : Type 0) (word : ℕ) : ℕ → Type 0 where
  out : (word ≡ 0 → ⊥) → Begun Goal word gone
  there : word ≡ 0 → Goal → Begun Goal word 0
  waits : word ≡ 0 → (Goal → ⊥) → Begun Goal word far

-- the sum of w over the first n places
abbrev pub total : (ℕ → ℕ) → ℕ → ℕ
total w zero = 0
total w (suc n) = total w n + w n

-- 1 where a place is not reached yet, 0 elsewhere; how many of the first n are not
abbrev pub far_at : List ℕ → ℕ → ℕ
far_at near i = get_or near i 0 - gone

abbrev pub fars : List ℕ → ℕ → ℕ
fars near n = total (far_at near) n

-- of the first n places exactly those with value v stand in the list's first `tail`, ascending; beside those at 0 there is room for those
-- not reached yet, and of these there are as many as are counted
pub record LinedUp (v : ℕ) (near : List ℕ) (n tail : ℕ) (list : List ℕ) : Type 0 where
  pub few : tail ≤ n
  pub room : v ≡ 0 → tail + fars near n ≤ n
  pub counted : v ≡ far → tail ≡ fars near n
  pub rises : (s t : ℕ) → s < t → t < tail → get_or list s 0 < get_or list t 0
  pub each : (t : ℕ) → t < tail → (get_or list t 0 < n) × (get_or near (get_or list t 0) 0 ≡ v)
  pub whole : (i : ℕ) → i < n → get_or near i 0 ≡ v → Between list 0 tail i

-- what one spread does to a place: it was far and P holds there, and it has d now; or it is as it was
pub data Reaches (P : Type 0) (d old new : ℕ) : Type 0 where
  as_was : new ≡ old → (old ≡ far → P → ⊥) → Reaches P d old new
  reached : old ≡ far → P → new ≡ d → Reaches P d old new

-- one spread over the first n places, which gives d to `got` of them
pub record Spread (P : ℕ → Type 0) (d n : ℕ) (old new : List ℕ) (got : ℕ) : Type 0 where
  pub long : length new ≡ length old
  pub each : (i : ℕ) → i < n → Reaches (P i) d (get_or old i 0) (get_or new i 0)
  pub rest : (i : ℕ) → n ≤ i → get_or new i 0 ≡ get_or old i 0
  pub counted : got + fars new n ≡ fars old n

-- what the values say at any time, whichever way they are found: a struck place is gone, an unstruck one has no number yet or that of a
-- way, and one at the goal has 0
pub record Sure (S : System) (G : ℕ → Type 0) (table words : List ℕ) (r : ℕ) (near : List ℕ) : Type 0 where
  pub long : length near ≡ r
  pub struck : (i : ℕ) → i < r → (Unstruck words i → ⊥) → get_or near i 0 ≡ gone
  pub each : (i : ℕ) → i < r → Unstruck words i
      → (get_or near i 0 ≡ far) ⊎ ((get_or near i 0 < gone) × Way S (UnstruckIn table words r) G (get_or near i 0) (get_or table i 0))
  pub base : (i : ℕ) → i < r → Unstruck words i → G (get_or table i 0) → get_or near i 0 ≡ 0

-- the beginning: the goal's places are at 0, and no other is reached
pub record Opened (S : System) (G : ℕ → Type 0) (table words : List ℕ) (r : ℕ) (near : List ℕ) : Type 0 where
  pub sure : Sure S G table words r near
  pub at_goal : (i : ℕ) → i < r → get_or near i 0 < gone → get_or near i 0 ≡ 0

-- the same of promise k of a book
abbrev pub Opening : (book : List ℕ) (k : ℕ) (table words : List ℕ) (r : ℕ) (near : List ℕ) → Type 0
Opening book k table words r near = Opened (book_system book) ((book_system book).Kept k) table words r near

-- the distances of the first r places, from place 0 on
pub record Near (S : System) (G : ℕ → Type 0) (table words : List ℕ) (r : ℕ) (near : List ℕ) : Type 0 where
  pub long : length near ≡ r
  pub places : (i : ℕ) → i < r → Place S (UnstruckIn table words r) G (get_or table i 0) (get_or words i 0) (get_or near i 0)
