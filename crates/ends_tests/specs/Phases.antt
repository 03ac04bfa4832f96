-- One phase of striking, the pointers that reason 0 keeps, and the tests. Assumes nothing.
use Rattle.std.specs.Prelude.{◌≡◌, Bool, true, false, Option, Some, None, MatchOption, ◌⊎◌}
use Rattle.std.specs.Prelude.{List, ℕ, suc, ◌+◌, ◌-◌, ◌≤◌, ◌<◌, length, get_or}
use Rattle.ground.specs.Listed.{Between, Rises}
use Rattle.meaning.specs.System.{System}
use Rattle.meaning.specs.Strike.{SavedBy}
use Rattle.meaning.specs.Promises.{most_states}
use Rattle.rules.specs.Book.{book_system}
use Rattle.rules.specs.Table.{To}
use Rattle.rules_signs.specs.Signs.{Signed}
use Rattle.distances.specs.Far.{Unstruck, UnstruckIn}
use Rattle.watch.specs.Witness.{free_in, Log}

-- A word that counts as unstruck in the phase that gives the word v: 0, or v itself, since states fall together.
abbrev pub Counts : ℕ → ℕ → Type 0
Counts v x = (x ≡ 0) ⊎ (x ≡ v)

-- A place's pointer: 0, or one more than the place of a next state, below which no next state is unstruck.
pub data Points (book table words : List ℕ) (r i q : ℕ) : Type 0 where
  fresh : q ≡ 0 → Points book table words r i q
  target : (j : ℕ) → q ≡ suc j → j < r → To book table i j → ((m : ℕ) → m < j → Unstruck words m → To book table i m → ⊥)
      → Points book table words r i q

-- the pointers of all unstruck places
abbrev pub Pointers : (book table words row : List ℕ) (r : ℕ) → Type 0
Pointers book table words row r = (i : ℕ) → i < r → Unstruck words i → Points book table words r i (get_or row i 0)

-- the place that a pointer names counts
abbrev pub Pointing : (words : List ℕ) (q : Option ℕ) (v : ℕ) → Type 0
Pointing words q v = MatchOption q ⊥ (λ j. Counts v (get_or words j 0))

-- whether place i's pointer, which names q, must move: the place is struck, the pointer's place still counts, or neither
pub data Pending (words : List ℕ) (i : ℕ) (q : Option ℕ) (v : ℕ) (b : Bool) : Type 0 where
  hit : b ≡ false → (Unstruck words i → ⊥) → Pending words i q v b
  settled : b ≡ false → Unstruck words i → Pointing words q v → Pending words i q v b
  open_yet : b ≡ true → Unstruck words i → (Pointing words q v → ⊥) → Pending words i q v b

-- the first place from `lo` on and below r that counts and that s moves to, if there is one
pub data Sought (book table words : List ℕ) (v r s lo : ℕ) (q : Option ℕ) : Type 0 where
  none : q ≡ None → ((m : ℕ) → lo ≤ m → m < r → Counts v (get_or words m 0) → (book_system book).Move s (get_or table m 0) → ⊥)
      → Sought book table words v r s lo q
  found : (j : ℕ) → q ≡ Some j → j < r → Counts v (get_or words j 0) → (book_system book).Move s (get_or table j 0)
      → ((m : ℕ) → lo ≤ m → m < j → Counts v (get_or words m 0) → (book_system book).Move s (get_or table m 0) → ⊥)
      → Sought book table words v r s lo q

-- what a phase does to a place: it was struck already, it is saved, or it falls
pub data Falls (Saved : Type 0) (v old new : ℕ) : Type 0 where
  was : (old ≡ 0 → ⊥) → new ≡ old → Falls Saved v old new
  stays : old ≡ 0 → new ≡ 0 → Saved → Falls Saved v old new
  falls : old ≡ 0 → new ≡ v → (Saved → ⊥) → Falls Saved v old new

-- one phase over the table's first r places, in which n fall and get the word v
pub record Phased (S : System) (table : List ℕ) (r reason v : ℕ) (old new : List ℕ) (n : ℕ) : Type 0 where
  pub long : length new ≡ length old
  pub each : (i : ℕ) → i < r → Falls (SavedBy S (UnstruckIn table old r) reason (get_or table i 0)) v (get_or old i 0) (get_or new i 0)
  pub counted : n + free_in new r ≡ free_in old r

-- a phase may be run: no place has its word yet
pub record Unphased (words : List ℕ) (r v : ℕ) : Type 0 where
  pub in_words : r ≤ length words
  pub below : (i : ℕ) → i < r → get_or words i 0 < v
  pub some : 0 < v

-- a next state of place i that counts may be sought
pub record Seekable (book table words : List ℕ) (r : ℕ) (signs : List ℕ) (i : ℕ) : Type 0 where
  pub signed : Signed book table r signs
  pub rises : Rises table r
  pub in_words : r ≤ length words
  pub place : i < r

-- reason 0's phase, which gives the word v, may be run: the log's first m places are those struck so far
pub record Striking (book table words row signs log : List ℕ) (m v : ℕ) : Type 0 where
  pub signed : Signed book table (length row) signs
  pub rises : Rises table (length row)
  pub unphased : Unphased words (length row) v
  pub pointers : Pointers book table words row (length row)
  pub log_is : Log words (length row) log m
  pub log_few : length log ≤ most_states

-- it was run: what fell stands in the log from m on and before m'
pub record DeadDone (book table : List ℕ) (v : ℕ) (words words' row row' log log' : List ℕ) (m m' : ℕ) : Type 0 where
  pub phased : Phased (book_system book) table (length row) 0 v words words' (m' - m)
  pub pointers : Pointers book table words' row' (length row)
  pub row-long : length row' ≡ length row
  pub log_long : length log' ≡ length log
  pub kept : (t : ℕ) → t < m → get_or log' t 0 ≡ get_or log t 0
  pub grows : m ≤ m'
  pub log_is : Log words' (length row) log' m'
  pub noted : (i : ℕ) → i < length row → Unstruck words i → (Unstruck words' i → ⊥) → Between log' m m' i
