-- What the parts of one step of the sample run promise one another: the first place, the nearest of some places, and the next moment.
-- Assumes nothing.
use Rattle.std.specs.Prelude.{◌≡◌, true, false, ◌⊎◌, List, Option, Some, None, ℕ, suc, ◌+◌, ◌≤◌, ◌<◌, length, get_or}
use Rattle.meaning.specs.System.{System}
use Rattle.meaning.specs.Sample.{Passes, Best}
use Rattle.moves.specs.Layout.{start_at, end_at, cell_at, HasRow}
use Rattle.moves.specs.Moves.{Forth}
use Rattle.distances.specs.Far.{far}
use Rattle.rules.specs.Book.{book_first}
use Rattle.rules_signs.specs.Signs.{Signed}
use Rattle.sample_step.specs.Rows.{aims_of}

-- p is the first of the first r places that holds a first state, or r where there is none
pub record FirstPlace (book table : List ℕ) (r p : ℕ) : Type 0 where
  pub inside : p ≤ r
  pub earlier : (x : ℕ) → x < p → book_first book (get_or table x 0) ≡ false
  pub here : p < r → book_first book (get_or table p 0) ≡ true

-- that place if there is one
abbrev pub FirstPlaceFound : (book table : List ℕ) (r : ℕ) → Option ℕ → Type 0
FirstPlaceFound book table r (Some p) = (p < r) × FirstPlace book table r p
FirstPlaceFound book table r None = FirstPlace book table r r

-- ---- the nearest of some places

-- of the places in P, `best` is the first with the least number; `least` is that number, or `far` where there is none
pub record Nearest (P : ℕ → Type 0) (d : ℕ → ℕ) (best least : ℕ) : Type 0 where
  pub low : (x : ℕ) → P x → least ≤ d x
  pub first : (x : ℕ) → P x → x < best → least < d x
  pub here : ((least ≡ far) × (best ≡ 0)) ⊎ (P best × (d best ≡ least))

-- of the places in P, `best` is the first of the nearest
pub record FirstNearest (P : ℕ → Type 0) (d : ℕ → ℕ) (best : ℕ) : Type 0 where
  pub least : ℕ
  pub nearest : Nearest P d best least

-- place x is one of the first j, and it is in P
abbrev pub Below : (P : ℕ → Type 0) (j x : ℕ) → Type 0
Below P j x = (x < j) × P x

-- place x's number in the row that starts at `from`
abbrev pub row_at : (dist : List ℕ) (from : ℕ) → ℕ → ℕ
row_at dist from x = get_or dist (from + x) 0

-- p is the first of the first r places that are in P at just that number, or r where there is none
pub record FirstAt (P : ℕ → Type 0) (d : ℕ → ℕ) (r wanted p : ℕ) : Type 0 where
  pub inside : p ≤ r
  pub earlier : (x : ℕ) → x < p → (d x ≡ wanted) × P x → ⊥
  pub here : p < r → (d p ≡ wanted) × P p

-- that place if there is one
abbrev pub FirstAtFound : (P : ℕ → Type 0) (d : ℕ → ℕ) (r wanted : ℕ) → Option ℕ → Type 0
FirstAtFound P d r wanted (Some p) = (p < r) × FirstAt P d r wanted p
FirstAtFound P d r wanted None = FirstAt P d r wanted r

-- what a scan for the next places of `place` stands on
pub record Scannable (book table dist : List ℕ) (r : ℕ) (signs : List ℕ) (place from : ℕ) : Type 0 where
  pub signed : Signed book table r signs
  pub inside : place < r
  pub in_dist : from + r ≤ length dist

-- a stored row that can be looked through: its cells ascend, and each is a place with a number in the row of distances that starts at
-- `from`
pub record Lookable (dist : List ℕ) (from : ℕ) (forth : List ℕ) (place : ℕ) : Type 0 where
  pub row : HasRow forth place
  pub in_dist : (e : ℕ) → start_at forth place ≤ e → e < end_at forth place → from + cell_at forth e < length dist
  pub ascends : (e : ℕ) → start_at forth place ≤ e → suc e < end_at forth place → cell_at forth e < cell_at forth (suc e)

-- ---- the next moment

-- if moves are stored, they are the moves forth, else there are signs
pub record Onward (book table : List ℕ) (r : ℕ) (forth signs : List ℕ) : Type 0 where
  pub stored : (length forth ≡ 0 → ⊥) → Forth book table r forth
  pub tested : length forth ≡ 0 → Signed book table r signs

-- the state at place p is the best next state of the one at `place`, for that aim
abbrev pub BestAt : (S : System) (table : List ℕ) (r place aim p : ℕ) → Type 0
BestAt S table r place aim p = (p < r) × Best S aim (get_or table place 0) (get_or table p 0)

-- from this moment's place and aim to the next moment's
pub record Stepped (S : System) (table : List ℕ) (r place aim place' aim' : ℕ) : Type 0 where
  pub passes : Passes S aim (get_or table place 0) aim'
  pub aimed : aim' < aims_of S
  pub best : BestAt S table r place aim' place'
