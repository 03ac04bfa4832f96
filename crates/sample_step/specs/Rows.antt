-- What the rows of distances stand on and hold: the livable states place by place, and the distance to each aim from each of them.
-- Document 01, "The judge's two papers", first paragraph. Assumes nothing.
use Rattle.std.specs.Prelude.{◌≡◌, List, ℕ, suc, ◌+◌, ◌-◌, ◌*◌, ◌≤◌, ◌<◌, length, get_or}
use Rattle.meaning.specs.System.{System, Livable}
use Rattle.meaning.specs.Sample.{Distance}
use Rattle.ground.specs.Wiping.{Zeros}
use Rattle.distances.specs.Far.{far}
use Rattle.rules.specs.Book.{book_system}
use Rattle.rules.specs.Table.{LawfulTable}

-- the first r places of the table hold the livable states, ascending
pub record Livables (S : System) (table : List ℕ) (r : ℕ) : Type 0 where
  pub rises : (x y : ℕ) → x < y → y < r → get_or table x 0 < get_or table y 0
  pub sound : (x : ℕ) → x < r → Livable S (get_or table x 0)
  pub whole : (s : ℕ) → Livable S s → (x : ℕ) × (x < r) × (get_or table x 0 ≡ s)

-- a book, and a table whose first r places hold its livable states, at least one, each of them lawful
pub record LivableTable (book table : List ℕ) (r : ℕ) : Type 0 where
  pub states : LawfulTable book table r
  pub some : 1 ≤ r
  pub livables : Livables (book_system book) table r

-- how many aims there are: with no promises the one aim asks nothing
abbrev pub aims_of : System → ℕ
aims_of S = suc (S.promises - 1)

-- row q of `dist`: the distance to aim q from each of the first r places
pub record Rowed (S : System) (table : List ℕ) (r : ℕ) (dist : List ℕ) : Type 0 where
  pub distance : (q x : ℕ) → q < aims_of S → x < r → Distance S q (get_or dist (q * r + x) 0) (get_or table x 0)
  pub near : (q x : ℕ) → q < aims_of S → x < r → get_or dist (q * r + x) 0 < far

-- what the distances are measured over: livable states, none of them marked
pub record Rowable (book table words : List ℕ) (r : ℕ) : Type 0 where
  pub states : LivableTable book table r
  pub in_words : r ≤ length words
  pub unmarked : Zeros words r

-- the rows are measured, in the same room
pub record RowsMeasured (book table : List ℕ) (r : ℕ) (old new : List ℕ) : Type 0 where
  pub rowed : Rowed (book_system book) table r new
  pub long : length new ≡ length old

-- what every step of the walk stands on: livable states, and their distances
pub record Walkable (book table dist : List ℕ) (r : ℕ) : Type 0 where
  pub states : LivableTable book table r
  pub in_dist : aims_of (book_system book) * r ≤ length dist
  pub rowed : Rowed (book_system book) table r dist
