-- What the parts of steering promise one another: what is asked, the moment at which the sample run is cut, and the run as it is written.
-- Document 01, "The judge's two papers", first paragraph. Assumes nothing.
use Rattle.std.specs.Prelude.{◌≡◌, ◌⊎◌, List, ℕ, ◌≤◌, ◌<◌, length, get_or}
use Rattle.meaning.specs.System.{System}
use Rattle.meaning.specs.Sample.{Sample}
use Rattle.rules.specs.Book.{book_system}
use Rattle.sample_step.specs.Rows.{LivableTable, Walkable}
use Rattle.sample_walk.specs.Steered.{Steered}

-- ---- what `steer` asks and tells

-- a book, a table of its livable states, and a word for each
pub record Steerable (book table words : List ℕ) (r : ℕ) : Type 0 where
  pub states : LivableTable book table r
  pub in_words : r ≤ length words

-- the sample run's paper, and the words' length as it was
pub record Walked (book words words' run run' : List ℕ) (a b : ℕ) : Type 0 where
  pub steered : Steered (book_system book) run run' a b
  pub long : length words' ≡ length words

-- ---- the walk

-- The sample run meets its first pair of state and aim for the second time at moment b, and the pair is that of `place` and `aim`.
pub record LoopCut (S : System) (table : List ℕ) (b place aim : ℕ) : Type 0 where
  pub run : ℕ → ℕ
  pub aims : ℕ → ℕ
  pub sample : Sample S run aims
  pub back : ℕ
  pub before : back < b
  pub same_state : run b ≡ run back
  pub same-aim : aims b ≡ aims back
  pub fresh : (i j : ℕ) → i < j → j < b → run i ≡ run j → aims i ≡ aims j → ⊥
  pub here : run b ≡ get_or table place 0
  pub aimed : aims b ≡ aim
  pub few : b ≤ 262144

-- the first walk ends at moment b, at that place and aim
pub record Ended (book table words words' : List ℕ) (r b place aim : ℕ) : Type 0 where
  pub cut : LoopCut (book_system book) table b place aim
  pub inside : place < r
  pub long : length words' ≡ length words

-- what the second walk stands on
pub record Known (book table dist run : List ℕ) (r b last goal : ℕ) : Type 0 where
  pub walkable : Walkable book table dist r
  pub cut : LoopCut (book_system book) table b last goal
  pub inside : last < r
  pub fits : b ≤ length run

-- c is i where the pair of `place` and `aim` is that of `last` and `goal`, else a
abbrev pub BackFrom : (place last aim goal i a c : ℕ) → Type 0
BackFrom place last aim goal i a c = ((place ≡ last) × (aim ≡ goal) × (c ≡ i)) ⊎ ((place ≡ last → aim ≡ goal → ⊥) × (c ≡ a))

-- a is the moment that the pair at moment b comes from, and the b states stand at the front of the run
pub record RunWritten (S : System) (table : List ℕ) (b place aim : ℕ) (run run' : List ℕ) (a : ℕ) : Type 0 where
  pub cut : LoopCut S table b place aim
  pub from : a ≡ cut.back
  pub long : length run' ≡ length run
  pub states : (i : ℕ) → i < b → get_or run' i 0 ≡ cut.run i
  pub rest : (i : ℕ) → b ≤ i → get_or run' i 0 ≡ get_or run i 0
