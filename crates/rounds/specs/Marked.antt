-- What the words say after the last round of striking. Assumes nothing.
use Rattle.std.specs.Prelude.{◌≡◌, ◌⊎◌, List, ℕ, zero, suc, ◌+◌, ◌<◌, cond, eqb, get_or}
use Rattle.meaning.specs.System.{System, Livable}
use Rattle.meaning.specs.Strike.{Struck, word_of}

-- one state's word: 0 and livable, or struck in the phase that the word names
abbrev pub Word : System → (s word : ℕ) → Type 0
Word S s word = ((word ≡ 0) × Livable S s) ⊎ ((n : ℕ) × Struck S n s × (word ≡ word_of S n))

-- how many of the first r words are 0
abbrev pub unstruck : List ℕ → ℕ → ℕ
unstruck words zero = 0
unstruck words (suc r) = unstruck words r + cond (eqb (get_or words r 0) 0) 1 0

-- the words of the first r states of the table, and how many are left
pub record Marked (S : System) (table words : List ℕ) (r left : ℕ) : Type 0 where
  pub word : (i : ℕ) → i < r → Word S (get_or table i 0) (get_or words i 0)
  pub left_is : left ≡ unstruck words r
