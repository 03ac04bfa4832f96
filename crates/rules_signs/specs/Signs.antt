-- Signs: for each place of a table, which step rules ask something after its state, and which its state does not meet. Assumes nothing.
use Rattle.std.specs.Prelude.{◌≡◌, true, false, List, ℕ, ◌+◌, ◌*◌, ◌≤◌, ◌<◌, length, get_or}
use Rattle.meaning.specs.Promises.{most_states}
use Rattle.rules.specs.Table.{LawfulTable, To}
use Rattle.rules_signs.specs.Live.{sign_test}
use Rattle.rules_signs.specs.Words.{Apart, WordsOf, most_words}

-- how many numbers stand before the first row
abbrev pub head_size : ℕ
head_size = 2

-- a slot's number is mixed below this prime number
abbrev pub mixed_below : ℕ
mixed_below = 2147483647

-- the first number: how many words each half of a row has; the second: 1 if every live rule has a bit
abbrev pub words_of : List ℕ → ℕ
words_of signs = get_or signs 0 0

abbrev pub whole_of : List ℕ → ℕ
whole_of signs = get_or signs 1 0

-- where place i's row begins, the rules that ask something after its state; and its second half, those that its state does not meet
abbrev pub asked_from : (w i : ℕ) → ℕ
asked_from w i = head_size + i * (2 * w)

abbrev pub unmet_from : (w i : ℕ) → ℕ
unmet_from w i = asked_from w i + w

-- there is room for the rows of r places
pub record Roomed (r : ℕ) (signs : List ℕ) : Type 0 where
  pub headed : head_size ≤ length signs
  pub few-places : r ≤ most_states
  pub few_words : words_of signs ≤ most_words
  pub room : asked_from (words_of signs) r ≤ length signs

-- no rule asks something after place i's state that place j's does not meet, as far as the bits say
abbrev pub Free : (signs : List ℕ) (i j : ℕ) → Type 0
Free signs i j = Apart signs (asked_from (words_of signs) i) (unmet_from (words_of signs) j) (words_of signs)

-- the signs of a table's first r places: a move leads only where the bits are apart, and wherever they are if every live rule has one
pub record Signed (book table : List ℕ) (r : ℕ) (signs : List ℕ) : Type 0 where
  pub states : LawfulTable book table r
  pub roomed : Roomed r signs
  pub free : (i j : ℕ) → i < r → j < r → To book table i j → Free signs i j
  pub moves : whole_of signs ≡ 1 → (i j : ℕ) → i < r → j < r → Free signs i j → To book table i j

-- the rows of the first i places are written, n rules with w words to a half
pub record RowsTo (book table live : List ℕ) (n w : ℕ) (signs : List ℕ) (i : ℕ) : Type 0 where
  pub asked : (p : ℕ) → p < i → WordsOf (sign_test true book live (get_or table p 0)) n w signs (asked_from w p)
  pub unmet : (p : ℕ) → p < i → WordsOf (sign_test false book live (get_or table p 0)) n w signs (unmet_from w p)
