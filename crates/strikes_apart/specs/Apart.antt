-- That a number stands at none of a list's first places, and lists on which nothing stands twice. Assumes nothing.
use Rattle.std.specs.Prelude.{◌≡◌, Bool, true, not, List, ℕ, ◌<◌, eqb, length, get_or}
use Rattle.rules.specs.Book.{all_below}

-- t is not among the first m of the list
unfoldable pub apart : List ℕ → (m t : ℕ) → Bool
apart l m t = all_below m (λ j. not (eqb (get_or l j 0) t))

-- no number stands twice
abbrev pub Different : List ℕ → Type 0
Different l = (j : ℕ) → j < length l → apart l j (get_or l j 0) ≡ true
