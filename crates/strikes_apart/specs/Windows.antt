-- Whether a state stands twice, found out window by window: what one pass over the list says of the numbers from `low` on. Assumes nothing.
use Rattle.std.specs.Prelude.{◌≡◌, true, List, ℕ, ◌<◌, length, get_or}
use Rattle.ground.specs.States.{all_states}
use Rattle.strikes_apart.specs.Apart.{apart, Different}
use Rattle.strikes_apart.specs.declared.Looked.{Looked}
use Rattle.strikes_apart.specs.declared.Looked.TheVariants.{Twice, Next, Done}

-- how many numbers a window has, a mark for each
abbrev pub window_size : ℕ
window_size = 8192

-- each number is one of the states that the most letters make
abbrev pub AllSmall : List ℕ → Type 0
AllSmall l = (i : ℕ) → i < length l → get_or l i 0 < all_states

-- Numbers below `low` are settled: none of them stands at an earlier place, too.
abbrev pub Settled : List ℕ → (low : ℕ) → Type 0
Settled l low = (j : ℕ) → j < length l → get_or l j 0 < low → apart l j (get_or l j 0) ≡ true

-- What a pass from `low` on shows if the numbers below are settled: those below the next one are, too; or all are different.
abbrev pub Window : List ℕ → (low : ℕ) → Looked → Type 0
Window l low Twice = Unit {0}
Window l low (Next next) = (low < next) × (Settled l low → Settled l next)
Window l low Done = Settled l low → Different l
