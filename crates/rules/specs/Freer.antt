-- A state after which fewer step rules ask something may move to more states. Assumes nothing.
use Rattle.std.specs.Prelude.{◌≡◌, true, List, ℕ}
use Rattle.rules.specs.Book.{all_at, step_at, steps_ok}

-- if step rule i asks something after u, it asks the same after s
abbrev pub AsksToo : List ℕ → ℕ → ℕ → ℕ → Type 0
AsksToo book u s i = all_at book (step_at i) u ≡ true → all_at book (step_at i) s ≡ true

-- the step rules allow after u whatever they allow after s
abbrev pub Freer : List ℕ → ℕ → ℕ → Type 0
Freer book u s = (t : ℕ) → steps_ok book s t ≡ true → steps_ok book u t ≡ true
