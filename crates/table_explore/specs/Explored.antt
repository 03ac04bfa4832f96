-- What exploring tells: all reachable states, or that there are more than there is room for. Assumes nothing.
use Rattle.std.specs.Prelude.{Option, MatchOption, List, ℕ, ◌≤◌, ◌<◌, take}
use Rattle.meaning.specs.System.{System, Reachable, Lists, IsR}

-- The first r places of the table list exactly the reachable states, r at most cap, where r is told; where nothing is, R is above cap.
abbrev pub Explored : (S : System) (cap : ℕ) (table : List ℕ) → Option ℕ → Type 0
Explored S cap table told = MatchOption told ((n : ℕ) → IsR S n → cap < n) (λ r. (r ≤ cap) × Lists (Reachable S) (take r table))
