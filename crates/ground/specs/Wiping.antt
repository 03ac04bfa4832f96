-- What wiping leaves. Assumes nothing.
use Rattle.std.specs.Prelude.{◌≡◌, List, ℕ, ◌≤◌, ◌<◌, length, get_or}

-- the first n of l are 0
abbrev pub Zeros : List ℕ → ℕ → Type 0
Zeros l n = (i : ℕ) → i < n → get_or l i 0 ≡ 0

-- they are 0 now, in a list that is as long as it was; the rest is as it was
pub record Wiped (n : ℕ) (old new : List ℕ) : Type 0 where
  pub long : length new ≡ length old
  pub zeros : Zeros new n
  pub rest : (i : ℕ) → n ≤ i → get_or new i 0 ≡ get_or old i 0
