-- What stands in a part of a list, and that a part rises. Assumes nothing.
use Rattle.std.specs.Prelude.{◌≡◌, List, ℕ, suc, ◌≤◌, ◌<◌, get_or}

-- s stands among the first n of l
abbrev pub Has : List ℕ → (n s : ℕ) → Type 0
Has l n s = (i : ℕ) × (i < n) × (get_or l i 0 ≡ s)

-- s stands in l, from place `start` on and before place `end`
abbrev pub Between : List ℕ → (start end s : ℕ) → Type 0
Between l start end s = (i : ℕ) × (start ≤ i) × (i < end) × (get_or l i 0 ≡ s)

-- the first n of l rise strictly
abbrev pub Rises : List ℕ → ℕ → Type 0
Rises l n = (i : ℕ) → suc i < n → get_or l i 0 < get_or l (suc i) 0
