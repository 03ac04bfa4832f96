-- The two masks of a list of literals, and when a list is in order. Assumes nothing.
use Rattle.std.specs.Prelude.{Bool, true, false, cond, not, List, [], ◌∷◌, ℕ, ◌+◌, ◌-◌, ◌^◌, ◌≤◌, ◌<◌}
use Rattle.meaning.specs.Sheet.{positive, size}

-- a literal of this sign
abbrev pub agrees : Bool → Bool → Bool
agrees true sign = sign
agrees false sign = not sign

-- the mask of the letters that a list's literals of one sign name: `mask_of true` of those that are to hold, `mask_of false` of the others
unfoldable pub mask_of : Bool → List ℕ → ℕ
unfolding positive size
mask_of p [] = 0
mask_of p (l ∷ ls) = cond (agrees p (positive l)) (mask_of p ls + 2 ^ (size l - 1)) (mask_of p ls)

-- where a literal stands in the order of signed numbers, by its sign and size
abbrev pub rank : Bool → ℕ → ℕ
rank true m = 128 + m
rank false m = 128 - m

-- each literal names one of the letters 1 to n, and they stand strictly in order, all above `before`
abbrev pub Ordered : ℕ → ℕ → List ℕ → Type 0
Ordered n before [] = Unit {0}
Ordered n before (l ∷ ls) = (before < rank (positive l) (size l)) × (1 ≤ size l) × (size l ≤ n) × Ordered n (rank (positive l) (size l)) ls
