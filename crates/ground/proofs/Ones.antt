-- How many bits are set, over any width: in 0, after setting one (ones-set, ones-and-set) or clearing the lowest (ones-cleared), in a part
-- (ones-and-le, ones-parted). A number below another bit by bit has no more, and if it has as many, they are the same (ones_below,
-- below-same). Assumes nothing.
use mathlib.Core.Path.{◌≡◌, refl, sym, ◌∙◌, ap, ap₂}
use mathlib.Core.Logic.{◌⊎◌, inl, inr}
use Prim.Native.Nat.{ℕ, zero, suc, ◌+◌, ◌-◌, ◌*◌, ◌/◌, ◌%◌, ◌^◌, ◌≤◌, ◌<◌, min}
use native.Mathlib.Nat.{pow-suc}
use native.Mathlib.Decide.{dec_lt}
use native.Mathlib.Omega.{arith}
use lib.Arith.{bin_ind}
use lib.Bits.{bit_and, and_step, and_self}
use lib.Count.{ones, ones_step}
use Rattle.ground.specs.Bits.{bit}
use Rattle.ground.proofs.Bits.{bit-cases, bit-and, set-half, set-odd, and_set}

-- ---- none, and one more

-- 0 has none.
pub ones_none : ones 0 ≡ 0
unfolding ones
ones_none = refl

-- Only 0 has none.
pub ones-zero : (a : ℕ) → ones a ≡ 0 → a ≡ 0
ones-zero = bin_ind (λ (a : ℕ). ones a ≡ 0 → a ≡ 0) (λ e. refl) halves
  where
    halves : (a : ℕ) → (ones (a / 2) ≡ 0 → a / 2 ≡ 0) → ones a ≡ 0 → a ≡ 0
    halves a ih e = omega (arith, ones_step a, ih (omega (arith, ones_step a)))

-- Every other number has one.
pub ones-some : (a : ℕ) → (a ≡ 0 → ⊥) → 1 ≤ ones a
ones-some a f = by (dec_lt (ones a) 1)
  where
    by : Dec (ones a < 1) → 1 ≤ ones a
    by (yes p) = absurd (f (ones-zero a (omega arith)))
    by (no p) = omega arith

-- One more bit is set.
pub ones-set : (j m : ℕ) → bit j m ≡ 0 → ones (m + 2 ^ j) ≡ ones m + 1
ones-set zero m z =
    let even : m % 2 ≡ 0 = z in
    let half : (m + 1) / 2 ≡ m / 2 = omega arith in
    let a = ones_step (m + 1) ∙ ap (λ (x : ℕ). (m + 1) % 2 + ones x) half in
    let b = ones_step m in
    omega arith
ones-set (suc j) m z =
    let a = ones_step (m + 2 ^ suc j) ∙ ap₂ (λ (x y : ℕ). x + ones y) (set-odd j m) (set-half j m) in
    let b = ones_step m in
    let c = ones-set j (m / 2) z in
    omega arith

-- And in what s has in common with it, if bit j of s is set.
pub ones-and-set : (j m s : ℕ) → bit j m ≡ 0 → ones (bit_and s (m + 2 ^ j)) ≡ ones (bit_and s m) + bit j s
ones-and-set j m s z = by (bit-cases j s)
  where
    by : (bit j s ≡ 0) ⊎ (bit j s ≡ 1) → ones (bit_and s (m + 2 ^ j)) ≡ ones (bit_and s m) + bit j s
    by (inl e) =
        let a : bit_and s (m + 2 ^ j) ≡ bit_and s m =
        and_set j m s z ∙ (let q : bit_and s m + bit j s * 2 ^ j ≡ bit_and s m = rw e (omega arith) in q) in
        let b = ap ones a in
        omega arith
    by (inr e) =
        let a : bit_and s (m + 2 ^ j) ≡ bit_and s m + 2 ^ j =
        and_set j m s z ∙ (let q : bit_and s m + bit j s * 2 ^ j ≡ bit_and s m + 2 ^ j = rw e (omega arith) in q) in
        let clear : bit j (bit_and s m) ≡ 0 = bit-and j s m ∙ (let q : min (bit j s) (bit j m) ≡ 0 = omega arith in q) in
        let b = ap ones a ∙ ones-set j (bit_and s m) clear in
        omega arith

-- ---- numbers below one another, bit by bit

-- a has no bit that b has not
pub record Below (a b : ℕ) : Type 0 where
  pub at : (j : ℕ) → bit j a ≤ bit j b

below_half : {a b : ℕ} → Below a b → Below (a / 2) (b / 2)
below_half h = record { at = λ j. h.at (suc j) }

-- It has no more bits.
pub ones_below : (a b : ℕ) → Below a b → ones a ≤ ones b
ones_below = bin_ind (λ (a : ℕ). (b : ℕ) → Below a b → ones a ≤ ones b) (λ b h. omega (arith, ones_none)) halves
  where
    halves : (a : ℕ) → ((b : ℕ) → Below (a / 2) b → ones (a / 2) ≤ ones b) → (b : ℕ) → Below a b → ones a ≤ ones b
    halves a ih b h = omega (arith, ones_step a, ones_step b, h.at 0, ih (b / 2) (below_half h))

-- As many: the same bits.
pub below-same : (j a b : ℕ) → Below a b → ones b ≤ ones a → bit j b ≤ bit j a
below-same zero a b h e = omega (arith, ones_step a, ones_step b, ones_below (a / 2) (b / 2) (below_half h))
below-same (suc j) a b h e =
    below-same j (a / 2) (b / 2) (below_half h) (omega (
      arith,
      ones_step a,
      ones_step b,
      h.at 0,
      ones_below (a / 2) (b / 2) (below_half h),
    ))

-- No more bits are set in a part than in the whole.
pub ones-and-le : (s m : ℕ) → ones (bit_and s m) ≤ ones m
ones-and-le s m = ones_below (bit_and s m) m (record { at = λ j. omega (arith, bit-and j s m) })

-- ---- by halves

-- the count of what two numbers have in common, by halves
ones-and-step : (s x : ℕ) → ones (bit_and s x) ≡ min (s % 2) (x % 2) + ones (bit_and (s / 2) (x / 2))
ones-and-step s x =
    let e = and_step s x in
    let half : bit_and s x / 2 ≡ bit_and (s / 2) (x / 2) = omega arith in
    let odd : bit_and s x % 2 ≡ min (s % 2) (x % 2) = omega arith in
    ones_step (bit_and s x) ∙ ap₂ (λ (a b : ℕ). a + ones b) odd half

-- The bits of u that are set in s, and those that are not, make up u; the numbers have k digits.
pub ones-parted : (k s u : ℕ) → s < 2 ^ k → u < 2 ^ k → ones (bit_and u (2 ^ k - 1 - s)) + ones (bit_and s u) ≡ ones u
unfolding ones
ones-parted zero s u hs hu =
    let none : s ≡ 0 = omega arith in
    let nothing : u ≡ 0 = omega arith in
    ap₂ (λ (x y : ℕ). ones (bit_and y (1 - 1 - x)) + ones (bit_and x y)) none nothing ∙ ap ones (sym nothing)
ones-parted (suc k) s u hs hu =
    let twice = pow-suc 2 k in
    let rest : ℕ = 2 ^ suc k - 1 - s in
    let half : rest / 2 ≡ 2 ^ k - 1 - s / 2 = omega (arith, twice, hs) in
    let odd : rest % 2 ≡ 1 - s % 2 = omega (arith, twice, hs) in
    let a = ones-and-step u rest ∙ ap₂ (λ (x y : ℕ). min (u % 2) x + ones (bit_and (u / 2) y)) odd half in
    let b = ones-and-step s u in
    let c = ones_step u in
    let d = ones-parted k (s / 2) (u / 2) (omega (arith, twice, hs)) (omega (arith, twice, hu)) in
    joined (s % 2) (u % 2) _ _ _ _ _ _ (omega arith) (omega arith) a b c d
  where
    joined : (x y p q r f g h : ℕ) → x < 2 → y < 2 → p ≡ min y (1 - x) + f → q ≡ min x y + g → r ≡ y + h → f + g ≡ h → p + q ≡ r
    joined x y p q r f g h hx hy a b c d = omega arith

-- Without its lowest set bit a number has one set bit less.
pub ones-cleared : (x : ℕ) → 0 < x → ones (bit_and x (x - 1)) + 1 ≡ ones x
ones-cleared = bin_ind (λ (x : ℕ). 0 < x → ones (bit_and x (x - 1)) + 1 ≡ ones x) (λ h. absurd (omega arith)) halves
  where
    halves : (x : ℕ) → (0 < x / 2 → ones (bit_and (x / 2) (x / 2 - 1)) + 1 ≡ ones (x / 2)) → 0 < x → ones (bit_and x (x - 1)) + 1 ≡ ones x
    halves x ih h = by (bit-cases 0 x)
      where
        by : (bit 0 x ≡ 0) ⊎ (bit 0 x ≡ 1) → ones (bit_and x (x - 1)) + 1 ≡ ones x
        by (inl e) =
            let even : x % 2 ≡ 0 = e in
            let half : (x - 1) / 2 ≡ x / 2 - 1 = omega arith in
            let a = ones-and-step x (x - 1) ∙ ap (λ (y : ℕ). min (x % 2) ((x - 1) % 2) + ones (bit_and (x / 2) y)) half in
            let b = ones_step x in
            let c = ih (omega arith) in
            omega arith
        by (inr e) =
            let odd : x % 2 ≡ 1 = e in
            let half : (x - 1) / 2 ≡ x / 2 = omega arith in
            let a =
            ones-and-step x (x - 1) ∙ ap (λ (y : ℕ). min (x % 2) ((x - 1) % 2) + ones (bit_and (x / 2) y)) half
            ∙ ap (λ (y : ℕ). min (x % 2) ((x - 1) % 2) + ones y) (and_self (x / 2)) in
            let b = ones_step x in
            omega arith
