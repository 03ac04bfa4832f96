-- One bit of a number, over any width. A bit is 0 or 1 (bit-small, bit-cases), and what a shift reads (bit_shifted); the bits of 0, of a
-- power of 2 (which a shift does not lose: power-shifted) and of the number before it (bit-full), of what two numbers have together
-- (bit-or) and in common (bit-and); what setting a bit with `or` does to each bit (bit-marked, bit-unmarked), and what adding 2 ^ j does
-- where bit j is not set (bit_added, and_set, set_below). Assumes nothing.
use mathlib.Core.Path.{◌≡◌, refl, sym, ◌∙◌, ap, ap₂}
use mathlib.Core.Logic.{◌⊎◌, inl, inr}
use Prim.Native.Nat.{ℕ, zero, suc, ◌+◌, ◌-◌, ◌*◌, ◌/◌, ◌%◌, ◌^◌, ◌<◌, min, max}
use native.Mathlib.Nat.{mod-lt, max-zero, pow-suc, mul_assoc, mul-div_cancel, mul-mod_left, div-one, one-mul}
use native.Mathlib.Decide.{dec_lt}
use native.Mathlib.Omega.{arith}
use lib.Arith.{digits_mod}
use lib.Bits.{bit_and, bit_or, and_step, and_shr, or_step, or_shr}
use lib.Dec.{lit<}
use lib.Pow.{shr-shr, shl_exact, pow_pos}
use Rattle.ground.specs.Bits.{bit}

-- ---- one bit

-- A bit is 0 or 1.
pub bit-small : (k x : ℕ) → bit k x < 2
bit-small zero x = mod-lt x (omega arith)
bit-small (suc k) x = bit-small k (x / 2)

-- So it is one of the two.
pub bit-cases : (j a : ℕ) → (bit j a ≡ 0) ⊎ (bit j a ≡ 1)
bit-cases j a = by (dec_lt (bit j a) 1)
  where
    by : Dec (bit j a < 1) → (bit j a ≡ 0) ⊎ (bit j a ≡ 1)
    by (yes p) = inl (omega arith)
    by (no p) = inr (omega (arith, bit-small j a))

-- Shifted down by k, a number ends in its bit k.
pub bit_shifted : (k x : ℕ) → x / 2 ^ k % 2 ≡ bit k x
bit_shifted zero x = ap (λ (y : ℕ). y % 2) (div-one x)
bit_shifted (suc k) x =
    let e : 1 + k ≡ suc k = omega arith in
    ap (λ (y : ℕ). y % 2) (sym (shr-shr x 1 k ∙ ap (λ (n : ℕ). x / 2 ^ n) e)) ∙ bit_shifted k (x / 2)

-- 0 has no bit.
pub bit-none : (k : ℕ) → bit k 0 ≡ 0
bit-none zero = refl
bit-none (suc k) = bit-none k

-- A bit of x or y is the larger of theirs.
pub bit-or : (k x y : ℕ) → bit k (bit_or x y) ≡ max (bit k x) (bit k y)
bit-or zero x y =
    let small : max (x % 2) (y % 2) < 2 = omega arith in
    ap (λ (n : ℕ). n % 2) (or_step x y) ∙ digits_mod (bit_or (x / 2) (y / 2)) small
bit-or (suc k) x y = ap (bit k) (or_shr x y 1) ∙ bit-or k (x / 2) (y / 2)

-- A bit of what x and y have in common is the lesser of theirs.
pub bit-and : (k x y : ℕ) → bit k (bit_and x y) ≡ min (bit k x) (bit k y)
bit-and zero x y = omega (arith, and_step x y)
bit-and (suc k) x y = ap (bit k) (and_shr x y 1) ∙ bit-and k (x / 2) (y / 2)

-- ---- the bits of a power of 2

-- Half of it is the power before.
pub half-power : (a : ℕ) → 2 ^ suc a / 2 ≡ 2 ^ a
half-power a = ap (λ (n : ℕ). n / 2) (pow-suc 2 a) ∙ mul-div_cancel (2 ^ a) {n = 2} (omega arith)

-- It has its own bit.
pub bit-own : (a : ℕ) → bit a (2 ^ a) ≡ 1
bit-own zero = refl
bit-own (suc a) = ap (bit a) (half-power a) ∙ bit-own a

-- It has no other.
pub bit-other : (j a : ℕ) → (j ≡ a → ⊥) → bit j (2 ^ a) ≡ 0
bit-other zero zero n = absurd (n refl)
bit-other zero (suc a) n = ap (λ (n : ℕ). n % 2) (pow-suc 2 a) ∙ mul-mod_left (2 ^ a) 2
bit-other (suc j) zero n = bit-none j
bit-other (suc j) (suc a) n = ap (bit j) (half-power a) ∙ bit-other j a (λ e. n (ap suc e))

-- It is not lost where a machine of w bits shifts it.
pub power-shifted : (w : ℕ) {a : ℕ} → a < w → (1 * 2 ^ a) % 2 ^ w ≡ 2 ^ a
power-shifted w {a} h = shl_exact {a = 1} 1 a w (lit< tt) (omega arith) ∙ one-mul (2 ^ a)

-- Below it every bit is set in the number before it.
pub bit-full : (k v : ℕ) → v < k → bit v (2 ^ k - 1) ≡ 1
bit-full zero v h = absurd (omega arith)
bit-full (suc k) zero h = omega (arith, pow-suc 2 k, pow_pos k)
bit-full (suc k) (suc v) h =
    let half : (2 ^ suc k - 1) / 2 ≡ 2 ^ k - 1 = omega (arith, pow-suc 2 k, pow_pos k) in
    ap (bit v) half ∙ bit-full k v (omega arith)

-- ---- one bit more

-- A marked bit is set.
pub bit-marked : (a w : ℕ) → bit a (bit_or w (2 ^ a)) ≡ 1
bit-marked a w = bit-or a w (2 ^ a) ∙ ap (max (bit a w)) (bit-own a) ∙ omega (arith, bit-small a w)

-- Every other bit is as it was.
pub bit-unmarked : (a j w : ℕ) → (j ≡ a → ⊥) → bit j (bit_or w (2 ^ a)) ≡ bit j w
bit-unmarked a j w n = bit-or j w (2 ^ a) ∙ ap (max (bit j w)) (bit-other j a n) ∙ max-zero (bit j w)

-- Half of m + 2 ^ j, and whether it is odd.
pub set-half : (j m : ℕ) → (m + 2 ^ suc j) / 2 ≡ m / 2 + 2 ^ j
set-half j m = let e : 2 ^ suc j ≡ 2 ^ j * 2 = pow-suc 2 j in omega arith

pub set-odd : (j m : ℕ) → (m + 2 ^ suc j) % 2 ≡ m % 2
set-odd j m = let e : 2 ^ suc j ≡ 2 ^ j * 2 = pow-suc 2 j in omega arith

-- Where bit i is not set, adding 2 ^ i leaves every other bit as it was.
pub bit_added : (i j m : ℕ) → (i ≡ j → ⊥) → bit i m ≡ 0 → bit j (m + 2 ^ i) ≡ bit j m
bit_added zero zero m ne z = absurd (ne refl)
bit_added zero (suc j) m ne z =
    let even : m % 2 ≡ 0 = z in
    let half : (m + 1) / 2 ≡ m / 2 = omega arith in
    ap (bit j) half
bit_added (suc i) zero m ne z = set-odd i m
bit_added (suc i) (suc j) m ne z = ap (bit j) (set-half i m) ∙ bit_added i j (m / 2) (λ e. ne (ap suc e)) z

-- What s has in common with it grows by the bit of s.
pub and_set : (j m s : ℕ) → bit j m ≡ 0 → bit_and s (m + 2 ^ j) ≡ bit_and s m + bit j s * 2 ^ j
and_set zero m s z =
    let even : m % 2 ≡ 0 = z in
    let half : (m + 1) / 2 ≡ m / 2 = omega arith in
    let a = and_step s (m + 1) ∙ ap (λ (x : ℕ). bit_and (s / 2) x * 2 + min (s % 2) ((m + 1) % 2)) half in
    let b = and_step s m in
    omega arith
and_set (suc j) m s z =
    let a = and_step s (m + 2 ^ suc j) ∙ ap₂ (λ (x y : ℕ). bit_and (s / 2) y * 2 + min (s % 2) x) (set-odd j m) (set-half j m) in
    let b = and_step s m in
    let c = and_set j (m / 2) (s / 2) z in
    let d : bit (suc j) s * 2 ^ suc j ≡ bit j (s / 2) * 2 ^ j * 2 =
    ap (λ (y : ℕ). bit j (s / 2) * y) (pow-suc 2 j) ∙ sym (mul_assoc (bit j (s / 2)) (2 ^ j) 2) in
    omega arith

-- A bound by digits is kept.
pub set_below : (n j m : ℕ) → j < n → bit j m ≡ 0 → m < 2 ^ n → m + 2 ^ j < 2 ^ n
set_below zero j m h z l = absurd (omega arith)
set_below (suc n) zero m h z l =
    let even : m % 2 ≡ 0 = z in
    let e : 2 ^ suc n ≡ 2 ^ n * 2 = pow-suc 2 n in
    omega arith
set_below (suc n) (suc j) m h z l =
    let e : 2 ^ suc n ≡ 2 ^ n * 2 = pow-suc 2 n in
    let f : 2 ^ suc j ≡ 2 ^ j * 2 = pow-suc 2 j in
    let k = set_below n j (m / 2) (omega arith) z (omega arith) in
    omega arith
