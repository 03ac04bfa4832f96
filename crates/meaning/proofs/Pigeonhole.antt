-- More moments than pairs: of more than m numbers below m two are equal, and of more than K * q pairs, below K and below q, two are the
-- same pair. Assumes nothing.
use Prim.Native.Nat.{ℕ, zero, suc, ◌+◌, ◌-◌, ◌*◌, ◌/◌, ◌%◌, ◌≤◌, ◌<◌}
use mathlib.Core.Path.{◌≡◌, sym, ap, ◌∙◌}
use mathlib.Core.Bool.{cond}
use native.Mathlib.Decide.{ℕ_discrete, dec_lt, dec_le}
use native.Mathlib.Nat.{mul-add-div_right, mul-add-mod_self_right, div-eq_of_lt, mod-eq_of_lt, mul-le-mul_right, suc-mul}
use native.Mathlib.Omega.{arith}
use lib.Dec.{ltb}
use borrow.Author.Tests.{lt-ltb, le-ltb}
use Rattle.meaning.proofs.Search.{any_below}

-- a number other than x, with x taken out of the numbers
squeeze : ℕ → ℕ → ℕ
squeeze x y = cond (ltb x y) (y - 1) y

-- A number above x goes down by one.
squeeze-above : (x y : ℕ) → x < y → squeeze x y ≡ y - 1
unfolding squeeze
squeeze-above x y h = rw (lt-ltb x y h)

-- A number up to x stays.
squeeze-below : (x y : ℕ) → y ≤ x → squeeze x y ≡ y
unfolding squeeze
squeeze-below x y h = rw (le-ltb x y h)

-- Where x is taken out of the numbers below suc m, those below m are left.
squeeze-fits : (m x y : ℕ) → x < suc m → y < suc m → (y ≡ x → ⊥) → squeeze x y < m
squeeze-fits m x y p q n = by (dec_lt x y)
  where
    by : Dec (x < y) → squeeze x y < m
    by (yes h) = rw (squeeze-above x y h) (omega arith)
    by (no h) = rw (squeeze-below x y (omega arith)) (omega arith)

-- Taking x out keeps different numbers different.
squeeze-apart : (x y z : ℕ) → (y ≡ x → ⊥) → (z ≡ x → ⊥) → squeeze x y ≡ squeeze x z → y ≡ z
squeeze-apart x y z p q e = by (dec_lt x y) (dec_lt x z)
  where
    by : Dec (x < y) → Dec (x < z) → y ≡ z
    by (yes h) (yes k) = omega (arith, squeeze-above x y h, squeeze-above x z k)
    by (yes h) (no k) = omega (arith, squeeze-above x y h, squeeze-below x z (omega arith))
    by (no h) (yes k) = omega (arith, squeeze-below x y (omega arith), squeeze-above x z k)
    by (no h) (no k) = omega (arith, squeeze-below x y (omega arith), squeeze-below x z (omega arith))

-- Of more than m numbers below m, two are equal.
pub repeats : (m n : ℕ) (g : ℕ → ℕ) → ((i : ℕ) → i < n → g i < m) → m < n → (i j : ℕ) × (i < j) × (j < n) × (g i ≡ g j)
repeats m zero g below q = absurd (omega arith)
repeats zero (suc n) g below q = absurd (omega (arith, below n (omega arith)))
repeats (suc m) (suc n) g below q = by (any_below {P = λ i. g i ≡ g n} (λ i. ℕ_discrete (g i) (g n)) n)
    (λ fits. repeats m n (λ i. squeeze (g n) (g i)) fits (omega arith))
  where
    by : Dec ((i : ℕ) × (i < n) × (g i ≡ g n))
        → (((i : ℕ) → i < n → squeeze (g n) (g i) < m) → (i j : ℕ) × (i < j) × (j < n) × (squeeze (g n) (g i) ≡ squeeze (g n) (g j)))
        → (i j : ℕ) × (i < j) × (j < suc n) × (g i ≡ g j)
    by (yes w) rest = (w.0, n, w.1, omega arith, w.2)
    by (no none) rest = (
      r.0,
      r.1,
      r.2,
      omega (arith, r.3),
      squeeze-apart (g n) (g r.0) (g r.1) (other r.0 (omega (arith, r.2, r.3))) (other r.1 r.3) r.4,
    )
      where
        other : (i : ℕ) → i < n → g i ≡ g n → ⊥
        other i h e = none (i, h, e)

        r : (i j : ℕ) × (i < j) × (j < n) × (squeeze (g n) (g i) ≡ squeeze (g n) (g j))
        r = rest (λ i h. squeeze-fits m (g n) (g i) (below n (omega arith)) (below i (omega arith)) (other i h))

-- A pair, the second part below q, is read back from its code.
same-pair : (q x a y b : ℕ) → a < q → b < q → x * q + a ≡ y * q + b → (x ≡ y) × (a ≡ b)
same-pair q x a y b h k e =
    (sym (first x a h) ∙ ap (λ (n : ℕ). n / q) e ∙ first y b k, sym (second x a h) ∙ ap (λ (n : ℕ). n % q) e ∙ second y b k)
  where
    first : (x a : ℕ) → a < q → (x * q + a) / q ≡ x
    first x a h = mul-add-div_right (omega arith) x a ∙ omega (arith, div-eq_of_lt h)

    second : (x a : ℕ) → a < q → (x * q + a) % q ≡ a
    second x a h = mul-add-mod_self_right x q a ∙ mod-eq_of_lt h

-- Of more than K * q pairs, below K and below q, two are the same pair.
pub pairs-repeat : (K q n : ℕ) (x a : ℕ → ℕ) → ((i : ℕ) → i < n → x i < K) → ((i : ℕ) → i < n → a i < q) → K * q < n
    → (i j : ℕ) × (i < j) × (j < n) × (x i ≡ x j) × (a i ≡ a j)
pairs-repeat K q n x a xs ys h = (r.0, r.1, r.2, r.3, left.0, left.1)
  where
    code : ℕ → ℕ
    code i = x i * q + a i

    fits : (i : ℕ) → i < n → code i < K * q
    fits i p = omega (arith, ys i p, suc-mul (x i) q, mul-le-mul_right q (xs i p))

    r : (i j : ℕ) × (i < j) × (j < n) × (code i ≡ code j)
    r = repeats (K * q) n code fits h

    left : (x r.0 ≡ x r.1) × (a r.0 ≡ a r.1)
    left = same-pair q (x r.0) (a r.0) (x r.1) (a r.1) (ys r.0 (omega (arith, r.2, r.3))) (ys r.1 r.3) r.4

-- Different pairs, below K and below q, are at most K * q.
pub pairs-fit : (K q n : ℕ) (x a : ℕ → ℕ) → ((i : ℕ) → i < n → x i < K) → ((i : ℕ) → i < n → a i < q)
    → ((i j : ℕ) → i < j → j < n → x i ≡ x j → a i ≡ a j → ⊥) → n ≤ K * q
pairs-fit K q n x a xs ys apart = by (dec_le n (K * q))
  where
    by : Dec (n ≤ K * q) → n ≤ K * q
    by (yes h) = h
    by (no h) = absurd (apart r.0 r.1 r.2 r.3 r.4 r.5)
      where
        r : (i j : ℕ) × (i < j) × (j < n) × (x i ≡ x j) × (a i ≡ a j)
        r = pairs-repeat K q n x a xs ys (omega arith)
