-- Tests and searches: of two tests, and for numbers that pass a test. Below a bound one is found or there is none (`any_below`,
-- `all-below`), and where one passes there is a least one (`least-below`). Assumes nothing.
use Prim.Native.Nat.{ℕ, zero, suc, ◌≤◌, ◌<◌}
use mathlib.Core.Path.{◌≡◌, subst}
use mathlib.Core.Logic.Dec
use mathlib.Core.Logic.{◌⊎◌, inl, inr, ⊎_elim}
use native.Mathlib.Decide.{ℕ_discrete, dec_le}
use native.Mathlib.Omega.{arith}

-- Either of two decidable statements can be decided.
pub either? : {A B : Type 0} → Dec A → Dec B → Dec (A ⊎ B)
either? (yes a) d = yes (inl a)
either? (no a) (yes b) = yes (inr b)
either? (no a) (no b) = no (λ e. elim e [ inl x ↦ a x | inr y ↦ b y ])

-- An implication between decidable statements can be decided.
pub implies? : {A B : Type 0} → Dec A → Dec B → Dec (A → B)
implies? (no a) d = yes (λ x. absurd (a x))
implies? (yes a) (yes b) = yes (λ _. b)
implies? (yes a) (no b) = no (λ f. b (f a))

-- Below a bound there is a least number that passes, or none passes.
pub first_below : {P : ℕ → Type 0} → ((x : ℕ) → Dec (P x)) → (n : ℕ)
    → ((m : ℕ) × (m < n) × P m × ((x : ℕ) → P x → m ≤ x)) ⊎ ((x : ℕ) → x < n → P x → ⊥)
first_below d zero = inr (λ x l p. omega arith)
first_below {P} d (suc n) = by (first_below d n) (d n)
  where
    by : ((m : ℕ) × (m < n) × P m × ((x : ℕ) → P x → m ≤ x)) ⊎ ((x : ℕ) → x < n → P x → ⊥) → Dec (P n)
        → ((m : ℕ) × (m < suc n) × P m × ((x : ℕ) → P x → m ≤ x)) ⊎ ((x : ℕ) → x < suc n → P x → ⊥)
    by (inl w) e = inl (w.0, omega (arith, w.1), w.2, w.3)
    by (inr none) (yes p) = inl (n, omega arith, p, λ x q. above x q (dec_le n x))
      where
        above : (x : ℕ) → P x → Dec (n ≤ x) → n ≤ x
        above x q (yes l) = l
        above x q (no l) = absurd (none x (omega arith) q)
    by (inr none) (no p) = inr (λ x l q. at x l q (ℕ_discrete x n))
      where
        at : (x : ℕ) → x < suc n → P x → Dec (x ≡ n) → ⊥
        at x l q (yes e) = p (subst P e q)
        at x l q (no e) = none x (omega arith) q

-- Whether some number below n has P.
pub any_below : {P : ℕ → Type 0} → ((x : ℕ) → Dec (P x)) → (n : ℕ) → Dec ((x : ℕ) × (x < n) × P x)
any_below d n = ⊎_elim (λ w. yes (w.0, w.1, w.2)) (λ none. no (λ w. none w.0 w.1 w.2)) (first_below d n)

-- If some number has P, there is a least one.
pub least-below : {P : ℕ → Type 0} → ((x : ℕ) → Dec (P x)) → {n : ℕ} → P n → (m : ℕ) × P m × ((x : ℕ) → P x → m ≤ x)
least-below d {n} p = ⊎_elim (λ w. (w.0, w.2, w.3)) (λ none. absurd (none n (omega arith) p)) (first_below d (suc n))

-- Whether all numbers below n have P.
pub all-below : {P : ℕ → Type 0} → ((x : ℕ) → Dec (P x)) → (n : ℕ) → Dec ((x : ℕ) → x < n → P x)
all-below {P} d n = by (any_below {P = λ x. P x → ⊥} (λ x. Dec.not (d x)) n)
  where
    has : ((x : ℕ) × (x < n) × (P x → ⊥) → ⊥) → (x : ℕ) → x < n → Dec (P x) → P x
    has h x l (yes p) = p
    has h x l (no p) = absurd (h (x, l, p))

    by : Dec ((x : ℕ) × (x < n) × (P x → ⊥)) → Dec ((x : ℕ) → x < n → P x)
    by (yes h) = no (λ all. h.2 (all h.0 h.1))
    by (no h) = yes (λ x l. has h x l (d x))
