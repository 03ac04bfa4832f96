-- A test of every number below a bound, as loops make it. Assumes nothing.
use mathlib.Core.Path.{◌≡◌, refl, sym, ◌∙◌, ap, ap₂, subst}
use mathlib.Core.Bool.{Bool, true, false, ◌&&◌, and-false}
use mathlib.Core.List.{List}
use Prim.Native.Nat.{ℕ, zero, suc, ◌+◌, ◌/◌, ◌^◌, ◌≤◌, ◌<◌}
use native.Mathlib.Nat.{div-lt_iff_lt-mul}
use native.Mathlib.Decide.{ℕ_discrete, dec_lt}
use lib.Pow.{pow_pos}
use native.Mathlib.Numerals.{add-one}
use native.Mathlib.Omega.{arith}
use lib.Dec.{ltb}
use borrow.Author.Tests.{lt-ltb, le-ltb}
use Rattle.rules.specs.Book.{all_below, limit_row, row_holds, limit_ok}
use Rattle.rules.specs.declared.book.Bounded.{Bounded}

module _ (test : ℕ → Bool) where
  -- One more number passes.
  pub all_more : (i : ℕ) → all_below i test ≡ true → test i ≡ true → all_below (i + 1) test ≡ true
  all_more i all here =
      subst (λ (k : ℕ). all_below k test ≡ true) (sym (add-one i)) (ap₂ (λ (a b : Bool). a && b) all here)

  -- One that fails is enough.
  pub all-broken : (n i : ℕ) → i < n → test i ≡ false → all_below n test ≡ false
  all-broken zero i h e = absurd (omega arith)
  all-broken (suc n) i h e = by (ℕ_discrete i n) (λ l. all-broken n i l e)
    where
      by : Dec (i ≡ n) → (i < n → all_below n test ≡ false) → all_below (suc n) test ≡ false
      by (yes q) before = ap (λ (t : Bool). all_below n test && t) (ap test (sym q) ∙ e) ∙ and-false (all_below n test)
      by (no q) before = ap (λ (t : Bool). t && test n) (before (omega arith))

-- Tests that agree below n agree on all of it.
pub all_same : (f g : ℕ → Bool) (n : ℕ) → ((i : ℕ) → i < n → f i ≡ g i) → all_below n f ≡ all_below n g
all_same f g zero h = refl
all_same f g (suc n) h = ap₂ (λ (a b : Bool). a && b) (all_same f g n (λ i l. h i (omega arith))) (h n (omega arith))

-- What `each_below` tells of a test, exactly.
pub told : (test : ℕ → Bool) (n : ℕ) (r : Bool) → (r ≡ true → (i : ℕ) → i < n → test i ≡ true)
    → (r ≡ false → (i : ℕ) × (i < n) × (test i ≡ false)) → r ≡ all_below n test
told test n true t f = sym (passed-all n (t refl))
  where
    passed-all : (k : ℕ) → ((i : ℕ) → i < k → test i ≡ true) → all_below k test ≡ true
    passed-all zero p = refl
    passed-all (suc k) p = ap₂ (λ (a b : Bool). a && b) (passed-all k (λ i h. p i (omega arith))) (p k (omega arith))
told test n false t f = let failed = f refl in sym (all-broken test n failed.0 failed.1 failed.2)

-- A number is below 2 ^ n if nothing is left of it above its n lowest bits.
pub shifted-out : (s n : ℕ) → s / 2 ^ n ≡ 0 → s < 2 ^ n
shifted-out s n e =
    let h = (div-lt_iff_lt-mul {k = 2 ^ n} {x = s} {y = 1} (pow_pos n)).0 (omega arith) in
    omega arith

pub shifted_in : (s n : ℕ) → (s / 2 ^ n ≡ 0 → ⊥) → 2 ^ n ≤ s
shifted_in s n e = by (dec_lt s (2 ^ n))
  where
    by : Dec (s < 2 ^ n) → 2 ^ n ≤ s
    by (yes q) = absurd (e (let h = (div-lt_iff_lt-mul {k = 2 ^ n} {x = s} {y = 1} (pow_pos n)).1 (omega arith) in omega arith))
    by (no q) = omega arith

-- Such tests as a first half: refused at once, or left to the second half.
pub not-below : (s n r : ℕ) (rest : Bool) → r ≡ n → (s / 2 ^ r ≡ 0 → ⊥) → false ≡ (ltb s (2 ^ n) && rest)
not-below s n r rest e h =
    let l : 2 ^ n ≤ s = subst (λ (k : ℕ). 2 ^ k ≤ s) e (shifted_in s r h) in
    sym (ap (λ (t : Bool). t && rest) (le-ltb s (2 ^ n) l))

pub is_below : (s n r : ℕ) (rest : Bool) → r ≡ n → s / 2 ^ r ≡ 0 → rest ≡ (ltb s (2 ^ n) && rest)
is_below s n r rest e h =
    let l : s < 2 ^ n = subst (λ (k : ℕ). s < 2 ^ k) e (shifted-out s r h) in
    sym (ap (λ (t : Bool). t && rest) (lt-ltb s (2 ^ n) l))

-- A limit's row, read, says what the limit says.
pub limit-read : (book : List ℕ) (i s : ℕ) {row : Bounded} → row ≡ limit_row book i → row_holds s row ≡ limit_ok book s i
unfolding limit_ok
limit-read book i s e = ap (row_holds s) e
