-- One law for every iteration of the meaning: a decidable chain of sets of numbers below N that only rises (or only falls) comes to rest,
-- for any width w, at a step from which w more steps change nothing. Proved by number: each move of w steps that adds something adds to
-- the number of members, which is at most N, so the step is at most N * w. Assumes nothing.
use mathlib.Core.Path.{sym, subst}
use mathlib.Core.Logic.Dec
use Prim.Native.Nat.{ℕ, zero, suc, ◌+◌, ◌*◌, ◌≤◌, ◌<◌}
use native.Mathlib.Decide.{dec_lt}
use native.Mathlib.Nat.{suc-add, suc-mul, zero-add}
use native.Mathlib.Omega.{arith}
use Rattle.meaning.specs.System.{Number}
use Rattle.meaning.proofs.Search.{any_below}
use Rattle.meaning.proofs.Lists.{number-exists, number-mono, number-below, number-grows}

module _ {P : ℕ → ℕ → Type 0} (rises : (n x : ℕ) → P n x → P (suc n) x) where
  -- What is in is in w steps later.
  pub stays : (w n x : ℕ) → P n x → P (w + n) x
  stays zero n x p = subst (λ k. P k x) (sym (zero-add n)) p
  stays (suc w) n x p = subst (λ k. P k x) (sym (suc-add w n)) (rises (w + n) x (stays w n x p))

  module _ (has? : (n x : ℕ) → Dec (P n x)) (N w : ℕ) where
    abbrev Below : ℕ → ℕ → Type 0
    Below n x = P n x × x < N

    abbrev AtRest : ℕ → Type 0
    AtRest n = (x : ℕ) → x < N → P (w + n) x → P n x

    abbrev Gain : ℕ → ℕ → Type 0
    Gain n x = P (w + n) x × (P n x → ⊥)

    counted : (n : ℕ) → (c : ℕ) × Number (Below n) c
    counted n = number-exists (λ x. Dec.and (has? n x) (dec_lt x N)) N (λ x p. p.1)

    gain? : (n : ℕ) → Dec ((x : ℕ) × (x < N) × Gain n x)
    gain? n = any_below (λ x. Dec.and (has? (w + n) x) (Dec.not (has? n x))) N

    no-gain-rests : (n : ℕ) → ((x : ℕ) × (x < N) × Gain n x → ⊥) → AtRest n
    no-gain-rests n quiet x l p = by (has? n x)
      where
        by : Dec (P n x) → P n x
        by (yes q) = q
        by (no q) = absurd (quiet (x, l, (p, q)))

    gain-counts : (n : ℕ) {c d : ℕ} → (x : ℕ) × (x < N) × Gain n x → Number (Below n) c → Number (Below (w + n)) d → c < d
    gain-counts n (x, l, (p, q)) C D = number-grows x (λ y b. (stays w n y b.0, b.1)) (λ b. q b.0) (p, l) C D

    -- k moves of w steps are enough if at most k members are missing
    rests-within : (k n c : ℕ) → Number (Below n) c → N ≤ k + c → (m : ℕ) × (m ≤ n + k * w) × AtRest m
    rests-within zero n c C room = (
      n,
      omega arith,
      no-gain-rests n (λ g.
          let d = counted (w + n) in
          let a : c < d.0 = gain-counts n g C d.1 in
          let b : d.0 ≤ N = number-mono (λ x q. q.1) d.1 (number-below N) in
          omega arith),
    )
    rests-within (suc k) n c C room = by (gain? n) (counted (w + n)) (rests-within k (w + n))
      where
        by : Dec ((x : ℕ) × (x < N) × Gain n x) → (d : ℕ) × Number (Below (w + n)) d
            → ((d : ℕ) → Number (Below (w + n)) d → N ≤ k + d → (m : ℕ) × (m ≤ (w + n) + k * w) × AtRest m)
            → (m : ℕ) × (m ≤ n + suc k * w) × AtRest m
        by (no g) d rec = (n, omega arith, no-gain-rests n g)
        by (yes g) (d, D) rec =
            let more : c < d = gain-counts n g C D in
            let r = rec d D (omega arith) in
            let near = r.1 in
            (r.0, omega (arith, suc-mul k w), r.2)

    -- A rising chain rests, below N, from a step on that is at most N * w.
    pub settles : (n : ℕ) × (n ≤ N * w) × ((x : ℕ) → x < N → P (w + n) x → P n x)
    settles =
        let start = counted 0 in
        let r = rests-within N 0 start.0 start.1 (omega arith) in
        let near = r.1 in
        (r.0, omega arith, r.2)

-- A falling chain rests in the same way.
pub settles-falling : {P : ℕ → ℕ → Type 0} → ((n x : ℕ) → P (suc n) x → P n x) → ((n x : ℕ) → Dec (P n x)) → (N w : ℕ)
    → (n : ℕ) × (n ≤ N * w) × ((x : ℕ) → x < N → P n x → P (w + n) x)
settles-falling {P} falls has? N w = (out.0, out.1, λ x l p. (Dec.not-not (has? (w + out.0) x)).0 (λ q. out.2 x l q p))
  where
    out : (n : ℕ) × (n ≤ N * w) × ((x : ℕ) → x < N → (P (w + n) x → ⊥) → P n x → ⊥)
    out = settles {P = λ n x. P n x → ⊥} (λ n x q p. q (falls n x p)) (λ n x. Dec.not (has? n x)) N w

-- A rising chain rests, for steps of one.
pub settles-next : {P : ℕ → ℕ → Type 0} → ((n x : ℕ) → P n x → P (suc n) x) → ((n x : ℕ) → Dec (P n x)) → (N : ℕ)
    → (n : ℕ) × (n ≤ N) × ((x : ℕ) → x < N → P (suc n) x → P n x)
settles-next {P} rises has? N =
    let r = settles rises has? N 1 in
    let near = r.1 in
    (r.0, omega arith, λ x l p. r.2 x l (subst (λ k. P k x) (omega arith) p))
