-- Demand 3, first two parts, over any system: with K livable states and p promises, p at least 1, the sample run is written in at most
-- K * p moments, and from every moment of its endless reading each promise is kept fewer than K * p moves later. Moments with different
-- pairs of state and aim are at most K * p (`moments-fit`), and a sample run that comes back to a pair has met every promise in between
-- that it will ever meet. Assumes nothing.
use mathlib.Core.Path.{◌≡◌, sym, subst, ◌∙◌, ap}
use mathlib.Core.List.{List}
use Prim.Native.Nat.{ℕ, suc, ◌+◌, ◌-◌, ◌*◌, ◌≤◌, ◌<◌}
use native.Mathlib.Nat.{mul-one, zero-add}
use native.Mathlib.Omega.{arith}
use lib.ListN.{length, get_or}
use Rattle.meaning.specs.System.{System, Obeys, Livable, In, Number, Finite}
use Rattle.meaning.specs.Sample.{Sample, RunPaper}
use Rattle.meaning.specs.Papers.{reading}
use Rattle.meaning.proofs.Search.{least-below}
use Rattle.meaning.proofs.Pigeonhole.{pairs-fit}
use Rattle.meaning.proofs.Unique.{sample-determined}
use Rattle.meaning.proofs.SampleRun.{sample-livable, aim-below, sample-obeys, paper-reads-the-sample}

-- As many moments as differ in state or aim are at most the number of livable states times that of aims.
moments-fit : {S : System} {f aim : ℕ → ℕ} {K : ℕ} → Sample S f aim → Number (Livable S) K → (i n : ℕ)
    → ((m m' : ℕ) → m < m' → m' < n → f (i + m) ≡ f (i + m') → aim (i + m) ≡ aim (i + m') → ⊥) → n ≤ K * suc (S.promises - 1)
moments-fit {S} {f} {aim} {K} x number i n apart =
    pairs-fit K (suc (S.promises - 1)) n (λ m. (found m).0) (λ m. aim (i + m)) (λ m h. omega (arith, (found m).1, number.counted))
    (λ m h. aim-below x (i + m)) (λ m m' h h' e. apart m m' h h' (sym (found m).2 ∙ ap (λ (j : ℕ). get_or number.list j 0) e
    ∙ (found m').2))
  where
    found : (m : ℕ) → In number.list (f (i + m))
    found m = number.lists.whole (f (i + m)) (sample-livable x (i + m))

-- The states on a paper are at most the number of livable states times that of aims.
run_fits : {S : System} {states : List ℕ} {a K : ℕ} → RunPaper S states a → Number (Livable S) K → length states ≤ K * suc (S.promises - 1)
run_fits {S} {states} r number = moments-fit r.sample number 0 (length states) (λ m m' h h'. rw (zero-add m, zero-add m')
    (r.no_earlier m m' h h'))

-- Demand 3: "the sample run is written in at most K times p moments".
pub run-within-kp : {S : System} {states : List ℕ} {a K : ℕ} → RunPaper S states a → Number (Livable S) K → 1 ≤ S.promises
    → length states ≤ K * S.promises
run-within-kp {S} {states} {a} {K} r number h =
    let e : suc (S.promises - 1) ≡ S.promises = omega arith in subst (λ (q : ℕ). length states ≤ K * q) e (run_fits r number)

-- With no promises the sample run is written in at most K moments.
pub run-within-k : {S : System} {states : List ℕ} {a K : ℕ} → RunPaper S states a → Number (Livable S) K → S.promises ≡ 0
    → length states ≤ K
run-within-k {S} {states} {a} {K} r number h =
    let e : suc (S.promises - 1) ≡ 1 = omega arith in rw (mul-one K) at (subst (λ (q : ℕ). length states ≤ K * q) e (run_fits r number))

-- The first time that a promise is kept, counted from a moment.
first-kept : {S : System} {f : ℕ → ℕ} → Finite S → Obeys S f → (k : ℕ) → k < S.promises → (i : ℕ)
    → (d : ℕ) × S.Kept k (f (i + d)) × ((j : ℕ) → S.Kept k (f (i + j)) → d ≤ j)
first-kept {S} {f} fin o k h i = from (o.keeps k h i)
  where
    from : (j : ℕ) × (i ≤ j) × S.Kept k (f j) → (d : ℕ) × S.Kept k (f (i + d)) × ((j : ℕ) → S.Kept k (f (i + j)) → d ≤ j)
    from w = let e : w.0 ≡ i + (w.0 - i) = omega (arith, w.1) in
        least-below {P = λ j. S.Kept k (f (i + j))} (λ j. fin.kept? k (f (i + j))) {n = w.0 - i}
        (subst (λ (j : ℕ). S.Kept k (f j)) e w.2)

-- Up to the first time that a promise is kept, no pair of state and aim comes twice: it would bring that time nearer.
apart-until-kept : {S : System} {f aim : ℕ → ℕ} → Sample S f aim → (k i d : ℕ) → S.Kept k (f (i + d))
    → ((j : ℕ) → S.Kept k (f (i + j)) → d ≤ j)
    → (m m' : ℕ) → m < m' → m' < suc d → f (i + m) ≡ f (i + m') → aim (i + m) ≡ aim (i + m') → ⊥
apart-until-kept {S} {f} x k i d kept least m m' p q e e' = omega (arith, least (m + (d - m')) (subst (S.Kept k) same kept))
  where
    same : f (i + d) ≡ f (i + (m + (d - m')))
    same = let here : i + d ≡ i + m' + (d - m') = omega arith in let there : i + m + (d - m') ≡ i + (m + (d - m')) = omega arith in
        ap f here ∙ sym (sample-determined x (i + m) (i + m') e e' (d - m')).0 ∙ ap f there

-- Demand 3: "from every moment of its endless reading each promise is kept fewer than K times p moves later, that moment itself counted as
-- zero moves".
pub kept-within-kp : {S : System} {states : List ℕ} {a K : ℕ} → Finite S → RunPaper S states a → Number (Livable S) K → (k : ℕ)
    → k < S.promises
    → (i : ℕ) → (j : ℕ) × (j < K * S.promises) × S.Kept k (reading states a (i + j))
kept-within-kp {S} {states} {a} {K} fin r number k h i = by (first-kept fin (sample-obeys r.sample) k h i)
  where
    by : (d : ℕ) × S.Kept k (r.run (i + d)) × ((j : ℕ) → S.Kept k (r.run (i + j)) → d ≤ j)
        → (j : ℕ) × (j < K * S.promises) × S.Kept k (reading states a (i + j))
    by w = let e : suc (S.promises - 1) ≡ S.promises = omega arith in (
      w.0,
      subst (λ (q : ℕ). w.0 < K * q) e (moments-fit r.sample number i (suc w.0) (apart-until-kept r.sample k i w.0 w.1
          w.2)),
      rw (paper-reads-the-sample r (i + w.0)) w.1,
    )
