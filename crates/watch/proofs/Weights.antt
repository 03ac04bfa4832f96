-- What a row's places weigh, each by its word and its number: setting one place changes the sum by that place. How many unstruck places
-- have a number is such a sum. Assumes nothing.
use mathlib.Core.Path.{◌≡◌, refl, sym, ap, subst, ◌∙◌}
use mathlib.Core.Bool.{Bool, true, false, cond}
use mathlib.Core.List.{List}
use Prim.Native.Nat.{ℕ, zero, suc, ◌+◌, ◌-◌, ◌*◌, ◌≤◌, ◌<◌}
use native.Mathlib.Decide.{ℕ_discrete}
use native.Mathlib.Nat.{add-mul}
use native.Mathlib.Omega.{arith}
use lib.Dec.{eqb}
use lib.ListN.{length, get_or, set}
use lib.Seq.{get_or-set_same, get_or-set_other}
use Rattle.distances.specs.Values.{total}
use Rattle.distances.proofs.Totals.{total-same, total-most}
use Rattle.distances.specs.Far.{Unstruck}
use Rattle.watch.specs.Turns.{weight, unstruck_at, count_met_at}
use Rattle.watch.proofs.Sums.{weighs-one, weighs-none}

-- Sums of what agrees at every place but one differ by that place.
total-but-one : (f g : ℕ → ℕ) (i n : ℕ) → i < n → ((j : ℕ) → (j ≡ i → ⊥) → f j ≡ g j) → total f n + g i ≡ total g n + f i
total-but-one f g i zero h same = absurd (omega arith)
total-but-one f g i (suc n) h same = by (ℕ_discrete i n) (λ k. total-but-one f g i n k same)
  where
    by : Dec (i ≡ n) → (i < n → total f n + g i ≡ total g n + f i) → total f n + f n + g i ≡ total g n + g n + f i
    by (yes q) rest =
        let a : f i ≡ f n = ap f q in
        let b : g i ≡ g n = ap g q in
        let c = total-same f g n (λ j k. same j (λ e. omega arith)) in
        omega arith
    by (no q) rest =
        let a = same n (λ e. q (sym e)) in
        let c = rest (omega arith) in
        omega arith

-- Setting a row's place changes its weight by what that place weighs.
pub weight-set : (w : ℕ → ℕ → ℕ) (words row : List ℕ) (i v n : ℕ) → i < n → i < length row
    → weight w words (set row i v) n + w (get_or words i 0) (get_or row i 0) ≡ weight w words row n + w (get_or words i 0) v
weight-set w words row i v n h k =
    let a = total-but-one (λ j. w (get_or words j 0) (get_or (set row i v) j 0)) (λ j. w (get_or words j 0) (get_or row j 0)) i n h
    (λ j other. ap (w (get_or words j 0)) (get_or-set_other row i j v 0 other)) in
    let b : w (get_or words i 0) (get_or (set row i v) i 0) ≡ w (get_or words i 0) v = ap (w (get_or words i 0)) (get_or-set_same row i v 0 k) in
    omega arith

-- The same at an unstruck place whose number is known.
pub weight-turn : (w : ℕ → ℕ → ℕ) (words row : List ℕ) (i was to n : ℕ) → i < n → i < length row → Unstruck words i → get_or row i 0 ≡ was
    → weight w words (set row i to) n + w 0 was ≡ weight w words row n + w 0 to
weight-turn w words row i was to n h k z q =
    let a = weight-set w words row i to n h k in
    let b : w (get_or words i 0) (get_or row i 0) ≡ w 0 was = ap (λ (x : ℕ). w x (get_or row i 0)) z ∙ ap (w 0) q in
    let c : w (get_or words i 0) to ≡ w 0 to = ap (λ (x : ℕ). w x to) z in
    omega arith

-- No place counts for more than 1, so there are no more such places than places.
counts-most : (v word x : ℕ) → unstruck_at v word x ≤ 1
counts-most v word x = by (eqb x v)
  where
    by : (b : Bool) → (1 - word) * cond b 1 0 ≤ 1
    by true = omega arith
    by false = omega arith

ones : (n : ℕ) → total (λ i. 1) n ≡ n
ones zero = refl
ones (suc n) = let a = ones n in omega arith

pub count_most : (v : ℕ) (words row : List ℕ) → count_met_at v words row ≤ length row
count_most v words row =
    let a = total-most (λ i. unstruck_at v (get_or words i 0) (get_or row i 0)) (λ i. 1) (length row)
    (λ i h. counts-most v (get_or words i 0) (get_or row i 0)) in
    let b = ones (length row) in
    omega arith

-- An unstruck place that gets another number is counted no more.
pub count_turn : (words row : List ℕ) (i was to n : ℕ) → i < n → i < length row → Unstruck words i → get_or row i 0 ≡ was → (was ≡ to → ⊥)
    → weight (unstruck_at was) words (set row i to) n + 1 ≡ weight (unstruck_at was) words row n
count_turn words row i was to n h k z q apart =
    let a = weight-turn (unstruck_at was) words row i was to n h k z q in
    let b = weighs-one was in
    let c = weighs-none was 0 to (λ e. apart (sym e)) in
    omega arith

-- Sums with a multiple of what each turn changes: at first, after one turn more, and what they count.
pub scale-none : (s k a b : ℕ) → k ≡ 0 → s + k * a ≡ s + k * b
scale-none s k a b e = subst (λ (x : ℕ). s + x * a ≡ s + x * b) (sym e) (omega arith)

pub scale-more : (s s' s₀ k l a b : ℕ) → l ≡ suc k → s' + a ≡ s + b → s + k * a ≡ s₀ + k * b → s' + l * a ≡ s₀ + l * b
scale-more s s' s₀ k l a b e turn so_far = subst (λ (x : ℕ). s' + x * a ≡ s₀ + x * b) (sym e) (omega arith)

-- Two sums with such multiples, one after the other.
pub scale-then : (s'' s' s k l n a b : ℕ) → n ≡ k + l → s'' + l * a ≡ s' + l * b → s' + k * a ≡ s + k * b → s'' + n * a ≡ s + n * b
scale-then s'' s' s k l n a b e later first =
    subst (λ (x : ℕ). s'' + x * a ≡ s + x * b) (sym e) (sums (add-mul k l a) (add-mul k l b))
  where
    sums : (k + l) * a ≡ k * a + l * a → (k + l) * b ≡ k * b + l * b → s'' + (k + l) * a ≡ s + (k + l) * b
    sums p q = omega (arith, p, q, later, first)

pub scale-count : (s s₀ k a b : ℕ) → a ≡ 1 → b ≡ 0 → s + k * a ≡ s₀ + k * b → s + k ≡ s₀
scale-count s s₀ k a b e f t =
    let u : s + k * 1 ≡ s₀ + k * 0 = subst (λ (x : ℕ). s + k * 1 ≡ s₀ + k * x) f (subst (λ (x : ℕ). s + k * x ≡ s₀ + k * b) e t) in
    omega arith
