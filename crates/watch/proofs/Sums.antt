-- Sums over the places of a row: of two tests, of a test that no place passes, and of unstruck places. Assumes nothing.
use mathlib.Core.Path.{◌≡◌, refl, sym, ap, subst, ◌∙◌}
use mathlib.Core.Bool.{Bool, cond}
use mathlib.Core.List.{List}
use Prim.Native.Nat.{ℕ, zero, suc, ◌+◌, ◌-◌, ◌*◌, ◌≤◌, ◌<◌}
use native.Mathlib.Decide.{ℕ_discrete}
use native.Mathlib.Omega.{arith}
use borrow.Author.Tests.{eq-eqb, ne_eqb}
use lib.ListN.{length, get_or}
use Rattle.distances.specs.Values.{total}
use Rattle.distances.proofs.Totals.{total-most}
use Rattle.distances.specs.Far.{Unstruck}
use Rattle.watch.specs.Witness.{free_in}
use Rattle.watch.specs.Turns.{unstruck_at, count_met_at}

-- Two sums added are the sum of both.
pub total-both : (f g : ℕ → ℕ) (n : ℕ) → total f n + total g n ≡ total (λ i. f i + g i) n
total-both f g zero = refl
total-both f g (suc n) = let rest = total-both f g n in omega arith

-- A sum of zeros is zero.
pub total-zero : (f : ℕ → ℕ) (n : ℕ) → ((i : ℕ) → i < n → f i ≡ 0) → total f n ≡ 0
total-zero f zero e = refl
total-zero f (suc n) e = let rest = total-zero f n (λ i h. e i (omega arith)) in let last = e n (omega arith) in omega arith

-- What one place weighs: 1 where it is unstruck and has the number,
pub weighs-one : (v : ℕ) → unstruck_at v 0 v ≡ 1
weighs-one v = ap (λ (b : Bool). (1 - 0) * cond b 1 0) (eq-eqb v v refl)

-- no more than that it is unstruck,
pub weighs-most : (v word x : ℕ) → x ≡ v → unstruck_at v word x ≡ 1 - word
weighs-most v word x e = let a : unstruck_at v word x ≡ (1 - word) * 1 = ap (λ (b : Bool). (1 - word) * cond b 1 0) (eq-eqb x v e) in
    omega (arith, a)

-- and nothing where it has another.
pub weighs-none : (v word x : ℕ) → (x ≡ v → ⊥) → unstruck_at v word x ≡ 0
weighs-none v word x e = let a : unstruck_at v word x ≡ (1 - word) * 0 = ap (λ (b : Bool). (1 - word) * cond b 1 0) (ne_eqb x v e) in
    omega (arith, a)

-- Of two numbers a place has at most one.
two-weigh : (u v word x : ℕ) → (u ≡ v → ⊥) → unstruck_at u word x + unstruck_at v word x ≤ 1 - word
two-weigh u v word x apart = by (ℕ_discrete x u)
  where
    by : Dec (x ≡ u) → unstruck_at u word x + unstruck_at v word x ≤ 1 - word
    by (yes q) =
        let a = weighs-most u word x q in
        let b = weighs-none v word x (λ e. apart (sym q ∙ e)) in
        omega (arith, a, b)
    by (no q) = other (ℕ_discrete x v)
      where
        other : Dec (x ≡ v) → unstruck_at u word x + unstruck_at v word x ≤ 1 - word
        other (yes p) =
            let a = weighs-none u word x q in
            let b = weighs-most v word x p in
            omega (arith, a, b)
        other (no p) =
            let a = weighs-none u word x q in
            let b = weighs-none v word x p in
            omega (arith, a, b)

-- Places with one number and places with another are no more than the unstruck ones.
pub two-counts : (u v : ℕ) (words row : List ℕ) → (u ≡ v → ⊥) → count_met_at u words row + count_met_at v words row ≤ free_in words (length row)
two-counts u v words row apart =
    let a = total-both (λ i. unstruck_at u (get_or words i 0) (get_or row i 0)) (λ i. unstruck_at v (get_or words i 0) (get_or row i 0))
    (length row) in
    let b = total-most (λ i. unstruck_at u (get_or words i 0) (get_or row i 0) + unstruck_at v (get_or words i 0) (get_or row i 0))
    (λ i. 1 - get_or words i 0)
    (length row) (λ i h. two-weigh u v (get_or words i 0) (get_or row i 0) apart) in
    omega (arith, a, b)

-- No place with a number, and none is counted.
pub none-counts : (v : ℕ) (words row : List ℕ) → ((i : ℕ) → i < length row → Unstruck words i → get_or row i 0 ≡ v → ⊥)
    → count_met_at v words row ≡ 0
none-counts v words row none = total-zero (λ i. unstruck_at v (get_or words i 0) (get_or row i 0)) (length row)
    (λ i h. at i h (ℕ_discrete (get_or row i 0) v))
  where
    at : (i : ℕ) → i < length row → Dec (get_or row i 0 ≡ v) → unstruck_at v (get_or words i 0) (get_or row i 0) ≡ 0
    at i h (no q) = weighs-none v (get_or words i 0) (get_or row i 0) q
    at i h (yes q) = struck (ℕ_discrete (get_or words i 0) 0)
      where
        struck : Dec (Unstruck words i) → unstruck_at v (get_or words i 0) (get_or row i 0) ≡ 0
        struck (yes p) = absurd (none i h p q)
        struck (no p) = let a = weighs-most v (get_or words i 0) (get_or row i 0) q in omega (arith, a, p)

-- A longer sum is no smaller.
pub total-upto : (f : ℕ → ℕ) (i n : ℕ) → i ≤ n → total f i ≤ total f n
total-upto f i zero h = let e : i ≡ 0 = omega arith in subst (λ (x : ℕ). total f x ≤ 0) (sym e) (omega arith)
total-upto f i (suc n) h = by (ℕ_discrete i (suc n)) (total-upto f i n)
  where
    by : Dec (i ≡ suc n) → (i ≤ n → total f i ≤ total f n) → total f i ≤ total f n + f n
    by (yes q) rest = subst (λ (x : ℕ). total f x ≤ total f n + f n) (sym q) (omega arith)
    by (no q) rest = let a = rest (omega arith) in omega arith
