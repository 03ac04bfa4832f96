-- Sums over the first places of a list: they agree where the places agree, fall where one place falls, and change by one place where one
-- place is set. Assumes nothing.
use mathlib.Core.Path.{◌≡◌, refl, sym, ap, subst}
use mathlib.Core.List.{List}
use Prim.Native.Nat.{ℕ, zero, suc, ◌+◌, ◌≤◌, ◌<◌}
use native.Mathlib.Decide.{ℕ_discrete}
use native.Mathlib.Omega.{arith}
use lib.ListN.{length, get_or, set}
use lib.Seq.{get_or-set_same, get_or-set_other}
use Rattle.distances.specs.Values.{total}

-- Sums of what agrees at every place agree.
pub total-same : (f g : ℕ → ℕ) (n : ℕ) → ((i : ℕ) → i < n → f i ≡ g i) → total f n ≡ total g n
total-same f g zero e = refl
total-same f g (suc n) e =
    let rest = total-same f g n (λ i h. e i (omega arith)) in
    let last = e n (omega arith) in
    omega arith

-- Sums of what is no larger at any place are no larger.
pub total-most : (f g : ℕ → ℕ) (n : ℕ) → ((i : ℕ) → i < n → f i ≤ g i) → total f n ≤ total g n
total-most f g zero e = omega arith
total-most f g (suc n) e =
    let rest = total-most f g n (λ i h. e i (omega arith)) in
    let last = e n (omega arith) in
    omega arith

-- And smaller, if smaller at one place.
pub total-less : (f g : ℕ → ℕ) (n : ℕ) → ((i : ℕ) → i < n → f i ≤ g i) → (j : ℕ) → j < n → f j < g j → total f n < total g n
total-less f g zero e j h l = absurd (omega arith)
total-less f g (suc n) e j h l = by (ℕ_discrete j n) (total-less f g n (λ i k. e i (omega arith)) j)
  where
    by : Dec (j ≡ n) → (j < n → f j < g j → total f n < total g n) → total f n + f n < total g n + g n
    by (yes q) more =
        let last : f n < g n = subst (λ (x : ℕ). f x < g x) q l in
        let rest = total-most f g n (λ i k. e i (omega arith)) in
        omega arith
    by (no q) more =
        let rest = more (omega arith) l in
        let last = e n (omega arith) in
        omega arith

-- Where a sum is 0, each place is.
pub total-none : (f : ℕ → ℕ) (n : ℕ) → total f n ≡ 0 → (i : ℕ) → i < n → f i ≡ 0
total-none f zero e i h = absurd (omega arith)
total-none f (suc n) e i h = by (ℕ_discrete i n) (total-none f n (omega arith) i)
  where
    by : Dec (i ≡ n) → (i < n → f i ≡ 0) → f i ≡ 0
    by (yes q) rest = subst (λ (x : ℕ). f x ≡ 0) (sym q) (omega arith)
    by (no q) rest = rest (omega arith)

-- Setting a place past the summed ones changes nothing.
pub total-set-past : (w : ℕ → ℕ) (l : List ℕ) (i v n : ℕ) → n ≤ i
    → total (λ j. w (get_or (set l i v) j 0)) n ≡ total (λ j. w (get_or l j 0)) n
total-set-past w l i v n h = total-same _ _ n (λ j k. ap w (get_or-set_other l i j v 0 (λ e. omega arith)))

-- Setting one place changes the sum by what that place weighs.
pub total-set : (w : ℕ → ℕ) (l : List ℕ) (i v n : ℕ) → i < n → i < length l
    → total (λ j. w (get_or (set l i v) j 0)) n + w (get_or l i 0) ≡ total (λ j. w (get_or l j 0)) n + w v
total-set w l i v zero h k = absurd (omega arith)
total-set w l i v (suc n) h k = by (ℕ_discrete i n) (total-set w l i v n)
  where
    by : Dec (i ≡ n) → (i < n → i < length l → total (λ j. w (get_or (set l i v) j 0)) n + w (get_or l i 0) ≡ total (λ j. w (get_or l j 0)) n
        + w v)
        → total (λ j. w (get_or (set l i v) j 0)) n + w (get_or (set l i v) n 0) + w (get_or l i 0)
        ≡ total (λ j. w (get_or l j 0)) n + w (get_or l n 0) + w v
    by (yes q) rest =
        let a : w (get_or (set l i v) n 0) ≡ w v = subst (λ (x : ℕ). w (get_or (set l i v) x 0) ≡ w v) q (ap w (get_or-set_same l i v 0 k)) in
        let b : w (get_or l i 0) ≡ w (get_or l n 0) = ap (λ (x : ℕ). w (get_or l x 0)) q in
        let c = total-set-past w l i v n (omega arith) in
        omega arith
    by (no q) rest =
        let a : w (get_or (set l i v) n 0) ≡ w (get_or l n 0) = ap w (get_or-set_other l i n v 0 (λ e. q (sym e))) in
        let c = rest (omega arith) k in
        omega arith
