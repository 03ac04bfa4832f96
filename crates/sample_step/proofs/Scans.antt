-- The nearest of some places, found one place after the other: in a scan of the table, where places are tested, and in a stored row.
-- Assumes nothing.
use mathlib.Core.Path.{◌≡◌, refl, sym, subst}
use mathlib.Core.Logic.{◌⊎◌, inl, inr}
use mathlib.Core.List.{List}
use Prim.Native.Nat.{ℕ, zero, suc, ◌+◌, ◌-◌, ◌≤◌, ◌<◌}
use native.Mathlib.Decide.{dec_lt}
use native.Mathlib.Omega.{arith}
use lib.ListN.{get_or}
use Rattle.ground.specs.Listed.{Between}
use Rattle.distances.specs.Far.{far}
use Rattle.sample_step.specs.Step.{Nearest, FirstNearest, Below, FirstAt}

module _ {P Q : ℕ → Type 0} {d : ℕ → ℕ} {best least : ℕ} (n : Nearest P d best least) where
  -- One more place, which is nearer, is the nearest so far.
  nearest-closer : (x : ℕ) → d x < least → Q x → ((y : ℕ) → Q y → P y ⊎ (y ≡ x)) → Nearest Q d x (d x)
  nearest-closer x h q grows = record { low = λ y m. low y (grows y m); first = λ y m l. first y l (grows y m); here = inr (q, refl) }
    where
      low : (y : ℕ) → P y ⊎ (y ≡ x) → d x ≤ d y
      low y (inl p) = omega (arith, h, n.low y p)
      low y (inr e) = subst (λ (z : ℕ). d x ≤ d z) (sym e) (omega arith)

      first : (y : ℕ) → y < x → P y ⊎ (y ≡ x) → d x < d y
      first y l (inl p) = omega (arith, h, n.low y p)
      first y l (inr e) = absurd (omega arith)

  -- Places behind all others, which are not nearer, change nothing.
  nearest-stays : ((y : ℕ) → P y → Q y) → ((y : ℕ) → Q y → P y ⊎ ((least ≤ d y) × ((z : ℕ) → P z → z < y))) → Nearest Q d best least
  nearest-stays keeps grows = record {
    low = λ y m. low y (grows y m);
    first = λ y m l. first y l (grows y m) n.here;
    here = here n.here;
  }
    where
      low : (y : ℕ) → P y ⊎ ((least ≤ d y) × ((z : ℕ) → P z → z < y)) → least ≤ d y
      low y (inl p) = n.low y p
      low y (inr w) = w.0

      first : (y : ℕ) → y < best → P y ⊎ ((least ≤ d y) × ((z : ℕ) → P z → z < y)) → ((least ≡ far) × (best ≡ 0))
          ⊎ (P best × (d best ≡ least))
          → least < d y
      first y l (inl p) h = n.first y p l
      first y l (inr w) (inl e) = absurd (omega (arith, e.1))
      first y l (inr w) (inr v) = absurd (omega (arith, w.1 best v.0))

      here : ((least ≡ far) × (best ≡ 0)) ⊎ (P best × (d best ≡ least)) → ((least ≡ far) × (best ≡ 0)) ⊎ (Q best × (d best ≡ least))
      here (inl e) = inl e
      here (inr v) = inr (keeps best v.0, v.1)

-- ---- in a scan

-- Where no place of P has a lesser number than `wanted`, the first that has just that number is the first of the nearest.
pub nearest-at : {P : ℕ → Type 0} {d : ℕ → ℕ} {r wanted p : ℕ} → ((x : ℕ) → x < r → P x → wanted ≤ d x) → FirstAt P d r wanted p → p < r
    → FirstNearest (Below P r) d p
nearest-at {P} {d} {r} {wanted} {p} low at h = record {
  least = wanted;
  nearest = record { low = λ x m. low x m.0 m.1; first = first; here = inr ((h, (at.here h).1), (at.here h).0) };
}
  where
    first : (x : ℕ) → Below P r x → x < p → wanted < d x
    first x m l = by (dec_lt wanted (d x))
      where
        by : Dec (wanted < d x) → wanted < d x
        by (yes q) = q
        by (no q) = absurd (at.earlier x l (omega (arith, low x m.0 m.1), m.1))

-- ---- in a stored row

-- Cells that ascend one by one ascend.
climbs : (cell : ℕ → ℕ) (start end : ℕ) → ((e : ℕ) → start ≤ e → suc e < end → cell e < cell (suc e)) → (n e f : ℕ) → start ≤ e
    → f ≡ suc (e + n)
    → f < end → cell e < cell f
climbs cell start end up zero e f p q h = let z : suc e ≡ f = omega arith in subst (λ (y : ℕ). cell e < cell y) z (up e p (omega arith))
climbs cell start end up (suc n) e f p q h =
    let z : suc (suc (e + n)) ≡ f = omega arith in
    let below : cell e < cell (suc (e + n)) = climbs cell start end up n e (suc (e + n)) p refl (omega arith) in
    let last : cell (suc (e + n)) < cell (suc (suc (e + n))) = up (suc (e + n)) (omega arith) (omega arith) in
    subst (λ (y : ℕ). cell e < cell y) z (omega arith)

-- With one cell more a place stood there before, or it is in that cell.
stands-more : (cells : List ℕ) (start e y : ℕ) → Between cells start (e + 1) y → Between cells start e y ⊎ (y ≡ get_or cells e 0)
stands-more cells start e y (f, p, q, s) = by (dec_lt f e)
  where
    by : Dec (f < e) → Between cells start e y ⊎ (y ≡ get_or cells e 0)
    by (yes l) = inl (f, p, l, s)
    by (no l) = let z : f ≡ e = omega arith in inr (sym (subst (λ (g : ℕ). get_or cells g 0 ≡ y) z s))

module _ (cells : List ℕ) (d : ℕ → ℕ) (start e x : ℕ) {best least : ℕ} (here : x ≡ get_or cells e 0)
    (n : Nearest (Between cells start e) d best least) where
  -- The place in the next cell, if it is nearer, is the nearest so far.
  pub looked-nearer : start ≤ e → d x < least → Nearest (Between cells start (e + 1)) d x (d x)
  looked-nearer s h = nearest-closer n x h (e, s, omega arith, sym here) (λ y m. by y (stands-more cells start e y m))
    where
      by : (y : ℕ) → Between cells start e y ⊎ (y ≡ get_or cells e 0) → Between cells start e y ⊎ (y ≡ x)
      by y (inl p) = inl p
      by y (inr q) = inr (omega arith)

  -- Any other place changes nothing.
  pub looked-not : (end : ℕ) → ((f : ℕ) → start ≤ f → suc f < end → get_or cells f 0 < get_or cells (suc f) 0) → e < end → least ≤ d x
      → Nearest (Between cells start (e + 1)) d best least
  looked-not end up l h = nearest-stays n (λ y m. (m.0, m.1, omega (arith, m.2), m.3)) (λ y m. by y (stands-more cells start e y m))
    where
      before : (z : ℕ) → Between cells start e z → z < x
      before z (f, p, q, s) =
          let above : get_or cells f 0 < get_or cells e 0 = climbs (λ (g : ℕ). get_or cells g 0) start end up (e - suc f) f e p (omega arith) l in
          omega arith

      by : (y : ℕ) → Between cells start e y ⊎ (y ≡ get_or cells e 0) → Between cells start e y
          ⊎ ((least ≤ d y) × ((z : ℕ) → Between cells start e z → z < y))
      by y (inl p) = inl p
      by y (inr q) = let same : x ≡ y = omega arith in
          subst (λ (w : ℕ). Between cells start e w ⊎ ((least ≤ d w) × ((z : ℕ) → Between cells start e z → z < w))) same (inr (h, before))

-- ---- at the end

-- Once all places are looked at, the nearest so far is the first of the nearest.
pub nearest-all : {P Q : ℕ → Type 0} {d : ℕ → ℕ} {best least : ℕ} → ((x : ℕ) → P x → Q x) → ((x : ℕ) → Q x → P x) → Nearest P d best least
    → FirstNearest Q d best
nearest-all to from n = record { least = _; nearest = nearest-stays n to (λ y m. inl (from y m)) }
