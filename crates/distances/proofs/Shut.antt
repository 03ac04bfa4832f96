-- A spread keeps what is sure of the values, and shut values are the distances. Assumes nothing.
use mathlib.Core.Path.{◌≡◌, refl, sym, ap, subst, ◌∙◌}
use mathlib.Core.Logic.{◌⊎◌, inl, inr}
use mathlib.Core.List.{List}
use Prim.Native.Nat.{ℕ, zero, suc, ◌-◌, ◌≤◌, ◌<◌}
use native.Mathlib.Decide.{ℕ_discrete}
use native.Mathlib.Omega.{arith}
use lib.ListN.{get_or}
use Rattle.meaning.specs.System.{System}
use Rattle.meaning.specs.Strike.{Way}
use Rattle.distances.specs.Far.{Unstruck, UnstruckIn, far, gone, Place, near, never, struck}
use Rattle.distances.specs.Values.{far_at, fars, Reaches, as_was, reached, Spread, Sure, Near}
use Rattle.distances.proofs.Totals.{total-less, total-none}

-- what a spread makes of one place is no farther than it was
reaches-nearer : {P : Type 0} {d old new : ℕ} → d < gone → Reaches P d old new → new - gone ≤ old - gone
reaches-nearer {old = old} {new = new} small (as_was e f) = let h : new - gone ≡ old - gone = ap (λ (x : ℕ). x - gone) e in omega arith
reaches-nearer small (reached e p f) = omega arith

-- what is nearer than gone stays
pub reaches-keeps : {P : Type 0} {d old new : ℕ} → Reaches P d old new → old < gone → new ≡ old
reaches-keeps (as_was e f) h = e
reaches-keeps (reached e p f) h = absurd (omega arith)

-- a spread that reaches a place counts it
pub spread-counts : (P : ℕ → Type 0) (d r : ℕ) (old new : List ℕ) (got i : ℕ) → Spread P d r old new got → d < gone → i < r
    → get_or old i 0 ≡ far → get_or new i 0 ≡ d → 1 ≤ got
spread-counts P d r old new got i s small h e f =
    let less = total-less (far_at new) (far_at old) r (λ m k. reaches-nearer small (s.each m k)) i h (omega arith) in
    let a = s.counted in
    omega arith

-- where no place is counted as far, none is
pub none-far : (r : ℕ) (old : List ℕ) → fars old r ≡ 0 → (i : ℕ) → i < r → get_or old i 0 ≡ far → ⊥
none-far r old none i h e = let z = total-none (far_at old) r none i h in omega arith

module _ (S : System) (G : ℕ → Type 0) (table words : List ℕ) (r : ℕ) where
  -- a way through unstruck states to G, from the state at place i
  abbrev pub WayAt : ℕ → ℕ → Type 0
  WayAt n i = Way S (UnstruckIn table words r) G n (get_or table i 0)

  -- an unstruck place's value is far, or the number of moves of a way
  abbrev pub Reached : (i x : ℕ) → Type 0
  Reached i x = (x ≡ far) ⊎ ((x < gone) × WayAt x i)

  -- what is not far has a way
  pub reached-near : (i x : ℕ) → Reached i x → (x ≡ far → ⊥) → (x < gone) × WayAt x i
  reached-near i x (inl e) n = absurd (n e)
  reached-near i x (inr h) n = h

  -- every move to a place with a number is known
  abbrev pub Shut : List ℕ → Type 0
  Shut old = (i m : ℕ) → i < r → m < r → Unstruck words i → Unstruck words m → S.Move (get_or table i 0) (get_or table m 0)
      → get_or old m 0 < gone → get_or old i 0 ≤ suc (get_or old m 0)

  module _ (old : List ℕ) (sure : Sure S G table words r old) where
    -- A place with a number is unstruck.
    pub near-live : (i : ℕ) → i < r → get_or old i 0 < gone → Unstruck words i
    near-live i h l = by (ℕ_discrete (get_or words i 0) 0)
      where
        by : Dec (Unstruck words i) → Unstruck words i
        by (yes z) = z
        by (no n) = absurd (let g = sure.struck i h n in omega arith)

    -- Spreading from place j: the values stay sure.
    pub sure-spread : (P : ℕ → Type 0) (j d : ℕ) (new : List ℕ) (more : ℕ) → j < r → get_or old j 0 ≡ d → suc d < gone
        → ((i : ℕ) → i < r → P i → S.Move (get_or table i 0) (get_or table j 0))
        → Spread P (suc d) r old new more → Sure S G table words r new
    sure-spread P j d new more inside here small out s = record {
      long = s.long ∙ sure.long;
      struck = λ i h n. let g = sure.struck i h n in still-gone i g (s.each i h);
      each = λ i h z. at i h z (s.each i h) (sure.each i h z);
      base = λ i h z g. let b = sure.base i h z g in let k = reaches-keeps (s.each i h) (omega arith) in k ∙ b;
    }
      where
        still-gone : (i : ℕ) → get_or old i 0 ≡ gone → Reaches (P i) (suc d) (get_or old i 0) (get_or new i 0) → get_or new i 0 ≡ gone
        still-gone i g (as_was e f) = e ∙ g
        still-gone i g (reached e p f) = absurd (omega arith)

        way-here : WayAt d j
        way-here =
            let u = reached-near j (get_or old j 0) (sure.each j inside (near-live j inside (omega arith))) (λ e. omega arith) in
            subst (λ (x : ℕ). WayAt x j) here u.1

        at : (i : ℕ) → i < r → Unstruck words i → Reaches (P i) (suc d) (get_or old i 0) (get_or new i 0)
            → Reached i (get_or old i 0) → Reached i (get_or new i 0)
        at i h z (as_was e f) (inl q) = inl (e ∙ q)
        at i h z (as_was e f) (inr (a, w)) = inr (omega arith, subst (λ (x : ℕ). WayAt x i) (sym e) w)
        at i h z (reached e p f) (inr (a, w)) = absurd (omega arith)
        at i h z (reached e p f) (inl q) =
            inr (omega arith, subst (λ (x : ℕ). WayAt x i) (sym f) ((i, h, refl, z), (get_or table j 0, out i h p, way-here)))

    -- What moves to the place spread from is at most one farther, if no number was larger than that.
    pub spread-here : (P : ℕ → Type 0) (d : ℕ) (new : List ℕ) (more : ℕ) → suc d < gone → Spread P (suc d) r old new more
        → (i : ℕ) → i < r → Unstruck words i → P i → (get_or old i 0 < gone → get_or old i 0 ≤ suc d) → get_or new i 0 ≤ suc d
    spread-here P d new more small s i h z p low = by (s.each i h) (sure.each i h z)
      where
        by : Reaches (P i) (suc d) (get_or old i 0) (get_or new i 0) → Reached i (get_or old i 0) → get_or new i 0 ≤ suc d
        by (as_was e f) (inl q) = absurd (f q p)
        by (as_was e f) (inr (a, w)) = let l = low a in omega arith
        by (reached e q f) o = omega arith

    -- no way is shorter than what shut values say
    shut-low : Shut old → (n i : ℕ) → i < r → Unstruck words i → WayAt n i → (get_or old i 0 ≤ n) × (get_or old i 0 < gone)
    shut-low shut zero i h z w = let b = sure.base i h z w.1 in (omega arith, omega arith)
    shut-low shut (suc n) i h z w = by (start n w.1.2) (shut-low shut n)
      where
        start : (n : ℕ) {t : ℕ} → Way S (UnstruckIn table words r) G n t → UnstruckIn table words r t
        start zero w = w.0
        start (suc n) w = w.0

        by : UnstruckIn table words r
            w.1.0 → ((i : ℕ) → i < r → Unstruck words i → WayAt n i → (get_or old i 0 ≤ n) × (get_or old i 0 < gone))
            → (get_or old i 0 ≤ suc n) × (get_or old i 0 < gone)
        by (m, k, e, y) rec =
            let q = rec m k y (subst (λ (x : ℕ). Way S (UnstruckIn table words r) G n x) (sym e) w.1.2) in
            let a = q.0 in
            let b = q.1 in
            let g = shut i m h k z y (subst (λ (x : ℕ). S.Move (get_or table i 0) x) (sym e) w.1.1) b in
            (omega arith, (reached-near i (get_or old i 0) (sure.each i h z) (λ f. omega arith)).0)

    -- Shut values are the distances.
    pub shut-near : Shut old → Near S G table words r old
    shut-near shut = record { long = sure.long; places = λ i h. by i h (ℕ_discrete (get_or words i 0) 0) }
      where
        at : (i : ℕ) → i < r → Unstruck words i → Reached i (get_or old i 0)
            → Place S (UnstruckIn table words r) G (get_or table i 0) (get_or words i 0) (get_or old i 0)
        at i h z (inl e) = never z e (λ n w. let q = (shut-low shut n i h z w).1 in omega arith)
        at i h z (inr (a, w)) = near z a w (λ n v. (shut-low shut n i h z v).0)

        by : (i : ℕ) → i < r → Dec (Unstruck words i) → Place S (UnstruckIn table words r) G (get_or table i 0) (get_or words i 0)
            (get_or old i 0)
        by i h (yes z) = at i h z (sure.each i h z)
        by i h (no n) = struck n (sure.struck i h n)
