-- The search along a place's row forth for a next place that passes a test, cell by cell. Assumes nothing.
use Rattle.std.proofs.Common.{◌≡◌, ℕ, ◌+◌, ◌≤◌, ◌<◌, List, Bool, true, false, Option, Some, None, refl, sym, subst, length, arith}
use Rattle.std.proofs.Math.Decide.{ℕ_discrete}
use Rattle.moves.specs.Layout.{start_at, end_at, cell_at}
use Rattle.distances.specs.Far.{Unstruck}
use Rattle.watch.specs.Turns.{Helps, HelperIn}
use Rattle.watch_along.specs.Along.{Leads, NextWith, passes, none_passes, Readable}
use Rattle.watch_along.specs.Ends.{WayOn}

-- of no cell of place i's row before e the test says yes
abbrev pub Passed : (forth : List ℕ) (i : ℕ) (Test : ℕ → Bool → Type 0) (e : ℕ) → Type 0
Passed forth i Test e = (d : ℕ) → start_at forth i ≤ d → d < e → Test (cell_at forth d) false

-- A cell of the row holds a place.
pub cell-place : (forth : List ℕ) (r i : ℕ) → Readable forth r → i < r → (e j : ℕ) → start_at forth i ≤ e → e < end_at forth i
    → j ≡ cell_at forth e → j < r
cell-place forth r i R inside e j h k here = let a = R.places i e inside h k in omega arith

module _ (forth : List ℕ) (r i : ℕ) (Test : ℕ → Bool → Type 0) where
  -- Past the row's last cell there is none.
  pub passed-all : (e : ℕ) → Passed forth i Test e → end_at forth i ≤ e → NextWith forth r i Test None
  passed-all e p done = none_passes refl (λ j at. by j at)
    where
      by : (j : ℕ) → Leads forth i j → Test j false
      by j (d, a, b, q) = subst (λ (x : ℕ). Test x false) q (p d a (omega arith))

  module _ (e j : ℕ) (here : j ≡ cell_at forth e) where
    -- The next cell's place is found.
    pub passed-found : Readable forth r → i < r → start_at forth i ≤ e → e < end_at forth i → Test j true
        → NextWith forth r i Test (Some j)
    passed-found R inside h k t = passes j refl (cell-place forth r i R inside e j h k here) (e, h, k, sym here) t

    -- Or it is passed.
    pub passed-more : Passed forth i Test e → Test j false → Passed forth i Test (e + 1)
    passed-more p t d a l = by (ℕ_discrete d e)
      where
        by : Dec (d ≡ e) → Test (cell_at forth d) false
        by (yes q) = subst (λ (x : ℕ). Test (cell_at forth x) false) (sym q) (subst (λ (x : ℕ). Test x false) here t)
        by (no q) = p d a (omega arith)

-- ---- what the test tells of the place that is found, and of all if none is

module _ (words forth : List ℕ) (r i : ℕ) (Test : ℕ → Bool → Type 0) where
  pub next-way : (who : Option ℕ) → NextWith forth r i Test who → ((j : ℕ) → Test j true → Unstruck words j)
      → ((j : ℕ) → Test j false → Unstruck words j → ⊥)
      → WayOn words forth r i who
  next-way who (passes j e inside leads t) is not = subst (λ (x : Option ℕ). WayOn words forth r i x) (sym e) (inside, leads, is j t)
  next-way who (none_passes e none) is not =
      subst (λ (x : Option ℕ). WayOn words forth r i x) (sym e) (λ h leads. not h (none h leads))

  pub next-helper : (row : List ℕ) → r ≡ length row → (who : Option ℕ) → NextWith forth r i Test who
      → ((j : ℕ) (b : Bool) → Test j b → Helps words row j b)
      → HelperIn words row (Leads forth) i who
  next-helper row long who (passes j e inside leads t) says =
      let h = (says j true t).yes refl in
      subst (λ (x : Option ℕ). HelperIn words row (Leads forth) i x) (sym e) (record {
        inside = omega (arith, inside, long);
        moves = leads;
        unstruck = h.0;
        helped = h.1;
      })
  next-helper row long who (none_passes e none) says =
      subst (λ (x : Option ℕ). HelperIn words row (Leads forth) i x) (sym e)
      (λ h inside leads. (says h false (none h leads)).never refl)
