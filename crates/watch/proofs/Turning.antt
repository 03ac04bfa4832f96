-- Redirecting places one by one, in whatever order: P says which were looked at so far. One more is passed by, or gets the other number and
-- joins the line. Assumes nothing.
use mathlib.Core.Path.{◌≡◌, refl, sym, ap, subst, ◌∙◌}
use mathlib.Core.Logic.{◌⊎◌, inl, inr}
use mathlib.Core.List.{List}
use Prim.Native.Nat.{ℕ, ◌+◌, ◌-◌, ◌≤◌, ◌<◌}
use native.Mathlib.Decide.{ℕ_discrete}
use native.Mathlib.Omega.{arith}
use lib.ListN.{length, get_or, set, length-set}
use lib.Seq.{get_or-set_same, get_or-set_other}
use Rattle.ground.specs.Listed.{Between}
use Rattle.meaning.specs.Promises.{most_states}
use Rattle.distances.specs.Far.{Unstruck}
use Rattle.watch.specs.Turns.{weight, unstruck_at, count_met_at, Turnable, Redirects, turns, stays, Redirected}
use Rattle.watch.proofs.Sums.{weighs-one, weighs-none}
use Rattle.watch.proofs.Weights.{weight-turn, count_turn, scale-none, scale-more, scale-count}

-- What happens to a place by one reason happens by another that holds there if the first does.
pub redirects-same : {P Q : Type 0} {word was to old new : ℕ} → (P → Q) → (Q → P) → Redirects P word was to old new
    → Redirects Q word was to old new
redirects-same there back (turns p z o n) = turns (there p) z o n
redirects-same there back (stays e f) = stays e (λ q. f (back q))

-- So a row redirected by one reason is redirected by another.
pub redirected-by : {P Q : ℕ → Type 0} (words : List ℕ) (was to : ℕ) (old row : List ℕ) (n : ℕ) (before line : List ℕ) (m : ℕ)
    → Redirected P words was to old row n before line m
    → ((i : ℕ) → Redirects (P i) (get_or words i 0) was to (get_or old i 0) (get_or row i 0)
    → Redirects (Q i) (get_or words i 0) was to (get_or old i 0) (get_or row i 0))
    → Redirected Q words was to old row n before line m
redirected-by words was to old row n before line m r same = record {
  long = r.long;
  each = λ i h. same i (r.each i h);
  line_long = r.line_long;
  grows = r.grows;
  kept = r.kept;
  added = r.added;
  whole = r.whole;
  weighs = r.weighs;
}

-- who has the number now had it before
pub redirects-was : {P : Type 0} {word was to old new : ℕ} → (was ≡ to → ⊥) → Redirects P word was to old new → new ≡ was → old ≡ was
redirects-was apart (turns p z o n) e = absurd (apart (sym e ∙ n))
redirects-was apart (stays s f) e = sym s ∙ e

-- Numbers that differ by how much the line has grown.
sum_less : (s s₀ k m n : ℕ) → n ≤ m → k ≡ m - n → s + k ≡ s₀ → s + m ≡ s₀ + n
sum_less s s₀ k m n g e f = omega arith

-- As many unstruck places as joined the line have the number no more.
pub redirected-counts : {P : ℕ → Type 0} (words : List ℕ) (was to : ℕ) (old row : List ℕ) (n : ℕ) (before line : List ℕ) (m : ℕ)
    → (was ≡ to → ⊥)
    → Redirected P words was to old row n before line m
    → weight (unstruck_at was) words row (length old) + m ≡ count_met_at was words old + n
redirected-counts words was to old row n before line m apart r =
    sum_less _ _ _ m n r.grows refl
    (scale-count _ _ (m - n) _ _ (weighs-one was) (weighs-none was 0 to (λ e. apart (sym e))) (r.weighs (unstruck_at was)))

-- Before the first nothing has changed.
pub turned_none : (P : ℕ → Type 0) → ((i : ℕ) → P i → ⊥) → (words : List ℕ) (was to : ℕ) (old : List ℕ) (n : ℕ) (before : List ℕ)
    → (was ≡ to → ⊥)
    → Redirected P words was to old old n before before n
turned_none P nowhere words was to old n before apart = record {
  long = refl;
  each = λ i h. stays refl (λ p. absurd (nowhere i p));
  line_long = refl;
  grows = omega arith;
  kept = λ d h. refl;
  added = λ d a h. absurd (omega arith);
  whole = λ i h z o g. absurd (apart (sym o ∙ g));
  weighs = λ w. scale-none _ (n - n) _ _ (omega arith);
}

-- What may be redirected may be redirected further.
pub turnable-then : {P : ℕ → Type 0} (words : List ℕ) (was to : ℕ) (old row : List ℕ) (n : ℕ) (before line : List ℕ) (m : ℕ)
    → Turnable words old was to before n → Redirected P words was to old row n before line m → Turnable words row was to line m
turnable-then words was to old row n before line m ready r = record {
  few = omega (arith, r.long, ready.few);
  in_words = omega (arith, r.long, ready.in_words);
  apart = ready.apart;
  room =
      let a = redirected-counts words was to old row n before line m ready.apart r in
      let b : count_met_at was words row ≡ weight (unstruck_at was) words row (length old) = ap (λ (x : ℕ). weight (unstruck_at was) words row x)
      r.long in
      omega (arith, a, b, ready.room, r.line_long);
  line_few = omega (arith, ready.line_few, r.line_long);
}

module _ (P : ℕ → Type 0) (words : List ℕ) (was to : ℕ) (old : List ℕ) (n : ℕ) (before : List ℕ)
    (ready : Turnable words old was to before n)
    (row line : List ℕ) (m : ℕ) (r : Redirected P words was to old row n before line m) (i : ℕ) (inside : i < length old) where
  in_row : i < length row
  in_row = omega (arith, r.long, inside)

  -- Where this place is to be redirected, the line has room for it.
  pub place-room : Unstruck words i → get_or row i 0 ≡ was → (m < length line) × (m < most_states)
  place-room free has =
      let a = count_turn words row i was to (length row) in_row in_row free has ready.apart in
      let b = turnable-then words was to old row n before line m ready r in
      (omega (arith, a, b.room), omega (arith, a, b.room, b.line_few))

  -- P' says which were looked at once this one is, too.
  module _ (P' : ℕ → Type 0) (grows : (j : ℕ) → P j → P' j) (splits : (j : ℕ) → P' j → P j ⊎ (j ≡ i)) where
    -- what happened before this place was looked at, where that changes nothing
    widens : (j x : ℕ) → (Unstruck words j → x ≡ was → j ≡ i → ⊥) → Redirects (P j) (get_or words j 0) was to (get_or old j 0) x
        → Redirects (P' j) (get_or words j 0) was to (get_or old j 0) x
    widens j x other (turns p z o g) = turns (grows j p) z o g
    widens j x other (stays s f) = stays s (λ p z o. by z o (splits j p))
      where
        by : Unstruck words j → get_or old j 0 ≡ was → P j ⊎ (j ≡ i) → ⊥
        by z o (inl p) = f p z o
        by z o (inr q) = other z (s ∙ o) q

    -- A place that is struck or has another number is passed by.
    pub place-past : (Unstruck words i → get_or row i 0 ≡ was → ⊥) → Redirected P' words was to old row n before line m
    place-past not_so = redirected-by words was to old row n before line m r (λ j. widens j (get_or row j 0)
        (λ z x q. not_so (ap (λ (y : ℕ). get_or words y 0) (sym q) ∙ z) (ap (λ (y : ℕ). get_or row y 0) (sym q) ∙ x)))

    module _ (free : Unstruck words i) (has : get_or row i 0 ≡ was) where
      -- it had the number from the start
      had : get_or old i 0 ≡ was
      had = redirects-was ready.apart (r.each i inside) has

      row_here : get_or (set row i to) i 0 ≡ to
      row_here = get_or-set_same row i to 0 in_row

      line-here : get_or (set line m i) m 0 ≡ i
      line-here = get_or-set_same line m i 0 (place-room free has).0

      each' : P' i → (j : ℕ) → Dec (j ≡ i) → j < length old → Redirects (P' j) (get_or words j 0) was to (get_or old j 0)
          (get_or (set row i to) j 0)
      each' here j (yes q) h =
          turns (subst P' (sym q) here) (ap (λ (x : ℕ). get_or words x 0) q ∙ free)
          (ap (λ (x : ℕ). get_or old x 0) q ∙ had) (ap (λ (x : ℕ). get_or (set row i to) x 0) q ∙ row_here)
      each' here j (no q) h =
          subst (λ (x : ℕ). Redirects (P' j) (get_or words j 0) was to (get_or old j 0) x) (sym (get_or-set_other row i j to 0 q))
          (widens j (get_or row j 0) (λ z x f. q f) (r.each j h))

      added' : (d : ℕ) → Dec (d ≡ m) → n ≤ d → d < m + 1
          → (get_or (set line m i) d 0 < length old) × Unstruck words (get_or (set line m i) d 0) × (get_or old (get_or (set line m i) d 0) 0 ≡ was)
          × (get_or (set row i to) (get_or (set line m i) d 0) 0 ≡ to)
      added' d (yes q) a h =
          let f : get_or (set line m i) d 0 ≡ i = ap (λ (x : ℕ). get_or (set line m i) x 0) q ∙ line-here in (
            omega arith,
            ap (λ (x : ℕ). get_or words x 0) f ∙ free,
            ap (λ (x : ℕ). get_or old x 0) f ∙ had,
            ap (λ (x : ℕ). get_or (set row i to) x 0) f ∙ row_here,
          )
      added' d (no q) a h =
          let f = get_or-set_other line m d i 0 q in
          let u = r.added d a (omega arith) in
          let p = u.0 in (
            omega arith,
            ap (λ (x : ℕ). get_or words x 0) f ∙ u.1,
            ap (λ (x : ℕ). get_or old x 0) f ∙ u.2,
            ap (λ (x : ℕ). get_or (set row i to) x 0) f ∙ get_or-set_other row i (get_or line d 0) to 0 (other u.3) ∙ u.3,
          )
        where
          other : get_or row (get_or line d 0) 0 ≡ to → get_or line d 0 ≡ i → ⊥
          other g y = ready.apart (sym has ∙ sym (ap (λ (x : ℕ). get_or row x 0) y) ∙ g)

      whole' : (j : ℕ) → Dec (j ≡ i) → j < length old → Unstruck words j → get_or old j 0 ≡ was → get_or (set row i to) j 0 ≡ to
          → Between (set line m i) n (m + 1) j
      whole' j (yes q) h z o g = let a = r.grows in (m, omega arith, omega arith, line-here ∙ sym q)
      whole' j (no q) h z o g = shift (r.whole j h z o (sym (get_or-set_other row i j to 0 q) ∙ g))
        where
          shift : Between line n m j → Between (set line m i) n (m + 1) j
          shift (d, a, c, f) = (d, a, omega arith, get_or-set_other line m d i 0 (λ y. omega arith) ∙ f)

      -- The place gets the other number and joins the line.
      pub place-more : P' i → Redirected P' words was to old (set row i to) n before (set line m i) (m + 1)
      place-more here = record {
        long = length-set row i to ∙ r.long;
        each = λ j h. each' here j (ℕ_discrete j i) h;
        line_long = length-set line m i ∙ r.line_long;
        grows = let a = r.grows in omega arith;
        kept = λ d h. get_or-set_other line m d i 0 (λ q. let a = r.grows in omega arith) ∙ r.kept d h;
        added = λ d a h. added' d (ℕ_discrete d m) a h;
        whole = λ j h z o g. whole' j (ℕ_discrete j i) h z o g;
        weighs = λ w. scale-more _ _ _ (m - n) (m + 1 - n) _ _ (let a = r.grows in omega arith)
            (weight-turn w words row i was to (length old) inside in_row free has) (r.weighs w);
      }
