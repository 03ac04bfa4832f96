-- Dead ends: cutting off, looking for a way on, and one phase as a whole. Assumes nothing.
use mathlib.Core.Path.{◌≡◌, refl, sym, ap, subst, ◌∙◌}
use mathlib.Core.Logic.{◌⊎◌, inl, inr}
use mathlib.Core.List.{List}
use Rattle.std.proofs.Common.{Some, None}
use Prim.Native.Nat.{ℕ, ◌+◌, ◌≤◌, ◌<◌}
use native.Mathlib.Decide.{ℕ_discrete}
use native.Mathlib.Omega.{arith}
use lib.ListN.{length, get_or, set, length-set}
use lib.Seq.{get_or-set_same, get_or-set_other}
use Rattle.ground.specs.Listed.{Between}
use Rattle.meaning.specs.Promises.{most_states}
use Rattle.moves.specs.Layout.{Backed}
use Rattle.distances.specs.Far.{Unstruck}
use Rattle.watch.specs.Witness.{nobody}
use Rattle.watch.specs.Turns.{Redirects, turns, stays, Redirected, FallsAt, was, keeps, falls, FellTo}
use Rattle.watch_along.specs.Along.{Leads, Woven, Walkable, Redirectable}
use Rattle.watch_along.specs.Ends.{Going, Ahead, opening, going, CutOff, WayOn, Looked, Ended}
use Rattle.watch_along.proofs.Redirecting.{redirectable-along}
use Rattle.watch.proofs.Cuts.{
  Loses,
  Cut,
  cut-none,
  cut-then,
  cut-redirected,
  cut-behind,
  cut-alone,
  cut-within,
  cut-place,
  cut-turn,
  cut-leads,
}

-- ---- what the row may be before a round

module _ {words row back log : List ℕ} {from m : ℕ} where
  pub ahead-few : Ahead words row back log from m → length row ≤ most_states
  ahead-few (opening k G few B) = few
  ahead-few (going R) = R.few

-- ---- cutting off

-- what is known at turn h: a way on that was struck stands in the log from h on
pub record Cutting (words old row before log : List ℕ) (m tail h : ℕ) : Type 0 where
  pub cut : Cut words old row before log m tail
  pub pending : (i : ℕ) → i < length old → Unstruck words i → get_or row i 0 < length old
      → Unstruck words (get_or row i 0) ⊎ Between log h m (get_or row i 0)

-- Before the first turn nobody is cut off.
pub cutting-none : {words row back log : List ℕ} {from m : ℕ} → Going words row back log from m → Cutting words row row log log m m from
cutting-none {words = words} {row = row} {log = log} {m = m} R = record { cut = cut-none words row log m; pending = R.noted }

module _ {words old row back before log : List ℕ} {from m tail h : ℕ} (R : Going words old back before from m)
    (L : Cutting words old row before log m tail h) where
  -- There are no more places in the log than there are.
  pub cutting-within : tail ≤ length old
  cutting-within = cut-within R.log_is R.helped L.cut

  -- The log's place at h was struck.
  pub cutting-place : h < m → get_or log h 0 < length old
  cutting-place = cut-place R.log_is R.helped L.cut

  -- Those that move to it may be redirected.
  pub cutting-ask : h < m → length before ≤ most_states → Redirectable words row back (get_or log h 0) (get_or log h 0) nobody log tail
  cutting-ask inside most =
      let place = cutting-place inside in
      redirectable-along R.backward L.cut.long place (cut-turn R.log_is R.helped L.cut place R.few most)

  -- A turn: whose way on it was has none.
  pub cutting-more : {row' log' : List ℕ} {tail' : ℕ} → h < m
      → Redirected (λ (i : ℕ). Backed back i (get_or log h 0)) words (get_or log h 0) nobody row row' tail log log' tail'
      → Cutting words old row' before log' m tail' (h + 1)
  cutting-more {row' = row'} {log' = log'} inside T = record {
    cut = cut-then L.cut (cut-redirected (omega (arith, place, L.cut.long)) (omega (arith, R.few, L.cut.long)) T);
    pending = λ i k u l. pending-at i k u l (T.each i (omega (arith, k, L.cut.long)));
  }
    where
      place : get_or log h 0 < length old
      place = cutting-place inside

      pending-at : (i : ℕ) → i < length old → Unstruck words i → get_or row' i 0 < length old
          → Redirects (Backed back i (get_or log h 0)) (get_or words i 0) (get_or log h 0) nobody (get_or row i 0) (get_or row' i 0)
          → Unstruck words (get_or row' i 0) ⊎ Between log' (h + 1) m (get_or row' i 0)
      pending-at i k u l (turns p v been f) = absurd (omega (arith, f, l, R.few))
      pending-at i k u l (stays same n) =
          subst (λ (x : ℕ). (Unstruck words x) ⊎ Between log' (h + 1) m x) (sym same) (at (L.pending i k u below))
        where
          below : get_or row i 0 < length old
          below = omega (arith, same, l)

          hangs : Backed back i (get_or row i 0)
          hangs = cut-leads R.log_is R.helped L.cut (Backed back) R.few R.leads i k below

          noted : (s : Between log h m (get_or row i 0)) → Dec (s.0 ≡ h) → Between log' (h + 1) m (get_or row i 0)
          noted s (no q) = cut-behind log log' h m m (get_or row i 0) (λ t v. T.kept t (omega (arith, v, L.cut.grows))) (omega arith) s q
          noted s (yes q) =
              let e : get_or log h 0 ≡ get_or row i 0 = ap (λ (x : ℕ). get_or log x 0) (sym q) ∙ s.3 in
              absurd (n (subst (λ (x : ℕ). Backed back i x) (sym e) hangs) u (sym e))

          at : Unstruck words (get_or row i 0) ⊎ Between log h m (get_or row i 0) → Unstruck words (get_or row i 0)
              ⊎ Between log' (h + 1) m (get_or row i 0)
          at (inl p) = inl p
          at (inr s) = inr (noted s (ℕ_discrete s.0 h))

  -- When no turn is left, who still has a way on goes on to an unstruck place.
  pub cutting-done : m ≤ h → CutOff words old row back before log m tail
  cutting-done over = record {
    long = L.cut.long;
    each = λ i k. each_at i k (L.cut.loses i k) (R.each i k);
    leads = cut-leads R.log_is R.helped L.cut (Backed back) R.few R.leads;
    sure = λ i k u l. sure-at (L.pending i k u l);
    log_long = L.cut.log_long;
    kept = L.cut.kept;
    grows = L.cut.grows;
    within = cutting-within;
    places = λ t k l. (L.cut.places t k l).0;
    alone = cut-alone R.log_is R.helped L.cut;
  }
    where
      each_at : (i : ℕ) → i < length old → Loses old row i → (get_or old i 0 ≡ nobody) ⊎ (get_or old i 0 < length old)
          → (get_or row i 0 ≡ nobody) ⊎ (get_or row i 0 < length old)
      each_at i k (inr s) o = inl s.0
      each_at i k (inl s) (inl o) = inl (s ∙ o)
      each_at i k (inl s) (inr o) = inr (omega (arith, s, o))

      sure-at : {j : ℕ} → Unstruck words j ⊎ Between log h m j → Unstruck words j
      sure-at (inl u) = u
      sure-at (inr s) = absurd (omega (arith, s.1, s.2, over))

-- ---- looking for a way on

-- what is known at turn g
pub record Looking (words old row forth log : List ℕ) (m g : ℕ) : Type 0 where
  pub long : length row ≡ length old
  pub each : (i : ℕ) → i < length old
      → (get_or row i 0 ≡ get_or old i 0) ⊎ ((get_or row i 0 < length old) × Leads forth i (get_or row i 0) × Unstruck words (get_or row i 0))
  pub none_left : (t : ℕ) → m ≤ t → t < g → get_or row (get_or log t 0) 0 ≡ nobody → (j : ℕ) → Leads forth (get_or log t 0) j → Unstruck words j
      → ⊥

pub looking-none : (words row forth log : List ℕ) (m : ℕ) → Looking words row row forth log m m
looking-none words row forth log m = record { long = refl; each = λ i h. inl refl; none_left = λ t h k. absurd (omega arith) }

module _ {words old row forth log : List ℕ} {m g : ℕ} (L : Looking words old row forth log m g) where
  -- One found a way on, and has it.
  pub looking-more : {j : ℕ} → length old ≤ most_states → get_or log g 0 < length old
      → WayOn words forth (length row) (get_or log g 0) (Some j)
      → Looking words old (set row (get_or log g 0) j) forth log m (g + 1)
  looking-more {j = j} few inside W = record {
    long = length-set row (get_or log g 0) j ∙ L.long;
    each = λ i h. each_at i h (ℕ_discrete i (get_or log g 0));
    none_left = λ t h k e. none-at t h k e (ℕ_discrete (get_or log t 0) (get_or log g 0));
  }
    where
      x : ℕ
      x = get_or log g 0

      below : j < length old
      below = omega (arith, W.0, L.long)

      here : get_or (set row (get_or log g 0) j) (get_or log g 0) 0 ≡ j
      here = get_or-set_same row (get_or log g 0) j 0 (omega (arith, inside, L.long))

      each_at : (i : ℕ) → i < length old → Dec (i ≡ get_or log g 0)
          → (get_or (set row (get_or log g 0) j) i 0 ≡ get_or old i 0)
          ⊎ ((get_or (set row (get_or log g 0) j) i 0 < length old) × Leads forth i (get_or (set row (get_or log g 0) j) i 0)
          × Unstruck words (get_or (set row (get_or log g 0) j) i 0))
      each_at i h (yes q) =
          let e : get_or (set row (get_or log g 0) j) i 0 ≡ j = ap (λ (y : ℕ). get_or (set row (get_or log g 0) j) y 0) q ∙ here in
          let lead : Leads forth i j = subst (λ (y : ℕ). Leads forth y j) (sym q) W.1 in
          inr (omega (arith, e, below), subst (λ (y : ℕ). Leads forth i y) (sym e) lead, ap (λ (y : ℕ). get_or words y 0) e ∙ W.2)
      each_at i h (no q) =
          subst (λ (y : ℕ). (y ≡ get_or old i 0) ⊎ ((y < length old) × Leads forth i y × Unstruck words y))
          (sym (get_or-set_other row (get_or log g 0) i j 0 q)) (L.each i h)

      none-at : (t : ℕ) → m ≤ t → t < g + 1 → get_or (set row (get_or log g 0) j) (get_or log t 0) 0 ≡ nobody → Dec (get_or log t 0 ≡ get_or log g 0)
          → (i : ℕ) → Leads forth (get_or log t 0) i → Unstruck words i → ⊥
      none-at t h k e (yes q) i s u =
          let f : get_or (set row (get_or log g 0) j) (get_or log t 0) 0 ≡ j = ap (λ (y : ℕ). get_or (set row (get_or log g 0) j) y 0) q ∙ here in
          absurd (omega (arith, e, f, below, few))
      none-at t h k e (no q) i s u =
          L.none_left t h (omega (arith, k, earlier)) (sym (get_or-set_other row (get_or log g 0) (get_or log t 0) j 0 q) ∙ e) i s u
        where
          earlier : t ≡ g → ⊥
          earlier z = q (ap (λ (y : ℕ). get_or log y 0) z)

  -- One found none.
  pub looking-past : WayOn words forth (length row) (get_or log g 0) None → Looking words old row forth log m (g + 1)
  looking-past W = record { long = L.long; each = L.each; none_left = λ t h k e. none-at t h k e (ℕ_discrete t g) }
    where
      none-at : (t : ℕ) → m ≤ t → t < g + 1 → get_or row (get_or log t 0) 0 ≡ nobody → Dec (t ≡ g)
          → (i : ℕ) → Leads forth (get_or log t 0) i → Unstruck words i → ⊥
      none-at t h k e (no q) i s u = L.none_left t h (omega arith) e i s u
      none-at t h k e (yes q) i s u = W i (subst (λ (y : ℕ). Leads forth (get_or log y 0) i) q s) u

  pub looking-done : {tail : ℕ} → tail ≤ g → Looked words old row forth log m tail
  looking-done over = record { long = L.long; each = L.each; none_left = λ t h k. L.none_left t h (omega arith) }

-- ---- one phase

module _ {words row row' back log log' forth : List ℕ} {from m tail : ℕ} (A : Ahead words row back log from m)
    (W : Woven (length row) forth back)
    (C : CutOff words row row' back log log' m tail) where
  module _ {row'' : List ℕ} (L : Looked words row' row'' forth log' m tail) where
    long'' : length row'' ≡ length row
    long'' = L.long ∙ C.long

    -- whoever has no way on has looked for one
    lone : (i : ℕ) → i < length row → Unstruck words i → get_or row'' i 0 ≡ nobody → Between log' m tail i
    lone i h u e = by (L.each i (omega (arith, h, C.long)))
      where
        by : (get_or row'' i 0 ≡ get_or row' i 0)
            ⊎ ((get_or row'' i 0 < length row') × Leads forth i (get_or row'' i 0) × Unstruck words (get_or row'' i 0))
            → Between log' m tail i
        by (inl s) = C.alone i h u (sym s ∙ e)
        by (inr s) = absurd (omega (arith, e, s.0, C.long, ahead-few A))

    pub phase-ended : {words' log'' : List ℕ} {m' word : ℕ} → FellTo row'' word words words' log' log'' m m' → 0 < word
        → Ended words words' row row'' forth back log log'' m m' word
    phase-ended {words' = words'} {log'' = log''} {m' = m'} {word = word} F some = record {
      long = long'';
      saved = saved;
      stuck = λ i h u e j s v. stuck_at i (lone i h u e) e j s v;
      fell = record {
        long = F.long;
        each = F.each;
        rest = F.rest;
        log_long = F.log_long ∙ C.log_long;
        kept = λ t h. F.kept t h ∙ C.kept t h;
        grows = F.grows;
        log_is = F.log_is;
        noted = F.noted;
      };
      going = record {
        log_is = F.log_is;
        since = F.grows;
        backward = subst (λ (r : ℕ). Walkable back r) (sym long'') W.backward;
        few = omega (arith, ahead-few A, long'');
        each = λ i h. each_at i (omega (arith, h, long'')) (L.each i (omega (arith, h, L.long)));
        leads = λ i h l. lead i (omega (arith, h, long'')) (omega (arith, l, long''));
        helped = λ i h u e. unhelped i u e (F.each i h);
        noted = λ i h u l. note i h u l (F.each i h);
      };
    }
      where
        few : length row ≤ most_states
        few = ahead-few A

        lead : (i : ℕ) → i < length row → get_or row'' i 0 < length row → Backed back i (get_or row'' i 0)
        lead i h l = by (L.each i (omega (arith, h, C.long)))
          where
            by : (get_or row'' i 0 ≡ get_or row' i 0)
                ⊎ ((get_or row'' i 0 < length row') × Leads forth i (get_or row'' i 0) × Unstruck words (get_or row'' i 0))
                → Backed back i (get_or row'' i 0)
            by (inl s) = subst (λ (x : ℕ). Backed back i x) (sym s) (C.leads i h (omega (arith, s, l)))
            by (inr s) = W.turned i (get_or row'' i 0) h l s.1

        onto : (i : ℕ) → i < length row → Unstruck words i → get_or row'' i 0 < length row → Unstruck words (get_or row'' i 0)
        onto i h u l = by (L.each i (omega (arith, h, C.long)))
          where
            by : (get_or row'' i 0 ≡ get_or row' i 0)
                ⊎ ((get_or row'' i 0 < length row') × Leads forth i (get_or row'' i 0) × Unstruck words (get_or row'' i 0))
                → Unstruck words (get_or row'' i 0)
            by (inl s) = ap (λ (x : ℕ). get_or words x 0) s ∙ C.sure i h u (omega (arith, s, l))
            by (inr s) = s.2

        either : {x : ℕ} → (x ≡ nobody) ⊎ (x < length row) → (x ≡ nobody) ⊎ (x < length row'')
        either (inl e) = inl e
        either (inr l) = inr (omega (arith, l, long''))

        each_at : (i : ℕ) → i < length row
            → (get_or row'' i 0 ≡ get_or row' i 0)
            ⊎ ((get_or row'' i 0 < length row') × Leads forth i (get_or row'' i 0) × Unstruck words (get_or row'' i 0))
            → (get_or row'' i 0 ≡ nobody) ⊎ (get_or row'' i 0 < length row'')
        each_at i h (inl s) = subst (λ (x : ℕ). (x ≡ nobody) ⊎ (x < length row'')) (sym s) (either (C.each i h))
        each_at i h (inr s) = inr (omega (arith, s.0, L.long))

        saved : (i : ℕ) → i < length row → Unstruck words i → (get_or row'' i 0 ≡ nobody → ⊥)
            → (get_or row'' i 0 < length row) × Unstruck words (get_or row'' i 0) × Backed back i (get_or row'' i 0)
        saved i h u n = let l = below (each_at i h (L.each i (omega (arith, h, C.long)))) in (l, onto i h u l, lead i h l)
          where
            below : (get_or row'' i 0 ≡ nobody) ⊎ (get_or row'' i 0 < length row'') → get_or row'' i 0 < length row
            below (inl e) = absurd (n e)
            below (inr l) = omega (arith, l, long'')

        stuck_at : (i : ℕ) → Between log' m tail i → get_or row'' i 0 ≡ nobody → (j : ℕ) → Leads forth i j → Unstruck words j → ⊥
        stuck_at i t e j s v =
            L.none_left t.0 t.1 t.2 (ap (λ (x : ℕ). get_or row'' x 0) t.3 ∙ e) j
            (subst (λ (x : ℕ). Leads forth x j) (sym t.3) s) v

        unhelped : (i : ℕ) → Unstruck words' i → get_or row'' i 0 ≡ nobody → FallsAt word (get_or words i 0) (get_or words' i 0) (get_or row'' i 0)
            → ⊥
        unhelped i u e (was n s) = n (sym s ∙ u)
        unhelped i u e (keeps o s n) = n e
        unhelped i u e (falls o s x) = absurd (omega (arith, sym s ∙ u, some))

        note : (i : ℕ) → i < length row'' → Unstruck words' i → get_or row'' i 0 < length row''
            → FallsAt word (get_or words i 0) (get_or words' i 0) (get_or row'' i 0)
            → Unstruck words' (get_or row'' i 0) ⊎ Between log'' m m' (get_or row'' i 0)
        note i h u l (was n s) = absurd (n (sym s ∙ u))
        note i h u l (falls o s x) = absurd (omega (arith, sym s ∙ u, some))
        note i h u l (keeps o s n) = by (ℕ_discrete (get_or words' (get_or row'' i 0) 0) 0)
          where
            free : Unstruck words (get_or row'' i 0)
            free = onto i (omega (arith, h, long'')) o (omega (arith, l, long''))

            by : Dec (Unstruck words' (get_or row'' i 0)) → Unstruck words' (get_or row'' i 0) ⊎ Between log'' m m' (get_or row'' i 0)
            by (yes q) = inl q
            by (no q) = inr (F.noted (get_or row'' i 0) l free q)
