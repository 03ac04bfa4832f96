-- One phase of a promise, from its three parts: who is lost, who hangs anew, who falls. Assumes nothing.
use mathlib.Core.Path.{◌≡◌, sym, subst, ◌∙◌}
use mathlib.Core.Logic.{◌⊎◌, inl, inr}
use mathlib.Core.List.{List}
use Prim.Native.Nat.{ℕ, zero, suc, ◌+◌, ◌<◌}
use native.Mathlib.Omega.{arith}
use lib.ListN.{length, get_or}
use Rattle.distances.specs.Far.{Unstruck}
use Rattle.watch.specs.Witness.{nobody, itself, Pointed, ChainIn, HungIn, Hung, SameOwn, free_in, Log, Fresh, Hangable, Rehung}
use Rattle.watch.specs.Turns.{Before, first, again, Loosened, FallsAt, was, keeps, falls, FellTo, Watched}

-- ---- what a row may be before a phase

module _ {words row log : List ℕ} {M : ℕ → ℕ → Type 0} {from m : ℕ} where
  pub before-fresh : m < from → Before words row M log from m → Fresh words row log m
  before-fresh h (first k F) = F
  before-fresh h (again R) = absurd (omega (arith, R.since, h))

  pub before-log : Before words row M log from m → Log words (length row) log m
  before-log (first k F) = F.log_is
  before-log (again R) = R.log_is

  pub before-pointed : Before words row M log from m → Pointed row M
  before-pointed (first k F) = record {
    few = F.few;
    each = λ i h. either (F.each i h);
    leads = λ i h l. absurd (no_place i h l (F.each i h));
  }
    where
      either : {x r : ℕ} → (x ≡ nobody) ⊎ (x ≡ itself) → (x ≡ nobody) ⊎ (x ≡ itself) ⊎ (x < r)
      either (inl e) = inl e
      either (inr e) = inr (inl e)

      no_place : (i : ℕ) → i < length row → get_or row i 0 < length row → (get_or row i 0 ≡ nobody) ⊎ (get_or row i 0 ≡ itself) → ⊥
      no_place i h l (inl e) = absurd (omega (arith, e, l, F.few))
      no_place i h l (inr e) = absurd (omega (arith, e, l, F.few))
  before-pointed (again R) = R.pointed

-- ---- from part to part

module _ {words row row' log log' : List ℕ} {M : ℕ → ℕ → Type 0} {from m tail : ℕ} (B : Before words row M log from m)
    (L : Loosened words row row' log log' m tail) where
  -- The log's first m are as they were.
  log-kept : Log words (length row') log' m
  log-kept = let G = before-log B in record {
    in_words = omega (arith, G.in_words, L.long);
    in-log = omega (arith, G.in-log, L.long, L.log_long);
    count = subst (λ (r : ℕ). m + free_in words r ≡ r) (sym L.long) G.count;
    places = λ t h. let a = L.kept t h in let b = G.places t h in omega (arith, a, b, L.long);
  }

  -- Who is lost may hang anew.
  pub lost-hangable : Hangable words row' M log' m tail
  lost-hangable = let P = before-pointed B in let G = before-log B in record {
    pointed = record {
      few = omega (arith, P.few, L.long);
      each = λ i h. each_at i (omega (arith, h, L.long)) (L.loses i (omega (arith, h, L.long)));
      leads = λ i h l. leads-at i (omega (arith, h, L.long)) l (L.loses i (omega (arith, h, L.long)));
    };
    hung = L.hung;
    in_words = omega (arith, G.in_words, L.long);
    in-log = omega (arith, L.within, G.in-log, L.log_long);
    grows = L.grows;
    places = λ t h k. let p = L.places t h k in let a = p.0 in (omega (arith, a, L.long), p.1);
    alone = λ i h u e. L.alone i (omega (arith, h, L.long)) u e;
  }
    where
      longer : {x : ℕ} → (x ≡ nobody) ⊎ (x ≡ itself) ⊎ (x < length row) → (x ≡ nobody) ⊎ (x ≡ itself) ⊎ (x < length row')
      longer (inl e) = inl e
      longer (inr (inl e)) = inr (inl e)
      longer (inr (inr e)) = inr (inr (omega (arith, e, L.long)))

      each_at : (i : ℕ) → i < length row → (get_or row' i 0 ≡ get_or row i 0) ⊎ ((get_or row' i 0 ≡ nobody) × (get_or row i 0 < length row))
          → (get_or row' i 0 ≡ nobody) ⊎ (get_or row' i 0 ≡ itself) ⊎ (get_or row' i 0 < length row')
      each_at i h (inl s) = subst (λ (x : ℕ). (x ≡ nobody) ⊎ (x ≡ itself) ⊎ (x < length row')) (sym s) (longer ((before-pointed B).each i h))
      each_at i h (inr s) = inl s.0

      leads-at : (i : ℕ) → i < length row → get_or row' i 0 < length row' → (get_or row' i 0 ≡ get_or row i 0)
          ⊎ ((get_or row' i 0 ≡ nobody) × (get_or row i 0 < length row))
          → M i (get_or row' i 0)
      leads-at i h l (inl s) = subst (M i) (sym s) ((before-pointed B).leads i h (omega (arith, s, l, L.long)))
      leads-at i h l (inr s) = absurd (omega (arith, s.0, l, L.long, (before-pointed B).few))

  -- The phase as a whole: the row rests again.
  pub phase-watched : {row'' words' log'' : List ℕ} {m' word : ℕ} → 0 < word → Rehung words row' row'' M
      → FellTo row'' word words words' log' log'' m m'
      → Watched words words' row row'' M log log'' m m' word
  phase-watched {row'' = row''} {words' = words'} {log'' = log''} {m' = m'} {word = word} some_word H F = record {
    long = H.long ∙ L.long;
    own = own;
    hung = H.hung;
    pointed = H.pointed;
    closed = H.closed;
    fell = record {
      long = F.long;
      each = F.each;
      rest = F.rest;
      log_long = F.log_long ∙ L.log_long;
      kept = λ t h. F.kept t h ∙ L.kept t h;
      grows = F.grows;
      log_is = F.log_is;
      noted = F.noted;
    };
    rested = record {
      log_is = F.log_is;
      since = omega arith;
      pointed = H.pointed;
      chained = λ i h u n. let c = H.hung i h (free-before i h u (F.each i h)) n in (c.0, chain c.0 i c.1);
      helped = λ i h u e. unhelped i u e (F.each i h);
      noted = λ i h u l. let c = H.hung i h (free-before i h u (F.each i h)) (λ e. absurd (omega (arith, e, l, H.pointed.few))) in
          inl (stands (get_or row'' i 0) l (next-hung c.0 i c.1 l));
    };
  }
    where
      own : SameOwn row row''
      own i h = let k : i < length row' = omega (arith, h, H.long) in
          let b = H.own i h in (
            λ e. old-own i (omega (arith, k, L.long)) (L.loses i (omega (arith, k, L.long))) (b.0 e),
            λ e. b.1 (new-own i (L.loses i (omega (arith, k, L.long))) e),
          )
        where
          old-own : (i : ℕ) → i < length row → (get_or row' i 0 ≡ get_or row i 0) ⊎ ((get_or row' i 0 ≡ nobody) × (get_or row i 0 < length row))
              → get_or row' i 0 ≡ itself → get_or row i 0 ≡ itself
          old-own i h (inl s) e = sym s ∙ e
          old-own i h (inr s) e = absurd (omega (arith, s.0, e))

          new-own : (i : ℕ) → (get_or row' i 0 ≡ get_or row i 0) ⊎ ((get_or row' i 0 ≡ nobody) × (get_or row i 0 < length row))
              → get_or row i 0 ≡ itself
              → get_or row' i 0 ≡ itself
          new-own i (inl s) e = s ∙ e
          new-own i (inr s) e = absurd (omega (arith, s.1, e, (before-pointed B).few))

      free-before : (i : ℕ) → i < length row'' → Unstruck words' i → FallsAt word (get_or words i 0) (get_or words' i 0) (get_or row'' i 0)
          → Unstruck words i
      free-before i h u (was n e) = absurd (n (sym e ∙ u))
      free-before i h u (keeps o e n) = o
      free-before i h u (falls o e n) = o

      unhelped : (i : ℕ) → Unstruck words' i → get_or row'' i 0 ≡ nobody → FallsAt word (get_or words i 0) (get_or words' i 0) (get_or row'' i 0) → ⊥
      unhelped i u e (was n s) = n (sym s ∙ u)
      unhelped i u e (keeps o s n) = n e
      unhelped i u e (falls o s n) = absurd (omega (arith, sym s ∙ u, some_word))

      chain : (n i : ℕ) → HungIn words row'' n i → ChainIn row'' n i
      chain zero i c = (c.0, c.2)
      chain (suc n) i c = (c.0, c.2, chain n (get_or row'' i 0) c.3)

      next-hung : (n i : ℕ) → HungIn words row'' n i → get_or row'' i 0 < length row'' → Hung words row'' (get_or row'' i 0)
      next-hung zero i c l = absurd (omega (arith, c.2, l, H.pointed.few))
      next-hung (suc n) i c l = (n, c.3)

      stands : (j : ℕ) → j < length row'' → Hung words row'' j → Unstruck words' j
      stands j h c = by (F.each j h) (helped c.0 c.1)
        where
          helped : (n : ℕ) → HungIn words row'' n j → Unstruck words j × (get_or row'' j 0 ≡ nobody → ⊥)
          helped zero d = (d.1, λ e. absurd (omega (arith, e, d.2)))
          helped (suc n) d = (d.1, λ e. absurd (omega (arith, e, d.2, H.pointed.few)))

          by : FallsAt word (get_or words j 0) (get_or words' j 0) (get_or row'' j 0) → Unstruck words j × (get_or row'' j 0 ≡ nobody → ⊥)
              → Unstruck words' j
          by (was n e) d = absurd (n d.0)
          by (keeps o e n) d = e
          by (falls o e x) d = absurd (d.1 x)
