-- The loop over the listed places, turn by turn: one is reached, or it is listed again behind those that were. Assumes nothing.
use mathlib.Core.Path.{◌≡◌, refl, sym, ap, subst, ◌∙◌}
use mathlib.Core.List.{List}
use Prim.Native.Nat.{ℕ, ◌+◌, ◌-◌, ◌≤◌, ◌<◌}
use native.Mathlib.Decide.{ℕ_discrete}
use native.Mathlib.Omega.{arith}
use lib.ListN.{length, get_or, set, length-set}
use lib.Seq.{get_or-set_same, get_or-set_other}
use Rattle.ground.specs.Listed.{Between}
use Rattle.distances.specs.Far.{far, gone}
use Rattle.distances.specs.Values.{Reaches, as_was, reached, Spread}
use Rattle.distances_tests.specs.Layers.{Listed}
use Rattle.distances.proofs.Spreads.{spread_same, spread-one}

-- a reason that holds at a place before the list's place i
abbrev pub Looked : (P : ℕ → Type 0) (list : List ℕ) (i m : ℕ) → Type 0
Looked P list i m = P m × Between list 0 i m

-- the list's first i places are looked at, and `kept` of them listed again
pub record Sifting (P : ℕ → Type 0) (d r left : ℕ) (old list : List ℕ) (i kept : ℕ) (near rest : List ℕ) : Type 0 where
  pub few : kept ≤ i
  pub spread : Spread (Looked P list i) d r old near (i - kept)
  pub same : length rest ≡ length list
  pub each : (t : ℕ) → t < kept → (get_or rest t 0 < r) × (get_or near (get_or rest t 0) 0 ≡ far)
  pub rises : (s t : ℕ) → s < t → t < kept → get_or rest s 0 < get_or rest t 0
  pub under : (t u : ℕ) → t < kept → i ≤ u → u < left → get_or rest t 0 < get_or list u 0
  pub whole : (m : ℕ) → get_or near m 0 ≡ far → Between list 0 i m → Between rest 0 kept m
  pub ahead : (u : ℕ) → i ≤ u → get_or rest u 0 ≡ get_or list u 0

module _ (P : ℕ → Type 0) (d r left : ℕ) (old list : List ℕ) (ready : Listed r left list old) (small : d < gone) where
  -- the same with what does not change
  abbrev Sift : (i kept : ℕ) (near rest : List ℕ) → Type 0
  Sift i kept near rest = Sifting P d r left old list i kept near rest

  abbrev Before : (i m : ℕ) → Type 0
  Before i m = Looked P list i m

  module _ (i kept : ℕ) (near rest : List ℕ) (s : Sift i kept near rest) (more : i < left) where
    -- the place that is looked at, and that it is one
    abbrev here : ℕ
    here = get_or list i 0

    place : here < r
    place = (ready.waiting.each i more).0

    inside : here < length near
    inside = let a = place in let b = s.spread.long in let c = ready.long in omega arith

    -- it is not reached yet
    waits : get_or near here 0 ≡ far
    waits = by (s.spread.each here place)
      where
        was : get_or old here 0 ≡ far
        was = (ready.waiting.each i more).1

        never : Between list 0 i here → ⊥
        never (t, a, b, e) = let c = ready.waiting.rises t i b more in omega arith

        by : Reaches (Before i here) d (get_or old here 0) (get_or near here 0) → get_or near here 0 ≡ far
        by (as_was e f) = e ∙ was
        by (reached o p n) = absurd (never p.1)

    -- what stands before this place of the list stands before the next
    widens : (m : ℕ) → Before i m → Before (i + 1) m
    widens m (p, (t, a, b, e)) = (p, (t, a, omega arith, e))

    -- and what stands before the next and is not this place stands before this one
    narrows : (m : ℕ) → (m ≡ here → ⊥) → Between list 0 (i + 1) m → Between list 0 i m
    narrows m other (t, a, b, e) = by (ℕ_discrete t i)
      where
        by : Dec (t ≡ i) → Between list 0 i m
        by (yes q) = absurd (other (sym e ∙ ap (λ (x : ℕ). get_or list x 0) q))
        by (no q) = (t, a, omega arith, e)

    -- A place with a reason is reached.
    sifting-reach : P here → Sift (i + 1) kept (set near here d) rest
    sifting-reach p = record {
      few = let a = s.few in omega arith;
      spread = subst (λ (n : ℕ). Spread (Before (i + 1)) d r old (set near here d) n) (let a = s.few in omega arith)
          (spread-one (Before i) (Before (i + 1)) d r old near (i - kept) s.spread here place inside waits small
          (p, (i, omega arith, omega arith, refl)) widens (λ m n q. (q.0, narrows m n q.1)));
      same = s.same;
      each = λ t h. let u = s.each t h in (
        u.0,
        get_or-set_other near here (get_or rest t 0) d 0
            (λ q. let a = s.under t i h (omega arith) more in omega arith) ∙ u.1,
      );
      rises = s.rises;
      under = λ t u h k l. s.under t u h (omega arith) l;
      whole = λ m o q. at m (ℕ_discrete m here) o q;
      ahead = λ u h. s.ahead u (omega arith);
    }
      where
        at : (m : ℕ) → Dec (m ≡ here) → get_or (set near here d) m 0 ≡ far → Between list 0 (i + 1) m → Between rest 0 kept m
        at m (yes e) o q =
            absurd (let a : get_or (set near here d) m 0 ≡ d = ap (λ (x : ℕ). get_or (set near here d) x 0) e
            ∙ get_or-set_same near here d 0 inside in
            omega arith)
        at m (no n) o q = s.whole m (sym (get_or-set_other near here m d 0 n) ∙ o) (narrows m n q)

    -- the list is long enough
    within : kept < length rest
    within =
        let a = s.few in let b = s.same in let c = ready.in_list in let e = ready.waiting.few in omega arith

    -- A place without one is listed again.
    sifting-keep : (P here → ⊥) → Sift (i + 1) (kept + 1) near (set rest kept here)
    sifting-keep without = record {
      few = let a = s.few in omega arith;
      spread = subst (λ (n : ℕ). Spread (Before (i + 1)) d r old near n) (let a = s.few in omega arith)
          (spread_same (Before i) (Before (i + 1)) d r old near (i - kept) s.spread widens
          (λ m h o q. (q.0, narrows m (λ e. without (subst P e q.0)) q.1)));
      same = length-set rest kept here ∙ s.same;
      each = λ t h. each_at t (ℕ_discrete t kept) h;
      rises = λ t u h k. rise t u (ℕ_discrete u kept) h k;
      under = λ t u h k l. low t u (ℕ_discrete t kept) h k l;
      whole = λ m o q. at m (ℕ_discrete m here) o q;
      ahead = λ u h. other u (λ e. let a = s.few in omega arith) ∙ s.ahead u (omega arith);
    }
      where
        rest' : List ℕ
        rest' = set rest kept here

        last : get_or rest' kept 0 ≡ here
        last = get_or-set_same rest kept here 0 within

        last-at : (t : ℕ) → t ≡ kept → get_or rest' t 0 ≡ here
        last-at t q = ap (λ (x : ℕ). get_or rest' x 0) q ∙ last

        other : (t : ℕ) → (t ≡ kept → ⊥) → get_or rest' t 0 ≡ get_or rest t 0
        other t q = get_or-set_other rest kept t here 0 q

        each_at : (t : ℕ) → Dec (t ≡ kept) → t < kept + 1 → (get_or rest' t 0 < r) × (get_or near (get_or rest' t 0) 0 ≡ far)
        each_at t (yes q) h = let a = place in let e = last-at t q in (omega arith, ap (λ (x : ℕ). get_or near x 0) e ∙ waits)
        each_at t (no q) h =
            let e = other t q in
            let u = s.each t (omega arith) in
            let a = u.0 in
            (omega arith, ap (λ (x : ℕ). get_or near x 0) e ∙ u.1)

        rise : (t u : ℕ) → Dec (u ≡ kept) → t < u → u < kept + 1 → get_or rest' t 0 < get_or rest' u 0
        rise t u (yes q) h k =
            let a = other t (λ e. omega arith) in
            let b = last-at u q in
            let c = s.under t i (omega arith) (omega arith) more in
            omega arith
        rise t u (no q) h k =
            let a = other t (λ e. omega arith) in let b = other u q in let c = s.rises t u h (omega arith) in omega arith

        low : (t u : ℕ) → Dec (t ≡ kept) → t < kept + 1 → i + 1 ≤ u → u < left → get_or rest' t 0 < get_or list u 0
        low t u (yes q) h k l = let a = last-at t q in let b = ready.waiting.rises i u (omega arith) l in omega arith
        low t u (no q) h k l = let a = other t q in let b = s.under t u (omega arith) (omega arith) l in omega arith

        at : (m : ℕ) → Dec (m ≡ here) → get_or near m 0 ≡ far → Between list 0 (i + 1) m → Between rest' 0 (kept + 1) m
        at m (yes e) o q = (kept, omega arith, omega arith, last ∙ sym e)
        at m (no n) o q = shift (s.whole m o (narrows m n q))
          where
            shift : Between rest 0 kept m → Between rest' 0 (kept + 1) m
            shift (t, a, b, e) = (t, a, omega arith, other t (λ g. omega arith) ∙ e)

    -- The list is still as it was from there on: the place that is read is this one.
    is-here : get_or rest i 0 ≡ here
    is-here = s.ahead i (omega arith)

    pub sift-reach : P (get_or rest i 0) → Sift (i + 1) kept (set near (get_or rest i 0) d) rest
    sift-reach p = subst (λ (y : ℕ). Sift (i + 1) kept (set near y d) rest) (sym is-here) (sifting-reach (subst P is-here p))

    pub sift-keep : (P (get_or rest i 0) → ⊥) → Sift (i + 1) (kept + 1) near (set rest kept (get_or rest i 0))
    sift-keep without =
        subst (λ (y : ℕ). Sift (i + 1) (kept + 1) near (set rest kept y)) (sym is-here)
        (sifting-keep (λ p. without (subst P (sym is-here) p)))
