-- The loops that follow the chains of one row, turn by turn, and put into the queue whom they reach. Assumes nothing.
use mathlib.Core.Path.{◌≡◌, refl, sym, ap, subst, ◌∙◌}
use mathlib.Core.Logic.{◌⊎◌, inl, inr}
use mathlib.Core.List.{List}
use Prim.Native.Nat.{ℕ, ◌+◌, ◌≤◌, ◌<◌}
use native.Mathlib.Decide.{dec_lt, ℕ_discrete}
use native.Mathlib.Omega.{arith}
use lib.ListN.{length, get_or, set, length-set}
use lib.Seq.{get_or-set_same, get_or-set_other}
use Rattle.ground.specs.Listed.{Between}
use Rattle.moves.specs.Layout.{start_at, end_at, cell_at, link_at, Linked, Backed}
use Rattle.distances.specs.Far.{far, gone}
use Rattle.distances.specs.Values.{Reaches, as_was, reached}
use Rattle.distances_along.specs.Follow.{Ready, RowReady, Followed}
use Rattle.distances.proofs.Spreads.{spread_none, spread_same, far-counts, spread-one}
use Rattle.distances_along.proofs.Chains.{OnChain, chain-begins, chain-ends, chain-on, chain_next, chain-widens, chain-narrows}

-- ---- following places: none, one, those of two reasons one after the other

-- Where the reason holds nowhere, nothing changes.
pub followed-none : {P : ℕ → Type 0} (d r : ℕ) (near : List ℕ) (tail : ℕ) (queue : List ℕ) → d < gone → ((i : ℕ) → P i → ⊥)
    → Followed P d r near near tail queue queue 0
followed-none d r near tail queue small never = record {
  spread = spread_none _ d r near never;
  joined = record {
    long = refl;
    kept = λ t h. refl;
    added = λ t a h. absurd (omega arith);
    whole = λ i h o n. absurd (omega arith);
  };
}

-- What holds for one reason holds for another that holds at the same places.
pub followed-by : {P Q : ℕ → Type 0} (d r : ℕ) (old near : List ℕ) (tail : ℕ) (queue line : List ℕ) (got : ℕ)
    → Followed P d r old near tail queue line got → ((i : ℕ) → P i → Q i) → ((i : ℕ) → Q i → P i)
    → Followed Q d r old near tail queue line got
followed-by d r old near tail queue line got f to from =
    record { joined = f.joined; spread = spread_same _ _ d r old near got f.spread to (λ i h o q. from i q) }

module _ (d r : ℕ) (near : List ℕ) (tail : ℕ) (queue : List ℕ) (small : d < gone) (i : ℕ) where
  -- A place that is reached already is passed by.
  pub followed-past : (get_or near i 0 ≡ far → ⊥) → Followed (λ j. j ≡ i) d r near near tail queue queue 0
  followed-past other = record {
    joined = (followed-none {P = λ j. ⊥} d r near tail queue small (λ j p. p)).joined;
    spread = spread_same _ _ d r near near 0 (spread_none (λ j. ⊥) d r near (λ j p. p)) (λ j p. absurd p)
        (λ j h o q. other (sym (ap (λ (x : ℕ). get_or near x 0) q) ∙ o));
  }

  -- One that is not gets d and joins the queue.
  pub followed-one : get_or near i 0 ≡ far → i < r → i < length near → tail < length queue
      → Followed (λ j. j ≡ i) d r near (set near i d) tail queue (set queue tail i) 1
  followed-one isfar place inside room = record {
    spread = spread-one (λ j. ⊥) _ d r near near 0 (spread_none (λ j. ⊥) d r near (λ j p. p)) i place inside isfar small refl
        (λ j p. absurd p)
        (λ j n q. n q);
    joined = record {
      long = length-set queue tail i;
      kept = λ t h. get_or-set_other queue tail t i 0 (λ q. omega arith);
      added = λ t a h. add t (omega arith);
      whole = λ j h o n. at j (ℕ_discrete j i) o n;
    };
  }
    where
      last : get_or (set queue tail i) tail 0 ≡ i
      last = get_or-set_same queue tail i 0 room

      add : (t : ℕ) → t ≡ tail
          → (get_or (set queue tail i) t 0 < r) × (get_or near (get_or (set queue tail i) t 0) 0 ≡ far)
          × (get_or (set near i d) (get_or (set queue tail i) t 0) 0 ≡ d)
      add t q =
          let f : get_or (set queue tail i) t 0 ≡ i = ap (λ (x : ℕ). get_or (set queue tail i) x 0) q ∙ last in (
            omega arith,
            ap (λ (x : ℕ). get_or near x 0) f ∙ isfar,
            ap (λ (x : ℕ). get_or (set near i d) x 0) f ∙ get_or-set_same near i d 0 inside,
          )

      at : (j : ℕ) → Dec (j ≡ i) → get_or near j 0 ≡ far → get_or (set near i d) j 0 ≡ d → Between (set queue tail i) tail (tail + 1) j
      at j (yes q) o n = (tail, omega arith, omega arith, last ∙ sym q)
      at j (no q) o n = absurd (let e = get_or-set_other near i j d 0 q in omega arith)

module _ {P Q : ℕ → Type 0} (d r : ℕ) (old mid new : List ℕ) (tail got more : ℕ) (queue between line : List ℕ) (small : d < gone)
    (f : Followed P d r old mid tail queue between got) (g : Followed Q d r mid new (tail + got) between line more) where
  both : {A B : Type 0} {x y z : ℕ} → Reaches A d x y → Reaches B d y z → Reaches (A ⊎ B) d x z
  both {A = A} {B = B} {x = x} (as_was e u) (as_was e' u') = as_was (e' ∙ e) by
    where
      by : x ≡ far → A ⊎ B → ⊥
      by o (inl p) = u o p
      by o (inr q) = u' (e ∙ o) q
  both (as_was e u) (reached o q n) = reached (sym e ∙ o) (inr q) n
  both (reached o p n) (as_was e u) = reached o (inl p) (e ∙ n)
  both (reached o p n) (reached o' q n') = absurd (omega (arith, o', n, small))

  -- what was far in between was far before; what has d keeps it
  was-far : {A : Type 0} {x y : ℕ} → Reaches A d x y → y ≡ far → x ≡ far
  was-far (as_was e u) o = sym e ∙ o
  was-far (reached o p n) o' = o

  keeps : {B : Type 0} {y z : ℕ} → y ≡ d → Reaches B d y z → z ≡ d
  keeps e (as_was s u) = s ∙ e
  keeps e (reached o p n) = n

  added' : (t : ℕ) → Dec (t < tail + got) → tail ≤ t → t < tail + (got + more)
      → (get_or line t 0 < r) × (get_or old (get_or line t 0) 0 ≡ far) × (get_or new (get_or line t 0) 0 ≡ d)
  added' t (yes h) a b =
      let e = g.joined.kept t h in
      let (u, v, w) = f.joined.added t a h in
      (omega arith, ap (λ (x : ℕ). get_or old x 0) e ∙ v, ap (λ (x : ℕ). get_or new x 0) e ∙ keeps w (g.spread.each (get_or between t 0) u))
  added' t (no h) a b =
      let (u, v, w) = g.joined.added t (omega arith) (omega arith) in
      (u, was-far (f.spread.each (get_or line t 0) u) v, w)

  whole' : (i : ℕ) → i < r → get_or old i 0 ≡ far → get_or new i 0 ≡ d → Between line tail (tail + (got + more)) i
  whole' i h o n = by (f.spread.each i h)
    where
      first : Between between tail (tail + got) i → Between line tail (tail + (got + more)) i
      first (t, a, b, e) = (t, a, omega arith, g.joined.kept t b ∙ e)

      second : Between line (tail + got) (tail + got + more) i → Between line tail (tail + (got + more)) i
      second (t, a, b, e) = (t, omega arith, omega arith, e)

      by : Reaches (P i) d (get_or old i 0) (get_or mid i 0) → Between line tail (tail + (got + more)) i
      by (as_was e u) = second (g.joined.whole i h (e ∙ o) n)
      by (reached o' p n') = first (f.joined.whole i h o n')

  -- Those of one reason, and then those of another.
  pub followed_then : Followed (λ i. P i ⊎ Q i) d r old new tail queue line (got + more)
  followed_then = record {
    spread = record {
      long = g.spread.long ∙ f.spread.long;
      each = λ i h. both (f.spread.each i h) (g.spread.each i h);
      rest = λ i h. g.spread.rest i h ∙ f.spread.rest i h;
      counted = omega (arith, f.spread.counted, g.spread.counted);
    };
    joined = record {
      long = g.joined.long ∙ f.joined.long;
      kept = λ t h. g.joined.kept t (omega arith) ∙ f.joined.kept t h;
      added = λ t a h. added' t (dec_lt t (tail + got)) a h;
      whole = whole';
    };
  }

-- Where places were followed, more may be followed.
pub ready-then : {P : ℕ → Type 0} (moves : List ℕ) (d r : ℕ) (old near : List ℕ) (tail : ℕ) (queue line : List ℕ) (got : ℕ)
    → Ready moves d r old queue tail → Followed P d r old near tail queue line got → Ready moves d r near line (tail + got)
ready-then moves d r old near tail queue line got ready f = record {
  stored = ready.stored;
  links = ready.links;
  small = ready.small;
  long = f.spread.long ∙ ready.long;
  few = ready.few;
  in_queue = omega (arith, ready.in_queue, f.joined.long);
  room = omega (arith, ready.room, f.spread.counted);
}

-- ---- along a chain

-- the places of c's chain before place i are followed
pub record ChainTo (moves : List ℕ) (c d r : ℕ) (old : List ℕ) (tail : ℕ) (queue near line : List ℕ) (got i : ℕ) : Type 0 where
  pub here : i < r → Linked moves c i
  pub so_far : Followed (OnChain moves c i) d r old near tail queue line got

module _ (moves : List ℕ) (c d r : ℕ) (old : List ℕ) (tail : ℕ) (queue : List ℕ) (ready : Ready moves d r old queue tail)
    (inside : c < r) where
  -- Before its first place nothing has changed.
  pub chain-none : ChainTo moves c d r old tail queue old queue 0 c
  chain-none = record {
    here = λ h. (0, refl);
    so_far = followed-none d r old tail queue ready.small (chain-begins r moves c ready.few ready.links inside);
  }

  module _ (near line : List ℕ) (got i : ℕ) (s : ChainTo moves c d r old tail queue near line got i) where
    -- Behind its last place all are followed.
    pub chain-done : r ≤ i → Followed (λ j. Linked moves c j) d r old near tail queue line got
    chain-done over = followed-by d r old near tail queue line got s.so_far (λ j p. p.0)
        (λ j l. chain-ends r moves c ready.few ready.links inside i j over l)

    -- the next place
    module _ (more : i < r) where
      pub chain-place : i < length near
      chain-place = omega (arith, more, s.so_far.spread.long, ready.long)

      -- The queue has room for it, if it is not reached yet.
      pub chain-room : get_or near i 0 ≡ far → (tail + got < length line) × (tail + got < r)
      chain-room isfar =
          let p = ready-then moves d r old near tail queue line got ready s.so_far in
          let a = far-counts _ (λ j. ⊥) d r old near got s.so_far.spread i more chain-place isfar ready.small in
          (omega (arith, a, p.room, p.in_queue), omega (arith, a, p.room))

      module _ (k : ℕ) (is : k ≡ link_at moves i) where
        pub chain-further : i < k
        chain-further = chain-on r moves c ready.few ready.links inside i k more (s.here more) is

        step : (near' line' : List ℕ) (one : ℕ) → Followed (λ j. j ≡ i) d r near near' (tail + got) line line' one
            → ChainTo moves c d r old tail queue near' line' (got + one) k
        step near' line' one f = record {
          here = chain_next r moves c ready.few ready.links inside i k more (s.here more) is;
          so_far = followed-by d r old near' tail queue line' (got + one)
              (followed_then d r old near near' tail got one queue line line' ready.small s.so_far f)
              (chain-widens r moves c ready.few ready.links inside i k more (s.here more) is)
              (chain-narrows r moves c ready.few ready.links inside i k more (s.here more) is);
        }

        -- A place that is reached already is passed by.
        pub chain-past : (get_or near i 0 ≡ far → ⊥) → ChainTo moves c d r old tail queue near line got k
        chain-past other =
            subst (λ (n : ℕ). ChainTo moves c d r old tail queue near line n k) (omega arith)
            (step near line 0 (followed-past d r near (tail + got) line ready.small i other))

        -- One that is not gets d and joins the queue.
        pub chain_more : get_or near i 0 ≡ far → ChainTo moves c d r old tail queue (set near i d) (set line (tail + got) i) (got + 1) k
        chain_more isfar =
            step (set near i d) (set line (tail + got) i) 1
            (followed-one d r near (tail + got) line ready.small i isfar more chain-place (chain-room isfar).0)

-- ---- along a row

-- place i stands on the chain of a place in j's row, before cell e
abbrev InRow : (moves : List ℕ) (j e i : ℕ) → Type 0
InRow moves j e i = (t : ℕ) × (start_at moves j ≤ t) × (t < e) × (t < end_at moves j) × Linked moves (cell_at moves t) i

-- the row is followed up to cell e
pub record RowTo (moves : List ℕ) (j d r : ℕ) (old : List ℕ) (tail : ℕ) (queue near line : List ℕ) (got e : ℕ) : Type 0 where
  pub begun : start_at moves j ≤ e
  pub so_far : Followed (InRow moves j e) d r old near tail queue line got

module _ (moves : List ℕ) (j d r : ℕ) (old : List ℕ) (tail : ℕ) (queue : List ℕ) (ready : RowReady moves j d r old queue tail) where
  -- Before its first cell nothing has changed.
  pub row-none : (e : ℕ) → e ≡ start_at moves j → RowTo moves j d r old tail queue old queue 0 e
  row-none e q = record { begun = omega arith; so_far = followed-none d r old tail queue ready.ready.small nowhere }
    where
      nowhere : (i : ℕ) → InRow moves j e i → ⊥
      nowhere i (t, a, b, c, l) = omega arith

  module _ (near line : List ℕ) (got e : ℕ) (s : RowTo moves j d r old tail queue near line got e) where
    -- After its last cell the row is followed.
    pub row_done : end_at moves j ≤ e → Followed (λ i. Backed moves i j) d r old near tail queue line got
    row_done over = followed-by d r old near tail queue line got s.so_far there here
      where
        there : (i : ℕ) → InRow moves j e i → Backed moves i j
        there i (t, a, b, c, l) = (cell_at moves t, (t, a, c, refl), l)

        here : (i : ℕ) → Backed moves i j → InRow moves j e i
        here i (c, (t, a, b, q), l) = (t, a, omega arith, b, subst (λ (x : ℕ). Linked moves x i) (sym q) l)

    -- a cell's chain may be followed,
    pub cell-ready : (c : ℕ) → e < end_at moves j → c ≡ cell_at moves e → Ready moves d (length near) near line (tail + got)
        × (c < length near)
    cell-ready c within q =
        let long : length near ≡ r = s.so_far.spread.long ∙ ready.ready.long in (
          subst (λ (n : ℕ). Ready moves d n near line (tail + got)) (sym long)
              (ready-then moves d r old near tail queue line got ready.ready s.so_far),
          omega (arith, long, q, ready.places e s.begun within),
        )

    -- and then it is.
    pub cell-more : (c : ℕ) → e < end_at moves j → c ≡ cell_at moves e → (near' line' : List ℕ) (more : ℕ)
        → Followed (λ i. Linked moves c i) d (length near) near near' (tail + got) line line' more
        → RowTo moves j d r old tail queue near' line' (got + more) (e + 1)
    cell-more c within q near' line' more f = record {
      begun = omega (arith, s.begun);
      so_far = followed-by d r old near' tail queue line' (got + more)
          (followed_then d r old near near' tail got more queue line line' ready.ready.small s.so_far
          (subst (λ (n : ℕ). Followed (λ i. Linked moves c i) d n near near' (tail + got) line line' more)
          (s.so_far.spread.long ∙ ready.ready.long) f)) there here;
    }
      where
        there : (i : ℕ) → InRow moves j e i ⊎ Linked moves c i → InRow moves j (e + 1) i
        there i (inl (t, a, b, g, l)) = (t, a, omega arith, g, l)
        there i (inr l) = (e, s.begun, omega arith, within, subst (λ (x : ℕ). Linked moves x i) q l)

        here : (i : ℕ) → InRow moves j (e + 1) i → InRow moves j e i ⊎ Linked moves c i
        here i (t, a, b, g, l) = by (ℕ_discrete t e)
          where
            by : Dec (t ≡ e) → InRow moves j e i ⊎ Linked moves c i
            by (yes h) = inr (subst (λ (x : ℕ). Linked moves x i) (ap (cell_at moves) h ∙ sym q) l)
            by (no h) = inl (t, a, omega arith, g, l)
