-- Redirecting places: those of two reasons one after the other, those of a chain, and those of a row's chains. One place: Turning of
-- witness. Assumes nothing.
use mathlib.Core.Path.{◌≡◌, refl, sym, ap, subst, ◌∙◌}
use mathlib.Core.Bool.{Bool, true, false}
use mathlib.Core.Logic.{◌⊎◌, inl, inr}
use mathlib.Core.List.{List}
use Prim.Native.Nat.{ℕ, ◌+◌, ◌-◌, ◌*◌, ◌≤◌, ◌<◌}
use native.Mathlib.Decide.{dec_lt, ℕ_discrete}
use native.Mathlib.Omega.{arith}
use lib.ListN.{length, get_or, set}
use Rattle.ground.specs.Listed.{Between}
use Rattle.meaning.specs.Promises.{most_states}
use Rattle.moves.specs.Layout.{start_at, end_at, cell_at, link_at, Linked, Ascending, Backed}
use Rattle.distances.specs.Far.{Unstruck}
use Rattle.distances_along.proofs.Chains.{OnChain, chain-begins, chain-ends, chain-on, chain_next, chain-widens, chain-narrows}
use Rattle.watch.specs.Turns.{IsSo, weight, Turnable, Redirects, turns, stays, Redirected}
use Rattle.watch.proofs.Weights.{scale-then}
use Rattle.watch.proofs.Turning.{
  redirects-same,
  redirected-by,
  redirects-was,
  turned_none,
  turnable-then,
  place-room,
  place-past,
  place-more,
}
use Rattle.watch_along.specs.Along.{Walkable, Redirectable, Passable}

-- Those of one reason, and then those of another.
module _ {P Q : ℕ → Type 0} (words : List ℕ) (was to : ℕ) (old mid new : List ℕ) (n m k : ℕ) (before between line : List ℕ)
    (apart : was ≡ to → ⊥)
    (r : Redirected P words was to old mid n before between m) (s : Redirected Q words was to mid new m between line k) where
  both : {A B : Type 0} {word o x y : ℕ} → Redirects A word was to o x → Redirects B word was to x y → Redirects (A ⊎ B) word was to o y
  both (turns p z o g) (turns q z' o' g') = absurd (apart (sym o' ∙ g))
  both (turns p z o g) (stays e f) = turns (inl p) z o (e ∙ g)
  both (stays e f) (turns q z o g) = turns (inr q) z (sym e ∙ o) g
  both {A = A} {B = B} {word = word} {o = o₀} (stays e f) (stays e' f') = stays (e' ∙ e) by
    where
      by : A ⊎ B → word ≡ 0 → o₀ ≡ was → ⊥
      by (inl p) z o = f p z o
      by (inr q) z o = f' q z (e ∙ o)

  -- what has the other number keeps it
  keeps : {B : Type 0} {word x y : ℕ} → x ≡ to → Redirects B word was to x y → y ≡ to
  keeps t (turns q z o g) = g
  keeps t (stays e f) = e ∙ t

  each' : (i : ℕ) → i < length old → Redirects (P i ⊎ Q i) (get_or words i 0) was to (get_or old i 0) (get_or new i 0)
  each' i h = both (r.each i h) (s.each i (let a = r.long in omega arith))

  added' : (t : ℕ) → Dec (t < m) → n ≤ t → t < k
      → (get_or line t 0 < length old) × Unstruck words (get_or line t 0) × (get_or old (get_or line t 0) 0 ≡ was)
      × (get_or new (get_or line t 0) 0 ≡ to)
  added' t (yes q) a h =
      let e = s.kept t q in
      let (u, v, w, x) = r.added t a q in
      let l = r.long in (
        omega arith,
        ap (λ (y : ℕ). get_or words y 0) e ∙ v,
        ap (λ (y : ℕ). get_or old y 0) e ∙ w,
        ap (λ (y : ℕ). get_or new y 0) e ∙ keeps x (s.each (get_or between t 0) (omega arith)),
      )
  added' t (no q) a h =
      let (u, v, w, x) = s.added t (omega arith) h in
      let l = r.long in
      let o : get_or line t 0 < length old = omega arith in
      (o, v, redirects-was apart (r.each (get_or line t 0) o) w, x)

  whole' : (i : ℕ) → i < length old → Unstruck words i → get_or old i 0 ≡ was → get_or new i 0 ≡ to → Between line n k i
  whole' i h z o g = by (r.each i h)
    where
      first : Between between n m i → Between line n k i
      first (t, a, b, e) = let c = s.grows in (t, a, omega arith, s.kept t b ∙ e)

      second : Between line m k i → Between line n k i
      second (t, a, b, e) = let c = r.grows in (t, omega arith, b, e)

      by : Redirects (P i) (get_or words i 0) was to (get_or old i 0) (get_or mid i 0) → Between line n k i
      by (turns p z' o' g') = first (r.whole i h z o g')
      by (stays e f) = second (s.whole i (let a = r.long in omega arith) z (e ∙ o) g)

  pub redirected-then : Redirected (λ i. P i ⊎ Q i) words was to old new n before line k
  redirected-then = record {
    long = s.long ∙ r.long;
    each = each';
    line_long = s.line_long ∙ r.line_long;
    grows = let a = r.grows in let b = s.grows in omega arith;
    kept = λ t h. s.kept t (let a = r.grows in omega arith) ∙ r.kept t h;
    added = λ t a h. added' t (dec_lt t m) a h;
    whole = whole';
    weighs = λ w. scale-then _ _ _ (m - n) (k - m) (k - n) _ _ (let a = r.grows in let b = s.grows in omega arith)
        (subst (λ (x : ℕ). weight w words new x + (k - m) * w 0 was ≡ weight w words mid x + (k - m) * w 0 to) r.long (s.weighs w))
        (r.weighs w);
  }

-- What may be redirected along chains may be redirected further.
pub passable-then : {P : ℕ → Type 0} (words : List ℕ) (was to : ℕ) (old row back : List ℕ) (n : ℕ) (before line : List ℕ) (m : ℕ)
    → Passable words old back was to before n → Redirected P words was to old row n before line m → Passable words row back was to line m
passable-then words was to old row back n before line m p r = record {
  turnable = turnable-then words was to old row n before line m p.turnable r;
  long = p.long;
  links = subst (λ (x : ℕ). Ascending x back) (sym r.long) p.links;
}

-- Where rows back can be walked, the places that move to place t can be redirected.
pub redirectable-along : {words row back line : List ℕ} {r t was to n : ℕ} → Walkable back r → length row ≡ r → t < r
    → Turnable words row was to line n
    → Redirectable words row back t was to line n
redirectable-along {back = back} {t = t} walkable long inside ready = record {
  turnable = ready;
  has_row = walkable.row t inside;
  places = λ e s l. let a = walkable.places t e inside s l in omega (arith, a, long);
  links = subst (λ (x : ℕ). Ascending x back) (sym long) walkable.links;
}

-- ---- a chain

-- the places of c's chain before place i are redirected
pub record ChainTo (words old back : List ℕ) (c was to : ℕ) (before : List ℕ) (n : ℕ) (row line : List ℕ) (m i : ℕ) : Type 0 where
  pub here : i < length old → Linked back c i
  pub so_far : Redirected (OnChain back c i) words was to old row n before line m

module _ (words old back : List ℕ) (c was to : ℕ) (before : List ℕ) (n : ℕ) (ready : Passable words old back was to before n)
    (inside : c < length old) where
  few : length old ≤ most_states
  few = ready.turnable.few

  -- Before its first place nothing has changed.
  pub chain-none : ChainTo words old back c was to before n old before n c
  chain-none = record {
    here = λ h. (0, refl);
    so_far = turned_none (OnChain back c c) (chain-begins (length old) back c few ready.links inside) words was to old n before
        ready.turnable.apart;
  }

  module _ (row line : List ℕ) (m i : ℕ) (s : ChainTo words old back c was to before n row line m i) where
    -- Behind its last place all are redirected.
    pub chain-done : length old ≤ i → Redirected (λ j. Linked back c j) words was to old row n before line m
    chain-done over = redirected-by words was to old row n before line m s.so_far
        (λ j. redirects-same (λ p. p.0) (chain-ends (length old) back c few ready.links inside i j over))

    -- the next place
    module _ (more : i < length old) where
      -- The line has room for it, if it is to be redirected.
      pub chain-room : {b : Bool} → IsSo words row i was b → b ≡ true → (m < length line) × (m < most_states)
      chain-room so t =
          place-room (OnChain back c i) words was to old n before ready.turnable row line m s.so_far i more (so.yes t).0
          (so.yes t).1

      -- the place behind it
      module _ (k : ℕ) (is : k ≡ link_at back i) where
        pub chain-further : i < k
        chain-further = chain-on (length old) back c few ready.links inside i k more (s.here more) is

        on : k < length old → Linked back c k
        on = chain_next (length old) back c few ready.links inside i k more (s.here more) is

        widens : (j : ℕ) → OnChain back c i j ⊎ (j ≡ i) → OnChain back c k j
        widens = chain-widens (length old) back c few ready.links inside i k more (s.here more) is

        narrows : (j : ℕ) → OnChain back c k j → OnChain back c i j ⊎ (j ≡ i)
        narrows = chain-narrows (length old) back c few ready.links inside i k more (s.here more) is

        -- A place that is struck or has another number is passed by.
        pub chain-past : {b : Bool} → IsSo words row i was b → b ≡ false → ChainTo words old back c was to before n row line m k
        chain-past so f = record {
          here = on;
          so_far = place-past (OnChain back c i) words was to old n before ready.turnable row line m s.so_far i more
              (OnChain back c k)
              (λ j p. widens j (inl p)) narrows (so.never f);
        }

        -- The others get the other number and join the line.
        pub chain_more : {b : Bool} → IsSo words row i was b → b ≡ true
            → ChainTo words old back c was to before n (set row i to) (set line m i) (m + 1) k
        chain_more so t = record {
          here = on;
          so_far = place-more (OnChain back c i) words was to old n before ready.turnable row line m s.so_far i more
              (OnChain back c k)
              (λ j p. widens j (inl p)) narrows (so.yes t).0 (so.yes t).1 (widens i (inr refl));
        }

-- ---- a row

-- place i stands on the chain of a place in t's row, before cell e
abbrev pub InRow : (back : List ℕ) (t e i : ℕ) → Type 0
InRow back t e i = (d : ℕ) × (start_at back t ≤ d) × (d < e) × (d < end_at back t) × Linked back (cell_at back d) i

-- the chains of t's row are redirected up to cell e
pub record RowTo (words old back : List ℕ) (t was to : ℕ) (before : List ℕ) (n e : ℕ) (row line : List ℕ) (m : ℕ) : Type 0 where
  pub begun : start_at back t ≤ e
  pub so_far : Redirected (InRow back t e) words was to old row n before line m

module _ (words old back : List ℕ) (t was to : ℕ) (before : List ℕ) (n : ℕ) (ready : Redirectable words old back t was to before n) where
  -- Before its first cell nothing has changed.
  pub row-none : (e : ℕ) → e ≡ start_at back t → RowTo words old back t was to before n e old before n
  row-none e q = record {
    begun = omega arith;
    so_far = turned_none (InRow back t e) nowhere words was to old n before ready.turnable.apart;
  }
    where
      nowhere : (i : ℕ) → InRow back t e i → ⊥
      nowhere i (d, a, b, c, f) = omega arith

  module _ (e : ℕ) (row line : List ℕ) (m : ℕ) (r : RowTo words old back t was to before n e row line m) where
    -- After its last cell the row is redirected.
    pub row_done : end_at back t ≤ e → Redirected (λ i. Backed back i t) words was to old row n before line m
    row_done over = redirected-by words was to old row n before line m r.so_far (λ i. redirects-same (there i) (here i))
      where
        there : (i : ℕ) → InRow back t e i → Backed back i t
        there i (d, a, b, c, l) = (cell_at back d, (d, a, c, refl), l)

        here : (i : ℕ) → Backed back i t → InRow back t e i
        here i (c, (d, a, b, q), l) = (d, a, omega arith, b, subst (λ (x : ℕ). Linked back x i) (sym q) l)

    -- A cell's chain may be redirected,
    pub cell-ready : (c : ℕ) → e < end_at back t → c ≡ cell_at back e → Passable words row back was to line m × (c < length row)
    cell-ready c within q = (
      passable-then words was to old row back n before line m (record {
        turnable = ready.turnable;
        long = ready.has_row.long;
        links = ready.links;
      })
          r.so_far,
      omega (arith, q, ready.places e r.begun within, r.so_far.long),
    )

    -- and then it is.
    pub cell-more : (c : ℕ) → e < end_at back t → c ≡ cell_at back e → (row' line' : List ℕ) (m' : ℕ)
        → Redirected (λ i. Linked back c i) words was to row row' m line line' m' → RowTo words old back t was to before n (e + 1) row'
        line' m'
    cell-more c within q row' line' m' s = record {
      begun = omega (arith, r.begun);
      so_far = redirected-by words was to old row' n before line' m'
          (redirected-then words was to old row row' n m m' before line line' ready.turnable.apart r.so_far s)
          (λ i. redirects-same (there i) (here i));
    }
      where
        there : (i : ℕ) → InRow back t e i ⊎ Linked back c i → InRow back t (e + 1) i
        there i (inl (d, a, b, f, l)) = (d, a, omega arith, f, l)
        there i (inr l) = (e, r.begun, omega arith, within, subst (λ (x : ℕ). Linked back x i) q l)

        here : (i : ℕ) → InRow back t (e + 1) i → InRow back t e i ⊎ Linked back c i
        here i (d, a, b, f, l) = by (ℕ_discrete d e)
          where
            by : Dec (d ≡ e) → InRow back t e i ⊎ Linked back c i
            by (yes h) = inr (subst (λ (x : ℕ). Linked back x i) (ap (cell_at back) h ∙ sym q) l)
            by (no h) = inl (d, a, omega arith, f, l)
