-- The first walk. A trail: the first i moments of the sample run with their pairs of state and aim marked, none of them met twice; it ends
-- where a pair is marked already. It carries the sample run itself, which exists because a state is livable. Assumes nothing.
use mathlib.Core.Path.{◌≡◌, refl, sym, ap, subst, subst₂, ◌∙◌}
use mathlib.Core.Logic.{◌⊎◌, inl, inr, ⊎_elim}
use mathlib.Core.List.{List}
use Prim.Native.Nat.{ℕ, suc, ◌+◌, ◌*◌, ◌^◌, ◌≤◌, ◌<◌}
use native.Mathlib.Decide.{ℕ_discrete, dec_lt}
use native.Mathlib.Nat.{mul-le-mul}
use native.Mathlib.Omega.{arith}
use lib.Bits.{bit_or}
use Rattle.std.proofs.Common.{Option, Some, None, IsSome}
use lib.ListN.{length, get_or, set, length-set}
use lib.Seq.{get_or-set_same, get_or-set_other}
use Rattle.meaning.specs.System.{System}
use Rattle.meaning.specs.Sample.{Passes, Best, Sample}
use Rattle.meaning.proofs.Unique.{best-unique, passes-unique}
use Rattle.meaning.proofs.SampleRun.{aim-below}
use Rattle.ground.specs.Wiping.{Zeros}
use Rattle.ground.specs.Bits.{bit}
use Rattle.ground.proofs.Tests.{no_both}
use Rattle.ground.proofs.Bits.{bit-none, bit-marked, bit-unmarked}
use Rattle.rules.specs.Book.{Shaped, book_system}
use Rattle.rules.proofs.Facts.{promises-are, first-is, first-true}
use Rattle.sample_step.specs.Rows.{Livables, LivableTable, aims_of, Walkable}
use Rattle.sample_step.specs.Step.{FirstPlace, FirstPlaceFound, Onward, Stepped}
use Rattle.sample_step.proofs.Books.{finite-book}
use Rattle.sample_step.proofs.Places.{same_place, places-rise}
use Rattle.sample_walk.specs.Walk.{LoopCut, Ended}
use Rattle.sample_walk.proofs.Samples.{the-sample, some_first, pairs-within}

-- ---- moments

-- at moment i the sample run stands at that place, with that aim
pub record AtMoment (S : System) (table : List ℕ) (r : ℕ) (run aims : ℕ → ℕ) (i place aim : ℕ) : Type 0 where
  pub sample : Sample S run aims
  pub here : run i ≡ get_or table place 0
  pub aimed : aims i ≡ aim
  pub inside : place < r

-- The first place with a first state holds the sample run's first state.
pub moment-starts : {book table : List ℕ} {r : ℕ} → LivableTable book table r → {f aims : ℕ → ℕ} → Sample (book_system book) f aims → (p : ℕ)
    → FirstPlace book table r p → AtMoment (book_system book) table r f aims 0 p 0
moment-starts {book} {table} {r} t {f} x p at = record { sample = x; here = by (dec_lt w.0 p); aimed = x.aims_first; inside = inside }
  where
    L : Livables (book_system book) table r
    L = t.livables

    none-earlier : (y : ℕ) → (book_system book).First (get_or table y 0) → y < p → ⊥
    none-earlier y first l = no_both (first-true book (get_or table y 0) first) (at.earlier y l)

    inside : p < r
    inside = within (dec_lt p r)
      where
        within : Dec (p < r) → p < r
        within (yes l) = l
        within (no l) = let v = some_first L t.some in absurd (none-earlier v.0 v.2 (omega (arith, v.1, at.inside)))

    w : (y : ℕ) × (y < r) × (get_or table y 0 ≡ f 0)
    w = L.whole (f 0) x.livable

    by : Dec (w.0 < p) → f 0 ≡ get_or table p 0
    by (yes l) = absurd (none-earlier w.0 (subst (book_system book).First (sym w.2) x.first) l)
    by (no l) = omega (
      arith,
      w.2,
      places-rise L p w.0 (omega arith) w.1,
      x.least (get_or table p 0) (first-is book (get_or table p 0) (at.here inside)) (L.sound p inside),
    )

module _ {S : System} {table : List ℕ} {r : ℕ} {f aims : ℕ → ℕ} {i place aim : ℕ} (m : AtMoment S table r f aims i place aim) where
  -- The aim is one.
  pub moment-aim : aim < aims_of S
  moment-aim = omega (arith, m.aimed, aim-below m.sample i)

  -- A step leads to the sample run's next moment.
  pub moment-steps : (place' aim' : ℕ) → Stepped S table r place aim place' aim' → AtMoment S table r f aims (i + 1) place' aim'
  moment-steps place' aim' t =
      let n : i + 1 ≡ suc i = omega arith in
      record { sample = m.sample; here = ap f n ∙ state; aimed = ap aims n ∙ same; inside = t.best.0 }
    where
      same : aims (suc i) ≡ aim'
      same = passes-unique S aim (get_or table place 0) (subst₂ (λ (a s : ℕ). Passes S a s (aims (suc i))) m.aimed m.here
          (m.sample.passes i)) t.passes

      state : f (suc i) ≡ get_or table place' 0
      state = best-unique (subst₂ (λ (a s : ℕ). Best S a s (f (suc i))) same m.here (m.sample.best i)) t.best.1

-- There is such a place.
pub first-found : {book table : List ℕ} {r : ℕ} → LivableTable book table r → (o : Option ℕ) → FirstPlaceFound book table r o → IsSome o
first-found t (Some p) h = refl
first-found {book} {r = r} t None h =
    let x = the-sample t.livables (finite-book book) t.some in
    absurd (omega (arith, (moment-starts t x.2 r h).inside))

-- ---- the first walk

-- the walk is at moment i, at that place and with that aim; exactly the pairs met before are marked
pub record Trail (S : System) (table words : List ℕ) (r i place aim : ℕ) : Type 0 where
  pub run : ℕ → ℕ
  pub aims : ℕ → ℕ
  pub at : AtMoment S table r run aims i place aim
  pub met : (j : ℕ) → j < i → (x : ℕ) × (x < r) × (get_or table x 0 ≡ run j) × (bit (aims j) (get_or words x 0) ≡ 1)
  pub marked : (x a : ℕ) → x < r → bit a (get_or words x 0) ≡ 1 → (j : ℕ) × (j < i) × (run j ≡ get_or table x 0) × (aims j ≡ a)
  pub fresh : (j m : ℕ) → j < m → m < i → run j ≡ run m → aims j ≡ aims m → ⊥

-- The walk begins at the least livable first state, aiming at promise 1, with nothing marked.
trail-starts : {book table words : List ℕ} {r : ℕ} → LivableTable book table r → (p : ℕ) → FirstPlace book table r p → Zeros words r
    → Trail (book_system book) table words r 0 p 0
trail-starts {book} t p at clean =
    let x = the-sample t.livables (finite-book book) t.some in
    record {
      run = x.0;
      aims = x.1;
      at = moment-starts t x.2 p at;
      met = λ j q. absurd (omega arith);
      marked = λ y a q e. absurd (omega (arith, e, ap (bit a) (clean y q) ∙ bit-none a));
      fresh = λ j m q l. absurd (omega arith);
    }

module _ {S : System} {table words : List ℕ} {r i place aim : ℕ} (L : Livables S table r) (t : Trail S table words r i place aim) where
  -- So far there was room.
  trail-few : i ≤ r * aims_of S
  trail-few = pairs-within L t.at.sample i t.fresh

  -- A marked pair is where the sample run is cut.
  trail-ends : bit aim (get_or words place 0) ≡ 1 → r * aims_of S ≤ 262144 → LoopCut S table i place aim
  trail-ends e few =
      let v = t.marked place aim t.at.inside e in
      record {
        run = t.run;
        aims = t.aims;
        sample = t.at.sample;
        back = v.0;
        before = v.1;
        same_state = t.at.here ∙ sym v.2;
        same-aim = t.at.aimed ∙ sym v.3;
        fresh = t.fresh;
        here = t.at.here;
        aimed = t.at.aimed;
        few = omega (arith, trail-few);
      }

  module _ (unmarked : bit aim (get_or words place 0) ≡ 1 → ⊥) where
    -- An unmarked pair was not met before.
    trail-unmet : (j : ℕ) → j < i → t.run j ≡ t.run i → t.aims j ≡ t.aims i → ⊥
    trail-unmet j h e d =
        let w = t.met j h in
        let y : w.0 ≡ place = same_place L w.0 place w.1 t.at.inside (w.2 ∙ e ∙ t.at.here) in
        unmarked (subst₂ (λ (a x : ℕ). bit a (get_or words x 0) ≡ 1) (d ∙ t.at.aimed) y w.3)

    -- So one more moment is fresh,
    trail-fresh : (j m : ℕ) → j < m → m < i + 1 → t.run j ≡ t.run m → t.aims j ≡ t.aims m → ⊥
    trail-fresh j m p q e d = by (dec_lt m i)
      where
        by : Dec (m < i) → ⊥
        by (yes l) = t.fresh j m p l e d
        by (no l) = let z : m ≡ i = omega arith in trail-unmet j (omega arith) (e ∙ ap t.run z) (d ∙ ap t.aims z)

    -- there is room for it,
    trail-room : i + 1 ≤ r * aims_of S
    trail-room = pairs-within L t.at.sample (i + 1) trail-fresh

    -- and the walk marks the pair and goes on.
    trail-goes : place < length words → (place' aim' : ℕ) → Stepped S table r place aim place' aim'
        → Trail S table (set words place (bit_or (get_or words place 0) (2 ^ aim))) r (i + 1) place' aim'
    trail-goes fits place' aim' s = record {
      run = t.run;
      aims = t.aims;
      at = moment-steps t.at place' aim' s;
      met = λ j h. met j (dec_lt j i) h;
      marked = λ x a h e. marked x a h e (pair x a);
      fresh = trail-fresh;
    }
      where
        w : ℕ
        w = get_or words place 0

        new : List ℕ
        new = set words place (bit_or w (2 ^ aim))

        -- every bit is that of the pair, and set, or as it was
        pair : (x a : ℕ) → ((x ≡ place) × (a ≡ aim) × (bit a (get_or new x 0) ≡ 1)) ⊎ (bit a (get_or new x 0) ≡ bit a (get_or words x 0))
        pair x a = by (ℕ_discrete x place) (ℕ_discrete a aim)
          where
            own : x ≡ place → bit a (get_or new x 0) ≡ bit a (bit_or w (2 ^ aim))
            own p = ap (λ (y : ℕ). bit a (get_or new y 0)) p ∙ ap (bit a) (get_or-set_same words place (bit_or w (2 ^ aim)) 0 fits)

            by : Dec (x ≡ place) → Dec (a ≡ aim) → ((x ≡ place) × (a ≡ aim) × (bit a (get_or new x 0) ≡ 1))
                ⊎ (bit a (get_or new x 0) ≡ bit a (get_or words x 0))
            by (no p) d = inr (ap (bit a) (get_or-set_other words place x (bit_or w (2 ^ aim)) 0 p))
            by (yes p) (yes q) = inl (p, q, own p ∙ ap (λ (y : ℕ). bit y (bit_or w (2 ^ aim))) q ∙ bit-marked aim w)
            by (yes p) (no q) = inr (own p ∙ bit-unmarked aim a w q ∙ ap (λ (y : ℕ). bit a (get_or words y 0)) (sym p))

        met : (j : ℕ) → Dec (j < i) → j < i + 1 → (x : ℕ) × (x < r) × (get_or table x 0 ≡ t.run j) × (bit (t.aims j) (get_or new x 0) ≡ 1)
        met j (yes l) h = let v = t.met j l in (v.0, v.1, v.2, ⊎_elim (λ p. p.2) (λ p. p ∙ v.3) (pair v.0 (t.aims j)))
        met j (no l) h = let z : j ≡ i = omega arith in (
          place,
          t.at.inside,
          sym t.at.here ∙ ap t.run (sym z),
          ap (λ (a : ℕ). bit a (get_or new place 0)) (ap t.aims z ∙ t.at.aimed)
              ∙ ap (bit aim) (get_or-set_same words place (bit_or w (2 ^ aim)) 0 fits) ∙ bit-marked aim w,
        )

        marked : (x a : ℕ) → x < r → bit a (get_or new x 0) ≡ 1
            → ((x ≡ place) × (a ≡ aim) × (bit a (get_or new x 0) ≡ 1)) ⊎ (bit a (get_or new x 0) ≡ bit a (get_or words x 0))
            → (j : ℕ) × (j < i + 1) × (t.run j ≡ get_or table x 0) × (t.aims j ≡ a)
        marked x a h e (inl p) = (i, omega arith, t.at.here ∙ ap (λ (y : ℕ). get_or table y 0) (sym p.0), t.at.aimed ∙ sym p.1)
        marked x a h e (inr p) = let v = t.marked x a h (sym p ∙ e) in (v.0, omega (arith, v.1), v.2, v.3)

-- ---- bounds

-- A word has a bit for every aim.
few-aims : {book : List ℕ} → Shaped book → aims_of (book_system book) ≤ 16
few-aims {book} s = omega (arith, promises-are book, s.few-promises)

-- There are few enough pairs.
few-pairs : {book table : List ℕ} {r : ℕ} → LivableTable book table r → r * aims_of (book_system book) ≤ 262144
few-pairs {book} {r = r} t = mul-le-mul {n₁ = r} {m₁ = aims_of (book_system book)} {n₂ = 16384} {m₂ = 16} t.states.few
    (few-aims t.states.shaped)

-- So there are few enough distances for room of so many states.
pub few-rows : {book table : List ℕ} {r : ℕ} → LivableTable book table r → (most : ℕ) → r ≤ most → aims_of (book_system book) * r ≤ 16 * most
few-rows {book} {r = r} t most h = mul-le-mul {n₁ = aims_of (book_system book)} {m₁ = r} {n₂ = 16} {m₂ = most}
    (few-aims t.states.shaped) h

-- ---- the walk as it goes

-- the walk is at moment i: what it stands on, and its trail
pub record Walking (book table dist forth signs old words : List ℕ) (r i place aim : ℕ) : Type 0 where
  pub walkable : Walkable book table dist r
  pub onward : Onward book table r forth signs
  pub in_words : r ≤ length words
  pub long : length words ≡ length old
  pub trail : Trail (book_system book) table words r i place aim

-- The walk begins.
pub walking-begins : {book table dist forth signs words : List ℕ} {r : ℕ} → Walkable book table dist r → Onward book table r forth signs
    → r ≤ length words
    → Zeros words r → (p : ℕ) → FirstPlace book table r p → Walking book table dist forth signs words words r 0 p 0
walking-begins w o fits clean p at =
    record { walkable = w; onward = o; in_words = fits; long = refl; trail = trail-starts w.states p at clean }

module _ {book table dist forth signs old words : List ℕ} {r i place aim : ℕ} (w : Walking book table dist forth signs old words r i place
    aim) where
  -- The place has a word, and the aim a bit of it; so has the next aim.
  pub walking-at : place < length words
  walking-at = omega (arith, w.trail.at.inside, w.in_words)

  pub walking-aim : aim < 16
  walking-aim = omega (arith, moment-aim w.trail.at, few-aims w.walkable.states.states.shaped)

  pub walking-next : {place' aim' : ℕ} → Stepped (book_system book) table r place aim place' aim' → aim' < 16
  walking-next s = omega (arith, s.aimed, few-aims w.walkable.states.states.shaped)

  -- What a step asks.
  pub walking-asks : Walkable book table dist r × (place < r) × (aim < aims_of (book_system book)) × Onward book table r forth signs
  walking-asks = (w.walkable, w.trail.at.inside, moment-aim w.trail.at, w.onward)

  -- A marked pair ends the walk.
  pub walking-ends : bit aim (get_or words place 0) ≡ 1 → Ended book table old words r i place aim
  walking-ends e = let states = w.walkable.states in
      record { cut = trail-ends states.livables w.trail e (few-pairs states); inside = w.trail.at.inside; long = w.long }

  module _ (unmarked : bit aim (get_or words place 0) ≡ 1 → ⊥) where
    -- With an unmarked pair there is room for one more moment,
    pub walking-room : i + 1 ≤ r * aims_of (book_system book)
    walking-room = trail-room w.walkable.states.livables w.trail unmarked

    pub walking-few : i + 1 ≤ 262144
    walking-few = omega (arith, walking-room, few-pairs w.walkable.states)

    -- and the walk goes on.
    pub walking-goes : (word place' aim' : ℕ) → word ≡ bit_or (get_or words place 0) (2 ^ aim)
        → Stepped (book_system book) table r place aim place' aim'
        → Walking book table dist forth signs old (set words place word) r (i + 1) place' aim'
    walking-goes word place' aim' e s = record {
      walkable = w.walkable;
      onward = w.onward;
      in_words = omega (arith, w.in_words, length-set words place word);
      long = length-set words place word ∙ w.long;
      trail = subst (λ (y : ℕ). Trail (book_system book) table (set words place y) r (i + 1) place' aim') (sym e)
          (trail-goes w.walkable.states.livables w.trail unmarked walking-at place' aim' s);
    }
