-- The queue: what the values and the queue say after the rows of its first places were followed. At its end the values are shut, so they
-- are the distances. Assumes nothing.
use mathlib.Core.Path.{◌≡◌, refl, sym, ap, subst, ◌∙◌}
use mathlib.Core.List.{List}
use Prim.Native.Nat.{ℕ, suc, ◌+◌, ◌≤◌, ◌<◌}
use native.Mathlib.Decide.{dec_lt, ℕ_discrete}
use native.Mathlib.Numerals.{add-one}
use native.Mathlib.Omega.{arith}
use lib.ListN.{length, get_or}
use Rattle.meaning.specs.System.{System}
use Rattle.ground.specs.Listed.{Between}
use Rattle.meaning.specs.Promises.{most_states}
use Rattle.moves.specs.Layout.{moves_size, most_cells, start_at, end_at, cell_at, Backed, Ascending}
use Rattle.distances.specs.Far.{Unstruck, gone}
use Rattle.distances.specs.Values.{fars, LinedUp, Reaches, as_was, reached, Sure, Opened, Near}
use Rattle.distances_along.specs.Follow.{RowReady, Followed}
use Rattle.distances.proofs.Shut.{reaches-keeps, sure-spread, spread-here, shut-near}

-- the rows back of a system's moves over the first r places
pub record MovesBack (S : System) (table : List ℕ) (r : ℕ) (back : List ℕ) : Type 0 where
  pub long : length back ≡ moves_size
  pub in_cells : (j : ℕ) → j < r → end_at back j ≤ most_cells
  pub places : (j e : ℕ) → j < r → start_at back j ≤ e → e < end_at back j → cell_at back e < r
  pub links : Ascending r back
  pub sound : (i j : ℕ) → j < r → Backed back i j → S.Move (get_or table i 0) (get_or table j 0)
  pub whole : (i j : ℕ) → i < r → j < r → S.Move (get_or table i 0) (get_or table j 0) → Backed back i j

module _ (S : System) (G : ℕ → Type 0) (table words : List ℕ) (r : ℕ) where
  -- the queue's first `tail` places are reached, nearer ones first, and the rows of its first `head` were followed
  pub record Along (near queue : List ℕ) (head tail : ℕ) : Type 0 where
    pub sure : Sure S G table words r near
    pub room : tail + fars near r ≤ r
    pub within : head ≤ tail
    pub lined : (t : ℕ) → t < tail → (get_or queue t 0 < r) × (get_or near (get_or queue t 0) 0 ≤ t)
    pub rises : (t u : ℕ) → t ≤ u → u < tail → get_or near (get_or queue t 0) 0 ≤ get_or near (get_or queue u 0) 0
    pub whole : (i : ℕ) → i < r → get_or near i 0 < gone → Between queue 0 tail i
    pub ahead : head < tail → (i : ℕ) → i < r → get_or near i 0 < gone → get_or near i 0 ≤ suc (get_or near (get_or queue head 0) 0)
    pub steps : (t i : ℕ) → t < head → i < r → Unstruck words i → S.Move (get_or table i 0) (get_or table (get_or queue t 0) 0)
        → get_or near i 0 ≤ suc (get_or near (get_or queue t 0) 0)

  -- The places at 0 are lined up, and no row was followed.
  pub along-none : (near queue : List ℕ) (tail : ℕ) → Opened S G table words r near → LinedUp 0 near r tail queue → Along near queue 0 tail
  along-none near queue tail first l = record {
    sure = first.sure;
    room = l.room refl;
    within = omega arith;
    lined = λ t h. let u = l.each t h in let a = u.1 in (u.0, omega arith);
    rises = λ t u h k. let a = (l.each t (omega arith)).1 in omega arith;
    whole = λ i h k. let a = first.at_goal i h k in l.whole i h (omega arith);
    ahead = λ o i h k. let a = first.at_goal i h k in omega arith;
    steps = λ t i h k z m. absurd (omega arith);
  }

  module _ (back : List ℕ) (rows : MovesBack S table r back) (few : r ≤ most_states)
      (near queue : List ℕ) (head tail : ℕ) (a : Along near queue head tail) where
    -- At the queue's end the values are the distances.
    pub along-done : tail ≤ head → Near S G table words r near
    along-done over = shut-near S G table words r near a.sure (λ i m h k z y v l. by i h z m v (a.whole m k l))
      where
        by : (i : ℕ) → i < r → Unstruck words i → (m : ℕ) → S.Move (get_or table i 0) (get_or table m 0) → Between queue 0 tail m
            → get_or near i 0 ≤ suc (get_or near m 0)
        by i h z m v (t, _, b, e) =
            let g = a.steps t i (omega arith) h z (subst (λ (x : ℕ). S.Move (get_or table i 0) (get_or table x 0)) (sym e) v) in
            let f : get_or near (get_or queue t 0) 0 ≡ get_or near m 0 = ap (λ (x : ℕ). get_or near x 0) e in
            omega arith

    module _ (more : head < tail) where
      -- the place whose row is next, and its number
      abbrev next : ℕ
      next = get_or queue head 0

      abbrev number : ℕ
      number = get_or near next 0

      -- The next place is one, and its number is small.
      pub along-next : (next < r) × (number < most_states)
      along-next = let u = a.lined head more in let b = u.1 in let c = a.room in (u.0, omega arith)

      -- Its row may be followed, whatever number it is to give.
      pub along-ready : (d : ℕ) → d < gone → r ≤ length queue
          → RowReady back next d (length near) near queue tail
      along-ready d small long =
          subst (λ (n : ℕ). RowReady back next d n near queue tail) (sym a.sure.long) (record {
            row = record { long = rows.long; place = omega (arith, along-next.0, few); within = rows.in_cells next along-next.0 };
            places = λ e h k. rows.places next e along-next.0 h k;
            ready = record {
              stored = rows.long;
              links = rows.links;
              small = small;
              long = a.sure.long;
              few = few;
              in_queue = long;
              room = a.room;
            };
          })

      module _ (new queue' : List ℕ) (got : ℕ)
          (followed : Followed (λ i. Backed back i next) (number + 1) (length near) near new tail queue queue' got) where
        -- a place that moves to the next place, as its row says
        abbrev Row : ℕ → Type 0
        Row i = Backed back i next

        all : Followed (λ i. Backed back i next) (suc number) r near new tail queue queue' got
        all =
            subst (λ (n : ℕ). Followed (λ i. Backed back i next) n r near new tail queue queue' got) (add-one number)
            (subst (λ (n : ℕ). Followed (λ i. Backed back i next) (number + 1) n near new tail queue queue' got)
            a.sure.long followed)

        small : suc number < gone
        small = let b = along-next.1 in omega arith

        -- what stood in the queue stays there, with its number
        stays : (t : ℕ) → t < tail → get_or new (get_or queue' t 0) 0 ≡ get_or near (get_or queue t 0) 0
        stays t h =
            let u = a.lined t h in
            let b = u.1 in
            let c = a.room in
            ap (λ (x : ℕ). get_or new x 0) (all.joined.kept t h) ∙ reaches-keeps (all.spread.each (get_or queue t 0) u.0) (omega arith)

        -- no number is larger than that of the places that joined
        new-low : (i : ℕ) → i < r → get_or new i 0 < gone → get_or new i 0 ≤ suc number
        new-low i h l = by (all.spread.each i h)
          where
            by : Reaches (Row i) (suc number) (get_or near i 0) (get_or new i 0) → get_or new i 0 ≤ suc number
            by (as_was e f) = let b = a.ahead more i h (omega arith) in omega arith
            by (reached o p n) = omega arith

        lined' : (t : ℕ) → t < tail + got → (get_or queue' t 0 < r) × (get_or new (get_or queue' t 0) 0 ≤ t)
        lined' t h = by (dec_lt t tail)
          where
            by : Dec (t < tail) → (get_or queue' t 0 < r) × (get_or new (get_or queue' t 0) 0 ≤ t)
            by (yes k) =
                let u = a.lined t k in
                let b = u.0 in
                let c = u.1 in
                let e = all.joined.kept t k in
                let f = stays t k in
                (omega arith, omega arith)
            by (no k) =
                let u = all.joined.added t (omega arith) h in
                let b = u.2 in
                let c = (a.lined head more).1 in
                (u.0, omega arith)

        rises' : (t u : ℕ) → t ≤ u → u < tail + got → get_or new (get_or queue' t 0) 0 ≤ get_or new (get_or queue' u 0) 0
        rises' t u h k = by (dec_lt u tail)
          where
            by : Dec (u < tail) → get_or new (get_or queue' t 0) 0 ≤ get_or new (get_or queue' u 0) 0
            by (yes l) =
                let b = stays t (omega arith) in
                let c = stays u l in
                let e = a.rises t u h l in
                omega arith
            by (no l) =
                let b = (all.joined.added u (omega arith) k).2 in
                let p = lined' t (omega arith) in
                let q = p.1 in
                let s = a.room in
                let m = all.spread.counted in
                let c = new-low (get_or queue' t 0) p.0 (omega arith) in
                omega arith

        whole' : (i : ℕ) → i < r → get_or new i 0 < gone → Between queue' 0 (tail + got) i
        whole' i h l = by (all.spread.each i h)
          where
            old : Between queue 0 tail i → Between queue' 0 (tail + got) i
            old (t, b, c, e) = (t, b, omega arith, all.joined.kept t c ∙ e)

            joins : Between queue' tail (tail + got) i → Between queue' 0 (tail + got) i
            joins (t, b, c, e) = (t, omega arith, c, e)

            by : Reaches (Row i) (suc number) (get_or near i 0) (get_or new i 0) → Between queue' 0 (tail + got) i
            by (as_was e f) = old (a.whole i h (omega arith))
            by (reached o p n) = joins (all.joined.whole i h o n)

        steps' : (t i : ℕ) → t < head + 1 → i < r → Unstruck words i → S.Move (get_or table i 0) (get_or table (get_or queue' t 0) 0)
            → get_or new i 0 ≤ suc (get_or new (get_or queue' t 0) 0)
        steps' t i h k z m = by (ℕ_discrete t head)
          where
            inside : t < tail
            inside = omega arith

            moves : S.Move (get_or table i 0) (get_or table (get_or queue t 0) 0)
            moves = subst (λ (x : ℕ). S.Move (get_or table i 0) (get_or table x 0)) (all.joined.kept t inside) m

            by : Dec (t ≡ head) → get_or new i 0 ≤ suc (get_or new (get_or queue' t 0) 0)
            by (yes q) =
                let p = rows.whole i next k along-next.0
                (subst (λ (x : ℕ). S.Move (get_or table i 0) (get_or table (get_or queue x 0) 0)) q moves) in
                let b = spread-here S G table words r near a.sure Row number new got small all.spread i k z p (a.ahead more i k) in
                let e = stays t inside in
                let f : get_or near (get_or queue t 0) 0 ≡ number = ap (λ (x : ℕ). get_or near (get_or queue x 0) 0) q in
                omega arith
            by (no q) =
                let b = a.steps t i (omega arith) k z moves in
                let c = (a.lined t inside).1 in
                let u = a.room in
                let e = stays t inside in
                let f = reaches-keeps (all.spread.each i k) (omega arith) in
                omega arith

        -- Its row is followed.
        pub along-more : Along new queue' (head + 1) (tail + got)
        along-more = record {
          sure = sure-spread S G table words r near a.sure Row next number new got along-next.0 refl small
              (λ i h p. to i p) all.spread;
          room = let b = all.spread.counted in let c = a.room in omega arith;
          within = omega arith;
          lined = lined';
          rises = rises';
          whole = whole';
          ahead = λ o i h l.
              let b = new-low i h l in let c = rises' head (head + 1) (omega arith) o in let e = stays head more in omega arith;
          steps = steps';
        }
          where
            to : (i : ℕ) → Row i → S.Move (get_or table i 0) (get_or table next 0)
            to i p = rows.sound i next along-next.0 p

-- ---- the loop over the queue

-- what is known of the next place of the queue, so that its row can be looked up
pub record Next (near queue : List ℕ) (r head : ℕ) : Type 0 where
  pub place : get_or queue head 0 < r
  pub small : get_or near (get_or queue head 0) 0 < most_states
  pub early : head < r
  pub in_queue : head < length queue
  pub in_near : get_or queue head 0 < length near

module _ (S : System) (G : ℕ → Type 0) (table words : List ℕ) (r : ℕ) (back : List ℕ) where
  -- the rows are the moves back, the queue is as long as it was, and the rows of its first `head` places were followed
  pub record Tracing (before queue near : List ℕ) (tail head : ℕ) : Type 0 where
    pub rows : MovesBack S table r back
    pub few : r ≤ most_states
    pub in_queue : r ≤ length queue
    pub same : length queue ≡ length before
    pub along : Along S G table words r near queue head tail

  module _ (before queue near : List ℕ) (tail head : ℕ) (t : Tracing before queue near tail head) where
    -- After the last place the values are the distances.
    pub tracing-done : tail ≤ head → Near S G table words r near
    tracing-done over = along-done S G table words r back t.rows t.few near queue head tail t.along over

    module _ (more : head < tail) where
      -- The next place's row can be looked up,
      pub tracing-next : Next near queue r head
      tracing-next =
          let u = along-next S G table words r back t.rows t.few near queue head tail t.along more in
          let a = u.0 in
          let d = t.along.sure.long in
          let e = t.along.room in
          let f = t.in_queue in record {
            place = u.0;
            small = u.1;
            early = omega arith;
            in_queue = omega arith;
            in_near = omega arith;
          }

      -- and followed,
      pub tracing-ready : (d : ℕ) → d < gone
          → RowReady back (get_or queue head 0) d (length near) near queue tail
      tracing-ready d small =
          along-ready S G table words r back t.rows t.few near queue head tail t.along more d small t.in_queue

      -- and then it is followed.
      pub tracing-more : (new queue' : List ℕ) (got : ℕ) → Followed (λ i. Backed back i (get_or queue head 0))
          (get_or near (get_or queue head 0) 0 + 1) (length near) near new tail queue queue' got
          → Tracing before queue' new (tail + got) (head + 1)
      tracing-more new queue' got f = record {
        rows = t.rows;
        few = t.few;
        in_queue = let a = t.in_queue in let b = f.joined.long in omega arith;
        same = f.joined.long ∙ t.same;
        along = along-more S G table words r back t.rows t.few near queue head tail t.along more new queue' got f;
      }
