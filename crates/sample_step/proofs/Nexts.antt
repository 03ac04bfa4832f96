-- One step of the sample run: the aim that a state passes on to, and that the first of the nearest next places holds the best next state,
-- whether the places are tested or the moves are stored. Assumes nothing.
use mathlib.Core.Path.{◌≡◌, refl, sym, subst, ◌∙◌}
use mathlib.Core.Bool.{true, false}
use mathlib.Core.Logic.{◌⊎◌, inl, inr}
use mathlib.Core.List.{List}
use Prim.Native.Nat.{ℕ, suc, ◌+◌, ◌-◌, ◌*◌, ◌≤◌, ◌<◌}
use native.Mathlib.Decide.{dec_lt, dec_le}
use native.Mathlib.Omega.{arith}
use lib.ListN.{get_or}
use Rattle.meaning.specs.System.{System, Livable}
use Rattle.meaning.specs.Sample.{Distance, Passes}
use Rattle.meaning.proofs.Unique.{distance-unique}
use Rattle.meaning.proofs.SampleRun.{kept-of-met, next-aim-on, next-aim-back}
use Rattle.meaning.proofs.Exists.{livable-next}
use Rattle.ground.specs.Listed.{Between}
use Rattle.ground.proofs.Tests.{no_both}
use Rattle.rules.specs.Book.{book_system, book_kept}
use Rattle.rules.specs.Table.{To}
use Rattle.rules.proofs.Facts.{kept-is, kept-true}
use Rattle.moves.specs.Layout.{start_at, end_at, cells_of}
use Rattle.moves.specs.Moves.{Forth}
use Rattle.moves.proofs.Rows.{rows-has}
use Rattle.distances.specs.Far.{far}
use Rattle.sample_step.specs.Rows.{Livables, aims_of, Walkable}
use Rattle.sample_step.specs.Step.{Nearest, FirstNearest, Below, row_at, FirstAt, Lookable, BestAt}
use Rattle.sample_step.proofs.Places.{places-rise}
use Rattle.sample_step.proofs.Distances.{row_within}
use Rattle.sample_step.proofs.Scans.{nearest-at}

-- ---- the aim

-- a state passes the aim on to r, which is an aim
abbrev pub Passed : System → ℕ → ℕ → ℕ → Type 0
Passed S aim s r = Passes S aim s r × (r < aims_of S)

-- With no promises the aim stays 0.
pub passed_none : (S : System) (aim s : ℕ) → S.promises ≡ 0 → Passed S aim s 0
passed_none S aim s e = (inl (inl e, sym (next-aim-back S aim (omega arith))), omega arith)

-- A kept promise passes the aim on to the next one.
pub passed_on : (book : List ℕ) (aim s : ℕ) → book_kept book aim s ≡ true → aim + 1 < (book_system book).promises
    → Passed (book_system book) aim s (aim + 1)
passed_on book aim s e h =
    let n : aim + 1 ≡ suc aim = omega arith in
    (inl (inr (kept-is book aim s e), n ∙ sym (next-aim-on (book_system book) aim (omega arith))), omega arith)

-- The last promise passes it back to the first.
pub passed-back : (book : List ℕ) (aim s : ℕ) → book_kept book aim s ≡ true → (book_system book).promises ≤ aim + 1
    → Passed (book_system book) aim s 0
passed-back book aim s e h = (inl (inr (kept-is book aim s e), sym (next-aim-back (book_system book) aim (omega arith))), omega arith)

-- A promise that is not kept stays aimed at.
pub passed-not : (book : List ℕ) (aim s : ℕ) → book_kept book aim s ≡ false → 1 ≤ (book_system book).promises → aim < aims_of (book_system book)
    → Passed (book_system book) aim s aim
passed-not book aim s e h l =
    (inr (λ m. no_both (kept-true book aim s (kept-of-met (book_system book) aim s h m)) e, refl), l)

-- ---- the best next state

module _ {book table dist : List ℕ} {r : ℕ} (w : Walkable book table dist r) (place aim : ℕ) (inside : place < r)
    (aimed : aim < aims_of (book_system book)) where
  -- If P are the places that the state at `place` moves to, the first of the nearest of them holds the best next state.
  best_of : {P : ℕ → Type 0} → ((x : ℕ) → P x → (x < r) × To book table place x) → ((x : ℕ) → x < r → To book table place x → P x) → (p : ℕ)
      → FirstNearest P (row_at dist (aim * r)) p → BestAt (book_system book) table r place aim p
  best_of {P} sound whole p found = by n.here
    where
      S : System
      S = book_system book

      s : ℕ
      s = get_or table place 0

      d : ℕ → ℕ
      d = row_at dist (aim * r)

      L : Livables S table r
      L = w.states.livables

      n : Nearest P d p found.least
      n = found.nearest

      next : (u : ℕ) → S.Move s u → Livable S u → (x : ℕ) × (x < r) × (get_or table x 0 ≡ u) × P x
      next u m l = let v = L.whole u l in (v.0, v.1, v.2, whole v.0 v.1 (subst (S.Move s) (sym v.2) m))

      some : found.least < far
      some =
          let m = livable-next (L.sound place inside) in
          let v = next m.0 m.1 m.2 in
          omega (arith, n.low v.0 v.3, w.rowed.near aim v.0 aimed v.1)

      by : ((found.least ≡ far) × (p ≡ 0)) ⊎ (P p × (d p ≡ found.least)) → BestAt S table r place aim p
      by (inl e) = absurd (omega (arith, some, e.0))
      by (inr h) = (
        here.0,
        record {
          move = here.1;
          livable = L.sound p here.0;
          far = d p;
          distance = w.rowed.distance aim p aimed here.0;
          nearest = nearest;
        },
      )
        where
          here : (p < r) × To book table place p
          here = sound p h.0

          nearest : (u e : ℕ) → S.Move s u → Livable S u → Distance S aim e u → (d p < e) ⊎ ((d p ≡ e) × (get_or table p 0 ≤ u))
          nearest u e m l away = pick (dec_lt (d p) (d x)) (dec_le p x)
            where
              v : (x : ℕ) × (x < r) × (get_or table x 0 ≡ u) × P x
              v = next u m l

              x : ℕ
              x = v.0

              same : d x ≡ e
              same = distance-unique (subst (Distance S aim (d x)) v.2 (w.rowed.distance aim x aimed v.1)) away

              pick : Dec (d p < d x) → Dec (p ≤ x) → (d p < e) ⊎ ((d p ≡ e) × (get_or table p 0 ≤ u))
              pick (yes q) g = inl (omega (arith, same))
              pick (no q) (yes g) =
                  inr (
                    omega (arith, same, h.1, n.low x v.3),
                    subst (λ (t : ℕ). get_or table p 0 ≤ t) v.2
                        (places-rise L p x g v.1),
                  )
              pick (no q) (no g) = absurd (omega (arith, n.first x v.3 (omega arith), h.1))

  -- ---- where the places are tested

  -- No next state is nearer than one less than the state's own distance: by way of it the state would be nearer.
  next-not-nearer : (x : ℕ) → x < r → To book table place x → row_at dist (aim * r) place - 1 ≤ row_at dist (aim * r) x
  next-not-nearer x h move =
      let alive = w.states.livables.sound place inside in
      let way = (w.rowed.distance aim x aimed h).way in
      let fewest : row_at dist (aim * r) place ≤ suc (row_at dist (aim * r) x)
      = (w.rowed.distance aim place aimed inside).fewest (suc (row_at dist (aim * r) x)) (alive, (get_or table x 0, move, way)) in
      omega arith

  -- and the first of the nearest is the best.
  pub best-tested : (p : ℕ) → FirstNearest (Below (To book table place) r) (row_at dist (aim * r)) p
      → BestAt (book_system book) table r place aim p
  best-tested = best_of (λ x m. m) (λ x l m. (l, m))

  -- So is the first that is one nearer than the state itself, if there is one.
  pub best-hit : (wanted p : ℕ) → wanted ≡ row_at dist (aim * r) place - 1 → FirstAt (To book table place) (row_at dist (aim * r)) r wanted
      p → p < r
      → BestAt (book_system book) table r place aim p
  best-hit wanted p e at h =
      best-tested p (nearest-at (λ x l m. subst (λ (y : ℕ). y ≤ row_at dist (aim * r) x) (sym e) (next-not-nearer x l m)) at h)

  -- ---- where the moves are stored

  module _ {moves : List ℕ} (forth : Forth book table r moves) where
    -- The row of a place can be looked through.
    pub row-lookable : Lookable dist (aim * r) moves place
    row-lookable = record {
      row = rows-has _ r moves forth.long w.states.states.few forth.rows place inside;
      in_dist = λ e p q. omega (arith, (forth.rows.sound place e inside p q).0, row_within w aim aimed);
      ascends = λ e p q. forth.ascends place e inside p q;
    }

    -- The first of its nearest is the best.
    pub best-in-row : (p : ℕ) → FirstNearest (Between (cells_of moves) (start_at moves place) (end_at moves place)) (row_at dist (aim * r)) p
        → BestAt (book_system book) table r place aim p
    best-in-row = best_of (λ x m. subst (λ (y : ℕ). (y < r) × To book table place y) m.3 (forth.rows.sound place m.0 inside m.1
        m.2))
        (λ x l m. forth.rows.whole place x inside l m)
