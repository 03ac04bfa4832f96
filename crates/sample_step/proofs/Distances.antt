-- The rows of distances: what is measured through the unmarked places of the table is the distance through livable states, and every
-- livable state has one; with no promises it is 0. Assumes nothing.
use mathlib.Core.Path.{◌≡◌, sym, ap, subst, ◌∙◌}
use mathlib.Core.Logic.{inl, inr}
use mathlib.Core.List.{List}
use Prim.Native.Nat.{ℕ, zero, suc, ◌+◌, ◌*◌, ◌≤◌, ◌<◌}
use native.Mathlib.Decide.{dec_lt}
use native.Mathlib.Nat.{zero-mul, suc-mul, mul-le-mul_right}
use native.Mathlib.Omega.{arith}
use lib.Arith.{digits_lt}
use lib.ListN.{length, get_or}
use Rattle.meaning.specs.System.{System, Livable}
use Rattle.meaning.specs.Strike.{Way}
use Rattle.meaning.specs.Sample.{Met, Distance}
use Rattle.meaning.proofs.SampleRun.{kept-of-met}
use Rattle.meaning.proofs.Exists.{livable-way}
use Rattle.ground.specs.Wiping.{Zeros}
use Rattle.distances.specs.Far.{UnstruckIn, far, Place, near, never, struck, Measured}
use Rattle.rules.specs.Book.{book_system, promises_of}
use Rattle.rules.proofs.Facts.{promises-are}
use Rattle.sample_step.specs.Rows.{Livables, aims_of, Rowed, Rowable, Walkable}

-- A way is a way wherever its states and its goal hold more.
way-both : (S : System) (U W G H : ℕ → Type 0) → ((s : ℕ) → U s → W s) → ((s : ℕ) → G s → H s) → (n s : ℕ) → Way S U G n s → Way S W H n s
way-both S U W G H f g zero s w = (f s w.0, g s w.1)
way-both S U W G H f g (suc n) s w = (f s w.0, (w.1.0, w.1.1, way-both S U W G H f g n w.1.0 w.1.2))

-- the distance d of a state, small enough for its place in a row
abbrev Near : System → ℕ → ℕ → ℕ → Type 0
Near S q s d = Distance S q d s × (d < far)

module _ {S : System} {table : List ℕ} (words : List ℕ) {r : ℕ} (L : Livables S table r) (clean : Zeros words r) where
  live-livable : (s : ℕ) → UnstruckIn table words r s → Livable S s
  live-livable s v = subst (Livable S) v.2 (L.sound v.0 v.1)

  livable-live : (s : ℕ) → Livable S s → UnstruckIn table words r s
  livable-live s l = let w = L.whole s l in (w.0, w.1, w.2, clean w.0 w.1)

  -- A way of livable states to an aim is a way of unmarked places to a kept promise.
  way-kept : (q : ℕ) → q < S.promises → (n s : ℕ) → Way S (Livable S) (Met S q) n s → Way S (UnstruckIn table words r) (S.Kept q) n s
  way-kept q h = way-both S (Livable S) (UnstruckIn table words r) (Met S q) (S.Kept q) livable-live
      (λ t m. kept-of-met S q t (omega arith) m)

  -- What is measured at a livable state is its distance.
  measured-distance : (q s word d : ℕ) → q < S.promises → word ≡ 0 → Livable S s → Place S (UnstruckIn table words r) (S.Kept q) s word
      d → Near S q s d
  measured-distance q s word d h e l (near _ small way fewest) = (
    record {
      way = way-both S (UnstruckIn table words r) (Livable S) (S.Kept q) (Met S q) live-livable (λ t m. inr m) d s way;
      fewest = λ n w. fewest n (way-kept q h n s w);
    },
    omega arith,
  )
  measured-distance q s word d h e l (never _ _ none) =
      let w = livable-way l q (omega arith) in
      absurd (none w.0 (way-kept q h w.0 s w.1))
  measured-distance q s word d h e l (struck other _) = absurd (other e)

-- the rows below n are measured
abbrev pub RowsTo : (S : System) (table : List ℕ) (r n : ℕ) (dist : List ℕ) → Type 0
RowsTo S table r n dist = (q x : ℕ) → q < n → x < r → Distance S q (get_or dist (q * r + x) 0) (get_or table x 0)
    × (get_or dist (q * r + x) 0 < far)

-- One more row is measured.
pub one-more-row : {book table words : List ℕ} {r : ℕ} (L : Rowable book table words r) (n : ℕ) (old dist : List ℕ) → n < promises_of book
    → Measured (book_system book) ((book_system book).Kept n) table words r (n * r) old dist
    → RowsTo (book_system book) table r n old → RowsTo (book_system book) table r (n + 1) dist
one-more-row {book} {table} {words} {r} L n old dist h m before q x p i = by (dec_lt q n)
  where
    by : Dec (q < n) → Near (book_system book) q (get_or table x 0) (get_or dist (q * r + x) 0)
    by (yes l) = subst (Near (book_system book) q (get_or table x 0)) (sym (m.below (q * r + x) (digits_lt l i))) (before q x l i)
    by (no l) = let e : n ≡ q = omega arith in subst (λ (j : ℕ). Near (book_system book) j (get_or table x 0) (get_or dist (j * r + x) 0)) e
        (measured-distance words L.states.livables L.unmarked n (get_or table x 0) (get_or words x 0) (get_or dist (n * r + x) 0)
        (omega (arith, promises-are book)) (L.unmarked x i) (L.states.livables.sound x i) (m.places x i))

-- All rows are measured.
pub rowed-of-rows : {S : System} {table : List ℕ} {r : ℕ} {dist : List ℕ} (p : ℕ) → p ≡ S.promises → 1 ≤ p → RowsTo S table r p dist
    → Rowed S table r dist
rowed-of-rows p e h all = record { distance = λ q x l i. (all q x (omega arith) i).0; near = λ q x l i. (all q x (omega arith) i).1 }

-- With no promises a row of zeros serves.
pub rowed-of-none : {S : System} {table : List ℕ} {r : ℕ} {dist : List ℕ} → Livables S table r → S.promises ≡ 0 → Zeros dist r
    → Rowed S table r dist
rowed-of-none {S} {table} {r} {dist} L e clean =
    record {
      distance = λ q x l i. subst (λ (d : ℕ). Distance S q d (get_or table x 0)) (sym (none q x l i)) (here q x i);
      near = λ q x l i. omega (arith, none q x l i);
    }
  where
    none : (q x : ℕ) → q < aims_of S → x < r → get_or dist (q * r + x) 0 ≡ 0
    none q x l i = let z : q ≡ 0 = omega arith in
        let a : q * r + x ≡ x = ap (λ (j : ℕ). j * r + x) z ∙ omega (arith, zero-mul r) in ap (λ (y : ℕ). get_or dist y 0) a ∙ clean x i

    here : (q x : ℕ) → x < r → Distance S q 0 (get_or table x 0)
    here q x i = record { way = (L.sound x i, inl e); fewest = λ n w. omega arith }

-- A row has room among the rows.
pub row_room : (q p r : ℕ) → q < p → q * r + r ≤ p * r
row_room q p r h = omega (arith, suc-mul q r, mul-le-mul_right r h)

-- So has a row of the walk.
pub row_within : {book table dist : List ℕ} {r : ℕ} → Walkable book table dist r → (q : ℕ) → q < aims_of (book_system book)
    → q * r + r ≤ length dist
row_within {book} {r = r} laid q h = omega (arith, row_room q (aims_of (book_system book)) r h, laid.in_dist)
