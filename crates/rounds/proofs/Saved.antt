-- What a promise's phase has struck is what the promise does not save, by whatever is the table's moves. Assumes nothing.
use mathlib.Core.Path.{◌≡◌, refl, sym, subst, ◌∙◌}
use mathlib.Core.Bool.{Bool, true, false}
use mathlib.Core.List.{List}
use Prim.Native.Nat.{ℕ, zero, suc, ◌+◌, ◌-◌, ◌<◌}
use native.Mathlib.Decide.{ℕ_discrete}
use native.Mathlib.Omega.{arith}
use lib.Dec.{T}
use lib.ListN.{length, get_or}
use Rattle.meaning.specs.System.{System}
use Rattle.meaning.specs.Strike.{Way, SavedBy}
use Rattle.rules.specs.Book.{book_system, book_kept}
use Rattle.rules.specs.Table.{To}
use Rattle.distances.specs.Far.{Unstruck, UnstruckIn}
use Rattle.distances.specs.Values.{kept_in}
use Rattle.watch.specs.Witness.{nobody, itself, HungIn, Log, free_in}
use Rattle.watch.specs.Turns.{FallsAt, was as was-so, keeps, falls as falls-so, Watched}
use Rattle.ends_tests.specs.Phases.{Falls, was, stays, falls, Phased}

-- ---- the table's moves

-- the relation M between the first r places is the table's moves
pub record Moves (book table : List ℕ) (r : ℕ) (M : ℕ → ℕ → Type 0) : Type 0 where
  pub sound : (i j : ℕ) → i < r → j < r → M i j → To book table i j
  pub whole : (i j : ℕ) → i < r → j < r → To book table i j → M i j

-- ---- a promise

-- who keeps promise k has the number of those that do, and no one else
abbrev pub Keeps : (book table : List ℕ) (r k : ℕ) (row : List ℕ) → Type 0
Keeps book table r k row =
    (i : ℕ) → i < r → (get_or row i 0 ≡ itself → kept_in book k (get_or table i 0)) × (kept_in book k (get_or table i 0) → get_or row i 0 ≡ itself)

module _ {book table : List ℕ} {r : ℕ} {M : ℕ → ℕ → Type 0} (I : Moves book table r M) where
  -- A test that is true holds, and one that holds is true.
  held-true : (b : Bool) → T b → b ≡ true
  held-true true t = refl
  held-true false t = absurd t

  kept-so : (k s : ℕ) → kept_in book k s → (book_system book).Kept k s
  unfolding book_system
  kept-so k s e = subst (λ (b : Bool). T b) (sym e) tt

  kept-is : (k s : ℕ) → (book_system book).Kept k s → kept_in book k s
  unfolding book_system
  kept-is k s t = held-true (book_kept book k s) t

  -- What a phase of a promise has struck is on no path to it.
  pub watched-phased : {words words' row row' log log' : List ℕ} {m m' word k : ℕ} → length row ≡ r → Log words r log m
      → Keeps book table r k row
      → Watched words words' row row' M log log' m m' word → Phased (book_system book) table r (suc k) word words words' (m' - m)
  watched-phased {words = words} {words' = words'} {row = row} {row' = row'} {m = m} {m' = m'} {word = word} {k = k} long G K W = record {
    long = W.fell.long;
    each = λ i h. at i h (W.fell.each i (omega (arith, h, long, W.long)));
    counted = let a = G.count in
        let b : m' + free_in words' r ≡ r = subst (λ (n : ℕ). m' + free_in words' n ≡ n) (W.long ∙ long) W.fell.log_is.count in
        omega (arith, a, b, W.fell.grows);
  }
    where
      S : System
      S = book_system book

      inside : {i : ℕ} → i < length row' → i < r
      inside h = omega (arith, h, long, W.long)

      way : (n i : ℕ) → HungIn words row' n i → Way (book_system book) (UnstruckIn table words r) ((book_system book).Kept k) n
          (get_or table i 0)
      way zero i c =
          let h = inside c.0 in
          ((i, h, refl, c.1), kept-so k (get_or table i 0) ((K i h).0 ((W.own i c.0).0 c.2)))
      way (suc n) i c =
          let h = inside c.0 in
          let below : get_or row' i 0 < r = inside c.2 in (
            (i, h, refl, c.1),
            (
              get_or table (get_or row' i 0) 0,
              I.sound i (get_or row' i 0) h below (W.pointed.leads i c.0 c.2),
              way n (get_or row' i 0)
                  c.3,
            ),
          )

      -- a place without a witness is on no path
      none : (n i : ℕ) → i < r → Unstruck words i → get_or row' i 0 ≡ nobody → Way (book_system book) (UnstruckIn table words r)
          ((book_system book).Kept k) n (get_or table i 0) → ⊥
      none zero i h u e w =
          let x : get_or row' i 0 ≡ itself = (W.own i (omega (arith, h, long, W.long))).1 ((K i h).1 (kept-is k (get_or table i 0) w.1)) in
          absurd (omega (arith, e, x))
      none (suc n) i h u e w = on w.1.0 w.1.1 w.1.2 (head n w.1.0 w.1.2) (none n)
        where
          head : (n t : ℕ) → Way (book_system book) (UnstruckIn table words r) ((book_system book).Kept k) n t → UnstruckIn table words r t
          head zero t v = v.0
          head (suc n) t v = v.0

          on : (t : ℕ) → (book_system book).Move (get_or table i 0) t → Way (book_system book) (UnstruckIn table words r)
              ((book_system book).Kept k) n t → UnstruckIn table words r t
              → ((j : ℕ) → j < r → Unstruck words j → get_or row' j 0 ≡ nobody → Way (book_system book) (UnstruckIn table words r)
              ((book_system book).Kept k) n (get_or table j 0) → ⊥) → ⊥
          on t move v (j, l, same, z) rest = by (ℕ_discrete (get_or row' j 0) nobody)
            where
              lead : M i j
              lead = I.whole i j h l (subst (λ (y : ℕ). (book_system book).Move (get_or table i 0) y) (sym same) move)

              by : Dec (get_or row' j 0 ≡ nobody) → ⊥
              by (yes q) =
                  rest j l z q
                  (subst (λ (y : ℕ). Way (book_system book) (UnstruckIn table words r) ((book_system book).Kept k) n y) (sym same) v)
              by (no q) = W.closed i j (omega (arith, h, long, W.long)) (omega (arith, l, long, W.long)) u z lead e q

      at : (i : ℕ) → i < r → FallsAt word (get_or words i 0) (get_or words' i 0) (get_or row' i 0)
          → Falls (SavedBy (book_system book) (UnstruckIn table words r) (suc k) (get_or table i 0)) word (get_or words i 0) (get_or words' i 0)
      at i h (was-so n e) = was n e
      at i h (keeps o e n) = let c = W.hung i (omega (arith, h, long, W.long)) o n in stays o e (c.0, way c.0 i c.1)
      at i h (falls-so o e x) = falls o e (λ s. none s.0 i h o x s.1)
