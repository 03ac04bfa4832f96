-- Reason 0's phase, place by place: each place's pointer is right, and what falls has no move to a place that was unstruck before the
-- phase. Assumes nothing.
use mathlib.Core.Path.{◌≡◌, refl, sym, subst, ◌∙◌}
use mathlib.Core.Bool.{Bool, true, false}
use mathlib.Core.Logic.{inl, inr}
use mathlib.Core.List.{List}
use Prim.Native.Nat.{ℕ, ◌+◌, ◌-◌, ◌≤◌, ◌<◌}
use native.Mathlib.Decide.{dec_lt, ℕ_discrete}
use native.Mathlib.Omega.{arith}
use lib.ListN.{length, get_or, set, length-set}
use lib.Seq.{get_or-set_same, get_or-set_other}
use Rattle.meaning.specs.Strike.{SavedBy}
use Rattle.ground.proofs.Tests.{passes}
use Rattle.rules.specs.Book.{book_system}
use Rattle.rules.specs.Table.{To}
use Rattle.distances.specs.Far.{Unstruck, UnstruckIn}
use Rattle.watch.specs.Witness.{free_in}
use Rattle.watch.specs.Turns.{Names}
use Rattle.std.proofs.Common.{Option, Some, None}
use Rattle.ends_tests.specs.Searching.{place_behind}
use Rattle.ends_tests.specs.Phases.{
  Counts,
  Points,
  fresh,
  target,
  Pointers,
  Pointing,
  Pending,
  hit,
  settled,
  open_yet,
  Sought,
  none,
  found,
  Falls,
  was,
  stays,
  falls,
  Phased,
  Unphased,
  Striking,
  DeadDone,
}
use Rattle.ends_tests.proofs.Fewer.{free-set, points-fewer, phased-free}
use Rattle.ends_tests.proofs.Noting.{Noting}

-- A number of a table is the place behind the one that it names.
behind-is : (x : ℕ) (place : Option ℕ) → Names x place → place_behind place ≡ x
behind-is x None is = sym is
behind-is x (Some j) is = sym is

module _ (book table : List ℕ) (r v : ℕ) (old : List ℕ) (from : ℕ) where
  -- reason 0 saves place i
  abbrev SavedAt : ℕ → Type 0
  SavedAt i = SavedBy (book_system book) (UnstruckIn table old r) 0 (get_or table i 0)

  -- a move to a place that was unstruck saves
  saved-to : (i j : ℕ) → j < r → Unstruck old j → To book table i j → SavedAt i
  saved-to i j h z t = (get_or table j 0, t, (j, h, refl, z))

  -- what is saved has such a move
  saved-from : (i : ℕ) → ((m : ℕ) → m < r → Unstruck old m → To book table i m → ⊥) → SavedAt i → ⊥
  saved-from i no_move (t, m, (j, h, e, z)) = no_move j h z (subst (λ (x : ℕ). (book_system book).Move (get_or table i 0) x) (sym e) m)

  -- the first i places are judged, and as many of them fell as the log has grown since `from`
  pub record Passing (i end : ℕ) (words row : List ℕ) : Type 0 where
    pub long : length words ≡ length old
    pub each : (m : ℕ) → m < i → Falls (SavedAt m) v (get_or old m 0) (get_or words m 0)
    pub rest : (m : ℕ) → i ≤ m → get_or words m 0 ≡ get_or old m 0
    pub pointers : (m : ℕ) → m < r → Unstruck words m → Points book table old r m (get_or row m 0)
    pub counted : (end - from) + free_in words r ≡ free_in old r

  -- Before the first place nothing is judged.
  pub passing-none : (row : List ℕ) → Pointers book table old row r → Passing 0 from old row
  passing-none row p = record {
    long = refl;
    each = λ m h. absurd (omega arith);
    rest = λ m h. refl;
    pointers = p;
    counted = omega arith;
  }

  module _ (u : Unphased old r v) (i end : ℕ) (words row : List ℕ) (P : Passing i end words row) where
    -- A place counts exactly if it was unstruck before the phase.
    counts-was : (m : ℕ) → m < r → Counts v (get_or words m 0) → Unstruck old m
    counts-was m h k = by (dec_lt m i) k
      where
        same : get_or words m 0 ≡ get_or old m 0 → Counts v (get_or words m 0) → Unstruck old m
        same e (inl z) = sym e ∙ z
        same e (inr q) = absurd (let b = u.below m h in omega arith)

        judged : Falls (SavedAt m) v (get_or old m 0) (get_or words m 0) → Counts v (get_or words m 0) → Unstruck old m
        judged (was a e) c = same e c
        judged (stays a b s) c = a
        judged (falls a b s) c = a

        by : Dec (m < i) → Counts v (get_or words m 0) → Unstruck old m
        by (yes l) c = judged (P.each m l) c
        by (no l) c = same (P.rest m (omega arith)) c

    was-counts : (m : ℕ) → m < r → Unstruck old m → Counts v (get_or words m 0)
    was-counts m h z = by (dec_lt m i)
      where
        judged : Falls (SavedAt m) v (get_or old m 0) (get_or words m 0) → Counts v (get_or words m 0)
        judged (was a e) = absurd (a z)
        judged (stays a b s) = inl b
        judged (falls a b s) = inr b

        by : Dec (m < i) → Counts v (get_or words m 0)
        by (yes l) = judged (P.each m l)
        by (no l) = inl (P.rest m (omega arith) ∙ z)

    -- Place i is judged, and its word stays.
    kept_word : Falls (SavedAt i) v (get_or old i 0) (get_or words i 0) → (new : List ℕ)
        → ((m : ℕ) → m < r → Unstruck words m → Points book table old r m (get_or new m 0)) → Passing (i + 1) end words new
    kept_word f new points = record {
      long = P.long;
      each = λ m h. at m h (ℕ_discrete m i);
      rest = λ m h. P.rest m (omega arith);
      pointers = points;
      counted = P.counted;
    }
      where
        at : (m : ℕ) → m < i + 1 → Dec (m ≡ i) → Falls (SavedAt m) v (get_or old m 0) (get_or words m 0)
        at m h (yes q) = subst (λ (x : ℕ). Falls (SavedAt x) v (get_or old x 0) (get_or words x 0)) (sym q) f
        at m h (no q) = P.each m (omega arith)

    -- what the pointer of an unstruck place says of the places below it, if its own place does not count
    clear-below : (q : ℕ) (place : Option ℕ) → Names q place → Points book table old r i q → (Pointing words place v → ⊥) → (m : ℕ) → m < q
        → m < r → Unstruck old m → To book table i m → ⊥
    clear-below q place is (fresh e) shut m l h z t = omega arith
    clear-below q None is (target j e k to low) shut m l h z t = omega arith
    clear-below q (Some p) is (target j e k to low) shut m l h z t = by (ℕ_discrete m j)
      where
        by : Dec (m ≡ j) → ⊥
        by (no d) = low m (omega arith) z t
        by (yes d) = shut (subst (λ (x : ℕ). Counts v (get_or words x 0)) (omega arith) (was-counts m h z))

    within : i < r → i < length words
    within inside = let a = P.long in let b = u.in_words in omega arith

    -- Where an unstruck place may fall, the log has room for it.
    pub passing-room : from ≤ end → from + free_in old r ≡ r → i < r → {q : Option ℕ} {b : Bool} → Pending words i q v b
        → b ≡ true → end < r
    passing-room since count inside (hit y a) e = absurd (passes false (sym y ∙ e))
    passing-room since count inside (settled y z a) e = absurd (passes false (sym y ∙ e))
    passing-room since count inside (open_yet y z shut) e =
        let a = P.counted in let b = free-set words i v r inside (within inside) z u.some in omega arith

    -- A place that is struck, or whose pointer still counts, is passed by.
    pub passing-past : i < r → (place : Option ℕ) → Names (get_or row i 0) place → {b : Bool} → Pending words i place v b → b ≡ false
        → Passing (i + 1) end words row
    passing-past inside place is (open_yet y z shut) f = absurd (passes false (sym f ∙ y))
    passing-past inside place is (hit y a) f = kept_word (was (λ z. a (P.rest i (omega arith) ∙ z)) (P.rest i (omega arith))) row P.pointers
    passing-past inside None is (settled y z c) f = absurd c
    passing-past inside (Some p) is (settled y z c) f =
        kept_word (stays (sym (P.rest i (omega arith)) ∙ z) z (by (P.pointers i inside z))) row P.pointers
      where
        by : Points book table old r i (get_or row i 0) → SavedAt i
        by (fresh g) = absurd (omega arith)
        by (target j g h t low) = saved-to i j h (counts-was j h (subst (λ (x : ℕ). Counts v (get_or words x 0)) (omega arith) c)) t

    -- A place whose pointer must move and finds a place.
    pub passing-moved : i < r → i < length row → (place : Option ℕ) → Names (get_or row i 0) place → (q : ℕ) {b : Bool}
        → Pending words i place v b → b ≡ true → Sought book table words v r (get_or table i 0) (place_behind place) (Some q)
        → Passing (i + 1) end words (set row i (q + 1))
    passing-moved inside long place is q (hit y a) e sought = absurd (passes false (sym y ∙ e))
    passing-moved inside long place is q (settled y z a) e sought = absurd (passes false (sym y ∙ e))
    passing-moved inside long place is q (open_yet y z shut) e (none f g) = cc
    passing-moved inside long place is q (open_yet y z shut) e (found j f h c t low) =
        kept_word (stays (sym (P.rest i (omega arith)) ∙ z) z (saved-to i j h (counts-was j h c) t)) (set row i (q + 1))
        (λ m k y. at m k y (ℕ_discrete m i))
      where
        mine : Points book table old r i (get_or row i 0)
        mine = P.pointers i inside z

        same : q ≡ j
        same = cc

        nothing : (m : ℕ) → m < j → Unstruck old m → To book table i m → ⊥
        nothing m l y to = by (dec_lt m (get_or row i 0))
          where
            by : Dec (m < get_or row i 0) → ⊥
            by (yes k) = clear-below (get_or row i 0) place is mine shut m k (omega arith) y to
            by (no k) = let b = behind-is (get_or row i 0) place is in low m (omega arith) l (was-counts m (omega arith) y) to

        here : Points book table old r i (get_or (set row i (q + 1)) i 0)
        here = let s = same in let g = get_or-set_same row i (q + 1) 0 long in target j (omega arith) h t nothing

        at : (m : ℕ) → m < r → Unstruck words m → Dec (m ≡ i) → Points book table old r m (get_or (set row i (q + 1)) m 0)
        at m k y (yes d) = subst (λ (x : ℕ). Points book table old r x (get_or (set row i (q + 1)) x 0)) (sym d) here
        at m k y (no d) = subst (λ (x : ℕ). Points book table old r m x) (sym (get_or-set_other row i m (q + 1) 0 d)) (P.pointers m k y)

    -- A place whose pointer must move and finds none falls.
    pub passing-fell : from ≤ end → i < r → (place : Option ℕ) → Names (get_or row i 0) place → {b : Bool} → Pending words i place v b
        → b ≡ true → Sought book table words v r (get_or table i 0) (place_behind place) None
        → Passing (i + 1) (end + 1) (set words i v) row
    passing-fell since inside place is (hit y a) e sought = absurd (passes false (sym y ∙ e))
    passing-fell since inside place is (settled y z a) e sought = absurd (passes false (sym y ∙ e))
    passing-fell since inside place is (open_yet y z shut) e (found j f h c t low) = cc
    passing-fell since inside place is (open_yet y z shut) e (none f low) = record {
      long = length-set words i v ∙ P.long;
      each = λ m h. at m h (ℕ_discrete m i);
      rest = λ m h. get_or-set_other words i m v 0 (λ d. omega arith) ∙ P.rest m (omega arith);
      pointers = λ m h y. points m h y (ℕ_discrete m i);
      counted = let a = P.counted in let b = free-set words i v r inside (within inside) z u.some in omega arith;
    }
      where
        mine : Points book table old r i (get_or row i 0)
        mine = P.pointers i inside z

        nothing : (m : ℕ) → m < r → Unstruck old m → To book table i m → ⊥
        nothing m h y to = by (dec_lt m (get_or row i 0))
          where
            by : Dec (m < get_or row i 0) → ⊥
            by (yes k) = clear-below (get_or row i 0) place is mine shut m k h y to
            by (no k) = let b = behind-is (get_or row i 0) place is in low m (omega arith) h (was-counts m h y) to

        here : Falls (SavedAt i) v (get_or old i 0) (get_or (set words i v) i 0)
        here = falls (sym (P.rest i (omega arith)) ∙ z) (get_or-set_same words i v 0 (within inside)) (saved-from i nothing)

        at : (m : ℕ) → m < i + 1 → Dec (m ≡ i) → Falls (SavedAt m) v (get_or old m 0) (get_or (set words i v) m 0)
        at m h (yes d) = subst (λ (x : ℕ). Falls (SavedAt x) v (get_or old x 0) (get_or (set words i v) x 0)) (sym d) here
        at m h (no d) = subst (λ (x : ℕ). Falls (SavedAt m) v (get_or old m 0) x) (sym (get_or-set_other words i m v 0 d))
            (P.each m (omega arith))

        points : (m : ℕ) → m < r → Unstruck (set words i v) m → Dec (m ≡ i) → Points book table old r m (get_or row m 0)
        points m h y (no d) = P.pointers m h (sym (get_or-set_other words i m v 0 d) ∙ y)
        points m h y (yes d) =
            let a : get_or (set words i v) m 0 ≡ v = subst (λ (x : ℕ). get_or (set words i v) x 0 ≡ v) (sym d)
            (get_or-set_same words i v 0 (within inside)) in
            let b = u.some in
            absurd (omega arith)

    -- All places judged make the phase.
    pub passing-phased : i ≡ r → Phased (book_system book) table r 0 v old words (end - from)
    passing-phased e = record { long = P.long; counted = P.counted; each = λ m h. P.each m (omega arith) }

    pub passing-pointers : i ≡ r → Pointers book table words row r
    passing-pointers e m h z = points-fewer book table old words r m (get_or row m 0) (phased-free (passing-phased e) u.some)
        (P.pointers m h z)

-- With the log that was written, the phase is done.
pub passing-done : {book table words row signs before : List ℕ} {from v : ℕ} → Striking book table words row signs before from v
    → (i end : ℕ) (words' row' log : List ℕ) → i ≡ length row → Passing book table (length row) v words from i end words' row'
    → Noting (length row) words before from end words' log → length row' ≡ length row → DeadDone book table v words words' row row' before
    log from end
passing-done {book} {table} {words} {row} {signs} {before} {from} {v} K i end words' row' log e P N long = record {
  phased = passing-phased book table (length row) v words from K.unphased i end words' row' P e;
  pointers = passing-pointers book table (length row) v words from K.unphased i end words' row' P e;
  row-long = long;
  log_long = N.long;
  kept = N.kept;
  grows = N.grows;
  log_is = record {
    in_words = let a = P.long in let b = K.unphased.in_words in omega arith;
    in-log = let a = N.long in let b = K.log_is.in-log in omega arith;
    count = let a = P.counted in let b = K.log_is.count in let c = N.grows in omega arith;
    places = N.places;
  };
  noted = N.noted;
}

-- Where an unstruck place may fall, there is room for it in the log.
pub fell-room : {book table words row signs before : List ℕ} {from v : ℕ} → Striking book table words row signs before from v
    → {i end : ℕ} {words' row' log : List ℕ} → Passing book table (length row) v words from i end words' row'
    → Noting (length row) words before from end words' log → i < length row → {q : Option ℕ} {b : Bool} → Pending words' i q v b
    → b ≡ true
    → end < length log
fell-room {book} {table} {words} {row} {from = from} {v = v} K {i} {end} {words'} {row'} P N more D t =
    let a = passing-room book table (length row) v words from K.unphased i end words' row' P N.grows K.log_is.count more D t in
    omega (arith, a, K.log_is.in-log, N.long)
