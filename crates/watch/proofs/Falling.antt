-- Two loops: all places without a witness are put into the log; and those that still have none fall. Assumes nothing.
use mathlib.Core.Path.{◌≡◌, refl, sym, ap, subst, ◌∙◌}
use mathlib.Core.Logic.{◌⊎◌, inl, inr}
use mathlib.Core.List.{List}
use Prim.Native.Nat.{ℕ, suc, ◌+◌, ◌-◌, ◌≤◌, ◌<◌}
use native.Mathlib.Decide.{ℕ_discrete}
use native.Mathlib.Numerals.{add-one}
use native.Mathlib.Omega.{arith}
use lib.ListN.{length, get_or, set, length-set}
use lib.Seq.{get_or-set_same, get_or-set_other}
use Rattle.ground.specs.Listed.{Between}
use Rattle.distances.proofs.Totals.{total-set}
use Rattle.distances.specs.Far.{Unstruck}
use Rattle.watch.specs.Witness.{nobody, itself, free_in, Fresh}
use Rattle.watch.specs.Turns.{weight, unstruck_at, Loosened, Fallable, FallsAt, was, keeps, falls, FellTo}
use Rattle.watch.proofs.Sums.{weighs-most, weighs-none, two-counts, total-upto}

-- ---- lists that grow by one

-- Who stood in a list stands there still when one more is put behind.
pub stands-still : (l : List ℕ) (m n v i : ℕ) → Between l m n i → Between (set l n v) m (n + 1) i
stands-still l m n v i s = (s.0, s.1, omega (arith, s.2), get_or-set_other l n s.0 v 0 (λ e. absurd (omega (arith, e, s.2))) ∙ s.3)

-- And so does that one.
pub stands-now : (l : List ℕ) (m n v : ℕ) → m ≤ n → n < length l → Between (set l n v) m (n + 1) v
stands-now l m n v h k = (n, h, omega arith, get_or-set_same l n v 0 k)

-- ---- putting places into the log

-- the first i places without a witness stand in the log behind its first m
pub record Alone (words row before log : List ℕ) (m tail i : ℕ) : Type 0 where
  pub log_long : length log ≡ length before
  pub kept : (t : ℕ) → t < m → get_or log t 0 ≡ get_or before t 0
  pub grows : m ≤ tail
  pub places : (t : ℕ) → m ≤ t → t < tail → (get_or log t 0 < length row) × Unstruck words (get_or log t 0)
  pub alone : (j : ℕ) → j < i → Unstruck words j → get_or row j 0 ≡ nobody → Between log m tail j
  pub counted : tail ≡ m + weight (unstruck_at nobody) words row i

-- Before the first turn there are none.
pub alone-none : (words row log : List ℕ) (m : ℕ) → Alone words row log log m m 0
alone-none words row log m = record {
  log_long = refl;
  kept = λ t h. refl;
  grows = omega arith;
  places = λ t h k. absurd (omega arith);
  alone = λ j h u e. absurd (omega arith);
  counted = omega arith;
}

module _ {words row before log : List ℕ} {m tail i : ℕ} (F : Fresh words row before m) (A : Alone words row before log m tail i) where
  -- The log never gets longer than there are places.
  pub alone-room : i ≤ length row → tail ≤ length row
  alone-room h =
      let a = two-counts nobody itself words row (λ e. absurd (omega (arith, e))) in
      let b = total-upto (λ j. unstruck_at nobody (get_or words j 0) (get_or row j 0)) i (length row) h in
      omega (arith, a, b, A.counted, F.log_is.count)

  -- Where one more place is without a witness, there is room for it.
  pub alone-inside : i < length row → Unstruck words i → get_or row i 0 ≡ nobody → tail < length log
  alone-inside h u e =
      let a = two-counts nobody itself words row (λ z. absurd (omega (arith, z))) in
      let b = total-upto (λ j. unstruck_at nobody (get_or words j 0) (get_or row j 0)) (suc i) (length row) (omega arith) in
      let c = weighs-most nobody (get_or words i 0) (get_or row i 0) e in
      omega (arith, a, b, c, u, A.counted, F.log_is.count, F.log_is.in-log, A.log_long)

  -- It is put behind the others.
  pub alone-more : i < length row → Unstruck words i → get_or row i 0 ≡ nobody → Alone words row before (set log tail i) m (tail + 1) (i + 1)
  alone-more h u e = record {
    log_long = length-set log tail i ∙ A.log_long;
    kept = λ t k. get_or-set_other log tail t i 0 (λ z. absurd (omega (arith, z, k, A.grows))) ∙ A.kept t k;
    grows = omega (arith, A.grows);
    places = λ t k l. place_at t k l (ℕ_discrete t tail);
    alone = λ j k v f. at j k v f (ℕ_discrete j i);
    counted = let c = weighs-most nobody (get_or words i 0) (get_or row i 0) e in
        let d : weight (unstruck_at nobody) words row (i + 1) ≡ weight (unstruck_at nobody) words row (suc i) =
        ap (λ (x : ℕ). weight (unstruck_at nobody) words row x)
        (add-one i) in
        omega (arith, c, d, u, A.counted);
  }
    where
      inside : tail < length log
      inside = alone-inside h u e

      place_at : (t : ℕ) → m ≤ t → t < tail + 1 → Dec (t ≡ tail) → (get_or (set log tail i) t 0 < length row)
          × Unstruck words (get_or (set log tail i) t 0)
      place_at t k l (yes q) =
          let z : get_or (set log tail i) t 0 ≡ i = ap (λ (x : ℕ). get_or (set log tail i) x 0) q ∙ get_or-set_same log tail i 0 inside in
          (omega (arith, z, h), ap (λ (x : ℕ). get_or words x 0) z ∙ u)
      place_at t k l (no q) =
          let z = get_or-set_other log tail t i 0 q in
          let p = A.places t k (omega arith) in
          let a = p.0 in
          (omega (arith, z, a), ap (λ (x : ℕ). get_or words x 0) z ∙ p.1)

      at : (j : ℕ) → j < i + 1 → Unstruck words j → get_or row j 0 ≡ nobody → Dec (j ≡ i) → Between (set log tail i) m (tail + 1) j
      at j k v f (yes q) = subst (λ (x : ℕ). Between (set log tail i) m (tail + 1) x) (sym q) (stands-now log m tail i A.grows inside)
      at j k v f (no q) = stands-still log m tail i j (A.alone j (omega arith) v f)

  -- One that is struck or has a witness is passed by.
  pub alone-past : (Unstruck words i → get_or row i 0 ≡ nobody → ⊥) → Alone words row before log m tail (i + 1)
  alone-past n = record {
    log_long = A.log_long;
    kept = A.kept;
    grows = A.grows;
    places = A.places;
    alone = λ j k v f. at j k v f (ℕ_discrete j i);
    counted = let c = nothing (ℕ_discrete (get_or row i 0) nobody) (ℕ_discrete (get_or words i 0) 0) in
        let d : weight (unstruck_at nobody) words row (i + 1) ≡ weight (unstruck_at nobody) words row (suc i) =
        ap (λ (x : ℕ). weight (unstruck_at nobody) words row x)
        (add-one i) in
        omega (arith, c, d, A.counted);
  }
    where
      nothing : Dec (get_or row i 0 ≡ nobody) → Dec (Unstruck words i) → unstruck_at nobody (get_or words i 0) (get_or row i 0) ≡ 0
      nothing (no q) p = weighs-none nobody (get_or words i 0) (get_or row i 0) q
      nothing (yes q) (yes p) = absurd (n p q)
      nothing (yes q) (no p) = let a = weighs-most nobody (get_or words i 0) (get_or row i 0) q in omega (arith, a, p)

      at : (j : ℕ) → j < i + 1 → Unstruck words j → get_or row j 0 ≡ nobody → Dec (j ≡ i) → Between log m tail j
      at j k v f (yes q) =
          absurd (n (subst (λ (x : ℕ). Unstruck words x) q v) (subst (λ (x : ℕ). get_or row x 0 ≡ nobody) q f))
      at j k v f (no q) = A.alone j (omega arith) v f

  -- When all are passed, they stand there, and those with a witness keep the promise themselves.
  pub alone-done : length row ≤ i → i ≤ length row → Loosened words row row before log m tail
  alone-done over most = record {
    long = refl;
    loses = λ j k. inl refl;
    hung = λ j k u n. (0, (k, u, own j k n (F.each j k)));
    log_long = A.log_long;
    kept = A.kept;
    grows = A.grows;
    within = alone-room most;
    places = A.places;
    alone = λ j k u e. A.alone j (omega arith) u e;
  }
    where
      own : (j : ℕ) → j < length row → (get_or row j 0 ≡ nobody → ⊥) → (get_or row j 0 ≡ nobody) ⊎ (get_or row j 0 ≡ itself)
          → get_or row j 0 ≡ itself
      own j k n (inl e) = absurd (n e)
      own j k n (inr e) = e

-- ---- falling

-- of the log's places from m up to g those without a witness have fallen
pub record Falling (row : List ℕ) (word : ℕ) (old words before log : List ℕ) (m end g : ℕ) : Type 0 where
  pub long : length words ≡ length old
  pub changed : (i : ℕ) → i < length row → (get_or words i 0 ≡ get_or old i 0)
      ⊎ (Unstruck old i × (get_or words i 0 ≡ word) × (get_or row i 0 ≡ nobody))
  pub rest : (i : ℕ) → length row ≤ i → get_or words i 0 ≡ get_or old i 0
  pub settled : (t : ℕ) → m ≤ t → t < g → Unstruck words (get_or before t 0) → get_or row (get_or before t 0) 0 ≡ nobody → ⊥
  pub log_long : length log ≡ length before
  pub kept : (t : ℕ) → t < m → get_or log t 0 ≡ get_or before t 0
  pub unread : (t : ℕ) → g ≤ t → get_or log t 0 ≡ get_or before t 0
  pub grows : m ≤ end
  pub behind : end ≤ g
  pub places : (t : ℕ) → t < end → get_or log t 0 < length row
  pub noted : (i : ℕ) → i < length row → Unstruck old i → (Unstruck words i → ⊥) → Between log m end i
  pub counted : end + free_in words (length row) ≡ length row

-- Before the first turn none has fallen.
pub falling-none : {words row log : List ℕ} {m tail word : ℕ} → Fallable words row log m tail word
    → Falling row word words words log log m m m
falling-none F = record {
  long = refl;
  changed = λ i h. inl refl;
  rest = λ i h. refl;
  settled = λ t h k. absurd (omega arith);
  log_long = refl;
  kept = λ t h. refl;
  unread = λ t h. refl;
  grows = omega arith;
  behind = omega arith;
  places = F.log_is.places;
  noted = λ i h u n. absurd (n u);
  counted = F.log_is.count;
}

module _ {row old words before log : List ℕ} {word m tail end g : ℕ} (F : Fallable old row before m tail word)
    (L : Falling row word old words before log m end g) where
  -- The place read at g.
  pub falling-place : m ≤ g → g < tail → get_or log g 0 < length row
  falling-place h k = let a = L.unread g (omega arith) in let b = F.places g h k in omega (arith, a, b)

  -- One that has no witness falls, and the log has it.
  pub falling-more : m ≤ g → g < tail → Unstruck words (get_or log g 0) → get_or row (get_or log g 0) 0 ≡ nobody
      → Falling row word old (set words (get_or log g 0) word) before (set log end (get_or log g 0)) m (end + 1) (g + 1)
  falling-more from inside u e = record {
    long = length-set words x word ∙ L.long;
    changed = λ i h. change-at i h (ℕ_discrete i x);
    rest = λ i h. get_or-set_other words x i word 0 (λ z. absurd (omega (arith, z, h, place))) ∙ L.rest i h;
    settled = λ t h k. settle-at t h k (ℕ_discrete (get_or before t 0) x);
    log_long = length-set log end x ∙ L.log_long;
    kept = λ t h. get_or-set_other log end t x 0 (λ z. absurd (omega (arith, z, h, L.grows))) ∙ L.kept t h;
    unread = λ t h. get_or-set_other log end t x 0 (λ z. absurd (omega (arith, z, h, L.behind))) ∙ L.unread t (omega arith);
    grows = omega (arith, L.grows);
    behind = omega (arith, L.behind);
    places = λ t h. place_at t h (ℕ_discrete t end);
    noted = λ i h v n. note-at i h v n (ℕ_discrete i x);
    counted = let t = total-set (λ z. 1 - z) words x word (length row) place in_words in omega (arith, t, u, F.some, L.counted);
  }
    where
      x : ℕ
      x = get_or log g 0

      place : get_or log g 0 < length row
      place = falling-place from inside

      in_words : get_or log g 0 < length words
      in_words = omega (arith, place, L.long, F.log_is.in_words)

      in-log : end < length log
      in-log = omega (arith, L.behind, inside, F.within, L.log_long)

      set_here : get_or (set words (get_or log g 0) word) (get_or log g 0) 0 ≡ word
      set_here = get_or-set_same words (get_or log g 0) word 0 in_words

      was_free : Unstruck old (get_or log g 0)
      was_free = by (L.changed (get_or log g 0) place)
        where
          by : (get_or words (get_or log g 0) 0 ≡ get_or old (get_or log g 0) 0)
              ⊎ (Unstruck old (get_or log g 0) × (get_or words (get_or log g 0) 0 ≡ word) × (get_or row (get_or log g 0) 0 ≡ nobody))
              → Unstruck old (get_or log g 0)
          by (inl s) = sym s ∙ u
          by (inr s) = s.0

      change-at : (i : ℕ) → i < length row → Dec (i ≡ get_or log g 0)
          → (get_or (set words (get_or log g 0) word) i 0 ≡ get_or old i 0)
          ⊎ (Unstruck old i × (get_or (set words (get_or log g 0) word) i 0 ≡ word) × (get_or row i 0 ≡ nobody))
      change-at i h (yes q) = subst (λ (y : ℕ). (get_or (set words (get_or log g 0) word) y 0 ≡ get_or old y 0)
          ⊎ (Unstruck old y × (get_or (set words (get_or log g 0) word) y 0 ≡ word) × (get_or row y 0 ≡ nobody))) (sym q)
          (inr (was_free, set_here, e))
      change-at i h (no q) = by (L.changed i h)
        where
          same : get_or (set words (get_or log g 0) word) i 0 ≡ get_or words i 0
          same = get_or-set_other words (get_or log g 0) i word 0 q

          by : (get_or words i 0 ≡ get_or old i 0) ⊎ (Unstruck old i × (get_or words i 0 ≡ word) × (get_or row i 0 ≡ nobody))
              → (get_or (set words (get_or log g 0) word) i 0 ≡ get_or old i 0)
              ⊎ (Unstruck old i × (get_or (set words (get_or log g 0) word) i 0 ≡ word) × (get_or row i 0 ≡ nobody))
          by (inl s) = inl (same ∙ s)
          by (inr s) = inr (s.0, same ∙ s.1, s.2)

      settle-at : (t : ℕ) → m ≤ t → t < g + 1 → Dec (get_or before t 0 ≡ get_or log g 0)
          → Unstruck (set words (get_or log g 0) word) (get_or before t 0) → get_or row (get_or before t 0) 0 ≡ nobody → ⊥
      settle-at t h k (yes q) z f =
          let a : get_or (set words (get_or log g 0) word) (get_or before t 0) 0 ≡ word = ap (λ (y : ℕ). get_or (set words (get_or log g 0) word) y 0)
          q ∙ set_here in
          absurd (omega (arith, a, z, F.some))
      settle-at t h k (no q) z f =
          let s = L.unread g (omega arith) in
          let apart : t ≡ g → ⊥ = λ y. q (ap (λ (v : ℕ). get_or before v 0) y ∙ sym s) in
          L.settled t h (omega (arith, k, apart)) (sym (get_or-set_other words (get_or log g 0) (get_or before t 0) word 0 q) ∙ z) f

      place_at : (t : ℕ) → t < end + 1 → Dec (t ≡ end) → get_or (set log end (get_or log g 0)) t 0 < length row
      place_at t h (yes q) =
          let z : get_or (set log end (get_or log g 0)) t 0 ≡ get_or log g 0 = ap (λ (y : ℕ). get_or (set log end (get_or log g 0)) y 0) q
          ∙ get_or-set_same log end (get_or log g 0) 0 in-log in
          omega (arith, z, place)
      place_at t h (no q) =
          let z = get_or-set_other log end t (get_or log g 0) 0 q in
          let a = L.places t (omega arith) in
          omega (arith, z, a)

      note-at : (i : ℕ) → i < length row → Unstruck old i → (Unstruck (set words (get_or log g 0) word) i → ⊥) → Dec (i ≡ get_or log g 0)
          → Between (set log end (get_or log g 0)) m (end + 1) i
      note-at i h v n (yes q) =
          subst (λ (y : ℕ). Between (set log end (get_or log g 0)) m (end + 1) y) (sym q)
          (stands-now log m end (get_or log g 0) L.grows in-log)
      note-at i h v n (no q) = stands-still log m end (get_or log g 0) i
          (L.noted i h v (λ z. n (get_or-set_other words (get_or log g 0) i word 0 q ∙ z)))

  -- One that has a witness, or was struck, is passed by.
  pub falling-past : (Unstruck words (get_or log g 0) → get_or row (get_or log g 0) 0 ≡ nobody → ⊥)
      → Falling row word old words before log m end (g + 1)
  falling-past n = record {
    long = L.long;
    changed = L.changed;
    rest = L.rest;
    settled = λ t h k. settle-at t h k (ℕ_discrete t g);
    log_long = L.log_long;
    kept = L.kept;
    unread = λ t h. L.unread t (omega arith);
    grows = L.grows;
    behind = omega (arith, L.behind);
    places = L.places;
    noted = L.noted;
    counted = L.counted;
  }
    where
      settle-at : (t : ℕ) → m ≤ t → t < g + 1 → Dec (t ≡ g) → Unstruck words (get_or before t 0) → get_or row (get_or before t 0) 0 ≡ nobody → ⊥
      settle-at t h k (yes q) z f =
          let s : get_or before t 0 ≡ get_or log g 0 = ap (λ (v : ℕ). get_or before v 0) q ∙ sym (L.unread g (omega arith)) in
          n (ap (λ (y : ℕ). get_or words y 0) (sym s) ∙ z) (ap (λ (y : ℕ). get_or row y 0) (sym s) ∙ f)
      settle-at t h k (no q) z f = L.settled t h (omega arith) z f

  -- When all are passed, exactly those without a witness have fallen.
  pub falling-done : tail ≤ g → FellTo row word old words before log m end
  falling-done over = record {
    long = L.long;
    each = λ i h. at i h (ℕ_discrete (get_or old i 0) 0) (L.changed i h);
    rest = L.rest;
    log_long = L.log_long;
    kept = L.kept;
    grows = L.grows;
    log_is = record {
      in_words = omega (arith, L.long, F.log_is.in_words);
      in-log = omega (arith, L.log_long, F.log_is.in-log);
      count = L.counted;
      places = L.places;
    };
    noted = L.noted;
  }
    where
      at : (i : ℕ) → i < length row → Dec (Unstruck old i)
          → (get_or words i 0 ≡ get_or old i 0) ⊎ (Unstruck old i × (get_or words i 0 ≡ word) × (get_or row i 0 ≡ nobody))
          → FallsAt word (get_or old i 0) (get_or words i 0) (get_or row i 0)
      at i h (yes q) (inl s) = keeps q (s ∙ q) (λ e. out e (F.alone i h q e))
        where
          out : get_or row i 0 ≡ nobody → Between before m tail i → ⊥
          out e t = L.settled t.0 t.1 (omega (arith, t.2, over)) (ap (λ (y : ℕ). get_or words y 0) t.3 ∙ s ∙ q)
              (ap (λ (y : ℕ). get_or row y 0) t.3 ∙ e)
      at i h d (inr s) = falls s.0 s.1 s.2
      at i h (no q) (inl s) = was q s
