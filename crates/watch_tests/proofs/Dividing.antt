-- Dividing the unstruck places before a promise's first phase: who has a witness stands in the line's front, who stands alone in the log
-- behind its first m. Assumes nothing.
use mathlib.Core.Path.{◌≡◌, refl, sym, ap, subst, ◌∙◌}
use mathlib.Core.List.{List}
use Prim.Native.Nat.{ℕ, ◌+◌, ◌≤◌, ◌<◌}
use native.Mathlib.Decide.{ℕ_discrete}
use native.Mathlib.Omega.{arith}
use lib.ListN.{length, get_or, set, length-set}
use lib.Seq.{get_or-set_same, get_or-set_other}
use Rattle.ground.specs.Listed.{Between}
use Rattle.meaning.specs.Promises.{most_states}
use Rattle.distances.specs.Far.{Unstruck}
use Rattle.watch.specs.Witness.{nobody, Fresh}
use Rattle.watch.specs.Turns.{Loosened, Line}
use Rattle.watch_tests.specs.Tests.{Fronted}
use Rattle.watch.proofs.Falling.{stands-still, Alone, alone-none, alone-inside, alone-more, alone-past, alone-done}

-- ---- those with a witness stand in front

-- At first nobody stands there.
pub fronted-none : (words row line : List ℕ) → Fronted words row 0 line line 0
fronted-none words row line = record {
  long = refl;
  room = omega arith;
  places = λ s h. absurd (omega arith);
  whole = λ j h. absurd (omega arith);
}

module _ {words row before line : List ℕ} {i k : ℕ} (F : Fronted words row i before line k) where
  -- One more is put behind the others.
  pub fronted-more : i < length line → Unstruck words i → (get_or row i 0 ≡ nobody → ⊥)
      → Fronted words row (i + 1) before (set line k i) (k + 1)
  fronted-more inside free has = record {
    long = length-set line k i ∙ F.long;
    room = let a = F.room in omega arith;
    places = λ s h. place_at s h (ℕ_discrete s k);
    whole = λ j h u o. at j h u o (ℕ_discrete j i);
  }
    where
      here : get_or (set line k i) k 0 ≡ i
      here = get_or-set_same line k i 0 (let a = F.room in omega arith)

      place_at : (s : ℕ) → s < k + 1 → Dec (s ≡ k)
          → (get_or (set line k i) s 0 < i + 1) × Unstruck words (get_or (set line k i) s 0)
          × (get_or row (get_or (set line k i) s 0) 0 ≡ nobody → ⊥)
      place_at s h (yes q) =
          let e : get_or (set line k i) s 0 ≡ i = ap (λ (x : ℕ). get_or (set line k i) x 0) q ∙ here in
          (omega arith, ap (λ (x : ℕ). get_or words x 0) e ∙ free, λ f. has (sym (ap (λ (x : ℕ). get_or row x 0) e) ∙ f))
      place_at s h (no q) =
          let e = get_or-set_other line k s i 0 q in
          let p = F.places s (omega arith) in
          let a = p.0 in
          (omega arith, ap (λ (x : ℕ). get_or words x 0) e ∙ p.1, λ f. p.2 (sym (ap (λ (x : ℕ). get_or row x 0) e) ∙ f))

      at : (j : ℕ) → j < i + 1 → Unstruck words j → (get_or row j 0 ≡ nobody → ⊥) → Dec (j ≡ i) → Between (set line k i) 0 (k + 1) j
      at j h u o (yes q) = (k, omega arith, omega arith, here ∙ sym q)
      at j h u o (no q) = stands-still line 0 k i j (F.whole j (omega arith) u o)

  -- One that is struck or stands alone is passed by.
  pub fronted-past : (Unstruck words i → (get_or row i 0 ≡ nobody → ⊥) → ⊥) → Fronted words row (i + 1) before line k
  fronted-past not_so = record {
    long = F.long;
    room = let a = F.room in omega arith;
    places = λ s h. let p = F.places s h in let a = p.0 in (omega arith, p.1, p.2);
    whole = λ j h u o. at j h u o (ℕ_discrete j i);
  }
    where
      at : (j : ℕ) → j < i + 1 → Unstruck words j → (get_or row j 0 ≡ nobody → ⊥) → Dec (j ≡ i) → Between line 0 k j
      at j h u o (yes q) =
          absurd (not_so (subst (λ (x : ℕ). Unstruck words x) q u) (λ f. o (ap (λ (x : ℕ). get_or row x 0) q ∙ f)))
      at j h u o (no q) = F.whole j (omega arith) u o

-- ---- both together

-- the first i places are divided: k of them stand in the line, and the log reaches up to `tail`
pub record Dividing (words row before log : List ℕ) (m tail : ℕ) (old line : List ℕ) (k i : ℕ) : Type 0 where
  pub within : i ≤ length row
  pub lone : Alone words row before log m tail i
  pub front : Fronted words row i old line k
  pub count : k + tail ≤ m + i

-- At first no place is divided.
pub dividing-none : (words row log : List ℕ) (m : ℕ) (line : List ℕ) → Dividing words row log log m m line line 0 0
dividing-none words row log m line = record {
  within = omega arith;
  lone = alone-none words row log m;
  front = fronted-none words row line;
  count = omega arith;
}

module _ {words row before log : List ℕ} {m tail : ℕ} {old line : List ℕ} {k i : ℕ} (F : Fresh words row before m)
    (D : Dividing words row before log m tail old line k i) where
  -- The line has room for the place, and the log if it stands alone.
  pub dividing-front : Line row old → i < length row → (k < length line) × (k < most_states) × (i < most_states)
  dividing-front K inside =
      let a = D.front.room in
      let b = D.front.long in
      let c = K.in_line in
      let d = F.few in
      (omega arith, omega arith, omega arith)

  pub dividing-room : length before ≤ most_states → i < length row → Unstruck words i → get_or row i 0 ≡ nobody → (tail < length log)
      × (tail < most_states)
  dividing-room most inside u e =
      let a = alone-inside F D.lone inside u e in
      let b = D.lone.log_long in
      (a, omega arith)

  module _ (inside : i < length row) where
    -- One that stands alone is put into the log,
    pub dividing-lone : Unstruck words i → get_or row i 0 ≡ nobody → Dividing words row before (set log tail i) m (tail + 1) old line k
        (i + 1)
    dividing-lone u e = record {
      within = omega arith;
      lone = alone-more F D.lone inside u e;
      front = fronted-past D.front (λ v n. n e);
      count = let a = D.count in omega arith;
    }

    -- one that has a witness into the line,
    pub dividing-helped : Line row old → Unstruck words i → (get_or row i 0 ≡ nobody → ⊥)
        → Dividing words row before log m tail old (set line k i) (k + 1) (i + 1)
    dividing-helped K u n = record {
      within = omega arith;
      lone = alone-past F D.lone (λ v e. n e);
      front = fronted-more D.front (let b = D.front.long in let c = K.in_line in omega arith) u n;
      count = let a = D.count in omega arith;
    }

    -- and one that is struck is passed by.
    pub dividing-struck : (Unstruck words i → ⊥) → Dividing words row before log m tail old line k (i + 1)
    dividing-struck n = record {
      within = omega arith;
      lone = alone-past F D.lone (λ v e. n v);
      front = fronted-past D.front (λ v o. n v);
      count = let a = D.count in omega arith;
    }

  -- When all are passed, all unstruck places stand in the line or in the log.
  pub dividing-done : length row ≤ i → Loosened words row row before log m tail × Fronted words row (length row) old line k
      × (k + tail ≤ m + length row)
  dividing-done over =
      let a = D.within in
      let e : i ≡ length row = omega arith in
      let b = D.count in (
        alone-done F D.lone over D.within,
        subst (λ (x : ℕ). Fronted words row x old line k) e D.front,
        omega arith,
      )
