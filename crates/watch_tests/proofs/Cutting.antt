-- Cutting off in one pass over all places: what the pass knows place by place, and that it goes on from where `loosen` stands.
-- Assumes nothing.
use mathlib.Core.Path.{◌≡◌, refl, sym, ap, subst, ◌∙◌}
use mathlib.Core.Logic.{◌⊎◌, inl, inr}
use mathlib.Core.Bool.{Bool, true, false}
use mathlib.Core.List.{List}
use Prim.Native.Nat.{ℕ, ◌+◌, ◌≤◌, ◌<◌}
use native.Mathlib.Decide.{ℕ_discrete}
use native.Mathlib.Omega.{arith}
use lib.ListN.{length, get_or, set, length-set}
use lib.Seq.{get_or-set_same, get_or-set_other}
use Rattle.ground.specs.Listed.{Between}
use Rattle.meaning.specs.Promises.{most_states}
use Rattle.distances.specs.Far.{Unstruck}
use Rattle.watch.specs.Witness.{nobody, free_in, Rested}
use Rattle.watch.specs.Turns.{weight, unstruck_at, count_met_at}
use Rattle.watch_tests.specs.Tests.{IsCut, Cuttable, CutBelow}
use Rattle.watch.proofs.Sums.{weighs-one, weighs-none, two-counts}
use Rattle.watch.proofs.Weights.{weight-turn, count_turn}
use Rattle.watch.proofs.Cuts.{cut-then}
use Rattle.watch.proofs.Loosening.{Loosening}

-- ---- the pass, place by place

-- At first nobody is cut off.
pub cut-none : (words row log : List ℕ) (n : ℕ) → CutBelow words row row log log n n 0
cut-none words row log n = record {
  long = refl;
  each = λ j h. inl refl;
  log_long = refl;
  kept = λ t h. refl;
  grows = omega arith;
  places = λ t h k. absurd (omega arith);
  alone = λ j h u e. inl e;
  past = λ j b. absurd (omega arith);
  counted = refl;
}

module _ {words old row before log : List ℕ} {n tail i : ℕ} (pre : Cuttable words old before n)
    (C : CutBelow words old row before log n tail i)
    (inside : i < length old) {b : Bool} (I : IsCut words row i b) where
  few : length old ≤ most_states
  few = pre.few

  -- A place that stays hangs on one that is not lost.
  pub cut-past : b ≡ false → CutBelow words old row before log n tail (i + 1)
  cut-past f = record {
    long = C.long;
    each = C.each;
    log_long = C.log_long;
    kept = C.kept;
    grows = C.grows;
    places = C.places;
    alone = C.alone;
    past = λ j k h u l. at j k h u l (ℕ_discrete j i);
    counted = C.counted;
  }
    where
      at : (j : ℕ) → j < i + 1 → j < length old → Unstruck words j → get_or row j 0 < length old → Dec (j ≡ i)
          → Unstruck words (get_or row j 0) × ((get_or row (get_or row j 0) 0 ≡ nobody → ⊥) ⊎ Between log n tail (get_or row j 0))
      at j k h u l (no q) = C.past j (omega arith) h u l
      at j k h u l (yes q) =
          subst (λ (x : ℕ). Unstruck words x → get_or row x 0 < length old
          → Unstruck words (get_or row x 0) × ((get_or row (get_or row x 0) 0 ≡ nobody → ⊥) ⊎ Between log n tail (get_or row x 0))) (sym q)
          (λ v m. let p = I.never f v (omega (arith, m, C.long)) in (p.0, inl p.1)) u l

  -- Where one is cut off there is room for it.
  pub cut-room : b ≡ true → (tail < length log) × (tail < most_states)
  cut-room t =
      let v = I.yes t in
      let u = v.0 in
      let l = v.1 in
      let a = two-counts nobody (get_or row i 0) words row (λ e. absurd (omega (arith, e, l, few, C.long))) in
      let c = count_turn words row i (get_or row i 0) nobody (length row) (omega (arith, inside, C.long)) (omega (arith, inside, C.long)) u
      refl
      (λ e. absurd (omega (arith, e, l, few, C.long))) in
      let d : free_in words (length row) ≡ free_in words (length old) = ap (λ (x : ℕ). free_in words x) C.long in
      let room : tail < length before = omega (arith, a, c, d, C.counted, pre.room) in
      (omega (arith, room, C.log_long), omega (arith, room, pre.log_few))

  -- It stands in the log then.
  pub cut-more : b ≡ true → CutBelow words old (set row i nobody) before (set log tail i) n (tail + 1) (i + 1)
  cut-more t = record {
    long = length-set row i nobody ∙ C.long;
    each = λ j h. each_at j h (ℕ_discrete j i);
    log_long = length-set log tail i ∙ C.log_long;
    kept = λ s h. get_or-set_other log tail s i 0 (λ e. omega (arith, e, h, C.grows)) ∙ C.kept s h;
    grows = omega (arith, C.grows);
    places = λ s h k. place_at s h k (ℕ_discrete s tail);
    alone = λ j h u e. alone_at j h u e (ℕ_discrete j i);
    past = λ j k h u l. past-at j k h u l (ℕ_discrete j i);
    counted = let w = weight-turn (unstruck_at nobody) words row i (get_or row i 0) nobody (length row) here here (I.yes t).0 refl in
        let one = weighs-one nobody in
        let none = weighs-none nobody 0 (get_or row i 0) other in
        let same : count_met_at nobody words (set row i nobody) ≡ weight (unstruck_at nobody) words (set row i nobody) (length row)
        = ap (λ (x : ℕ). weight (unstruck_at nobody) words (set row i nobody) x) (length-set row i nobody) in
        omega (arith, w, one, none, same, C.counted);
  }
    where
      here : i < length row
      here = omega (arith, inside, C.long)

      witness : get_or row i 0 < length row
      witness = (I.yes t).1

      other : get_or row i 0 ≡ nobody → ⊥
      other e = absurd (omega (arith, e, witness, few, C.long))

      room : tail < length log
      room = (cut-room t).0

      now-lost : get_or (set row i nobody) i 0 ≡ nobody
      now-lost = get_or-set_same row i nobody 0 here

      last : Between (set log tail i) n (tail + 1) i
      last = (tail, C.grows, omega arith, get_or-set_same log tail i 0 room)

      later : (j : ℕ) → Between log n tail j → Between (set log tail i) n (tail + 1) j
      later j s = (s.0, s.1, omega (arith, s.2), get_or-set_other log tail s.0 i 0 (λ e. omega (arith, e, s.2)) ∙ s.3)

      each_at : (j : ℕ) → j < length old → Dec (j ≡ i)
          → (get_or (set row i nobody) j 0 ≡ get_or old j 0) ⊎ ((get_or (set row i nobody) j 0 ≡ nobody) × (get_or old j 0 < length old))
      each_at j h (yes q) =
          inr (
            ap (λ (x : ℕ). get_or (set row i nobody) x 0) q ∙ now-lost,
            subst (λ (x : ℕ). get_or old x 0 < length old) (sym q)
                (was (C.each i inside)),
          )
        where
          was : (get_or row i 0 ≡ get_or old i 0) ⊎ ((get_or row i 0 ≡ nobody) × (get_or old i 0 < length old)) → get_or old i 0 < length old
          was (inl s) = omega (arith, s, witness, C.long)
          was (inr s) = s.1
      each_at j h (no q) = by (C.each j h)
        where
          by : (get_or row j 0 ≡ get_or old j 0) ⊎ ((get_or row j 0 ≡ nobody) × (get_or old j 0 < length old))
              → (get_or (set row i nobody) j 0 ≡ get_or old j 0) ⊎ ((get_or (set row i nobody) j 0 ≡ nobody) × (get_or old j 0 < length old))
          by (inl s) = inl (get_or-set_other row i j nobody 0 q ∙ s)
          by (inr s) = inr (get_or-set_other row i j nobody 0 q ∙ s.0, s.1)

      place_at : (s : ℕ) → n ≤ s → s < tail + 1 → Dec (s ≡ tail)
          → (get_or (set log tail i) s 0 < length old) × Unstruck words (get_or (set log tail i) s 0)
      place_at s h k (yes q) =
          let e : get_or (set log tail i) s 0 ≡ i = ap (λ (x : ℕ). get_or (set log tail i) x 0) q ∙ get_or-set_same log tail i 0 room in
          (omega (arith, e, inside), ap (λ (x : ℕ). get_or words x 0) e ∙ (I.yes t).0)
      place_at s h k (no q) =
          let e = get_or-set_other log tail s i 0 q in
          let p = C.places s h (omega arith) in
          let a = p.0 in
          (omega (arith, e, a), ap (λ (x : ℕ). get_or words x 0) e ∙ p.1)

      alone_at : (j : ℕ) → j < length old → Unstruck words j → get_or (set row i nobody) j 0 ≡ nobody → Dec (j ≡ i)
          → (get_or old j 0 ≡ nobody) ⊎ Between (set log tail i) n (tail + 1) j
      alone_at j h u e (yes q) = inr (subst (λ (x : ℕ). Between (set log tail i) n (tail + 1) x) (sym q) last)
      alone_at j h u e (no q) = by (C.alone j h u (sym (get_or-set_other row i j nobody 0 q) ∙ e))
        where
          by : (get_or old j 0 ≡ nobody) ⊎ Between log n tail j → (get_or old j 0 ≡ nobody) ⊎ Between (set log tail i) n (tail + 1) j
          by (inl s) = inl s
          by (inr s) = inr (later j s)

      -- a witness that is cut off now stands in the log
      held : (w : ℕ) → (get_or row w 0 ≡ nobody → ⊥) ⊎ Between log n tail w → Dec (w ≡ i)
          → (get_or (set row i nobody) w 0 ≡ nobody → ⊥) ⊎ Between (set log tail i) n (tail + 1) w
      held w s (yes q) = inr (subst (λ (x : ℕ). Between (set log tail i) n (tail + 1) x) (sym q) last)
      held w (inl s) (no q) = inl (λ e. s (sym (get_or-set_other row i w nobody 0 q) ∙ e))
      held w (inr s) (no q) = inr (later w s)

      past-at : (j : ℕ) → j < i + 1 → j < length old → Unstruck words j → get_or (set row i nobody) j 0 < length old → Dec (j ≡ i)
          → Unstruck words (get_or (set row i nobody) j 0)
          × ((get_or (set row i nobody) (get_or (set row i nobody) j 0) 0 ≡ nobody → ⊥) ⊎ Between (set log tail i) n (tail + 1)
          (get_or (set row i nobody) j 0))
      past-at j k h u l (yes q) =
          let e : get_or (set row i nobody) j 0 ≡ nobody = ap (λ (x : ℕ). get_or (set row i nobody) x 0) q ∙ now-lost in
          absurd (omega (arith, e, l, few))
      past-at j k h u l (no q) =
          let e = get_or-set_other row i j nobody 0 q in
          let p = C.past j (omega arith) h u (omega (arith, e, l)) in
          subst (λ (w : ℕ). (Unstruck words w) × ((get_or (set row i nobody) w 0 ≡ nobody → ⊥) ⊎ Between (set log tail i) n (tail + 1) w))
          (sym e)
          (p.0, held (get_or row j 0) p.1 (ℕ_discrete (get_or row j 0) i))

-- After the last place the pass is done.
pub cut-done : {words old row before log : List ℕ} {n tail i : ℕ} → length old ≤ i → CutBelow words old row before log n tail i
    → CutBelow words old row before log n tail (length old)
cut-done over C = record {
  long = C.long;
  each = C.each;
  log_long = C.log_long;
  kept = C.kept;
  grows = C.grows;
  places = C.places;
  alone = C.alone;
  past = λ j k h u l. C.past j (omega (arith, over, k)) h u l;
  counted = C.counted;
}

-- ---- where `loosen` stands

module _ {words old row before log : List ℕ} {M : ℕ → ℕ → Type 0} {from m tail h : ℕ} (R : Rested words old M before from m)
    (L : Loosening words old row before log m tail h) where
  -- After a pass all turns up to where it began are done.
  pub loosening-pass : {row' log' : List ℕ} {tail' : ℕ} → CutBelow words row row' log log' tail tail' (length row)
      → Loosening words old row' before log' m tail' tail
  loosening-pass {row' = row'} {log' = log'} {tail' = tail'} C = record {
    cut = cut-then L.cut (record {
      long = C.long;
      loses = C.each;
      log_long = C.log_long;
      kept = C.kept;
      grows = C.grows;
      places = C.places;
      alone = C.alone;
      counted = C.counted;
    });
    pending = λ i k u l.
        let p = C.past i (omega (arith, k, L.cut.long)) (omega (arith, k, L.cut.long)) u (omega (arith, l, L.cut.long)) in
        held i p p.1;
  }
    where
      held : (i : ℕ) → Unstruck words (get_or row' i 0)
          × ((get_or row' (get_or row' i 0) 0 ≡ nobody → ⊥) ⊎ Between log' tail tail' (get_or row' i 0))
          → (get_or row' (get_or row' i 0) 0 ≡ nobody → ⊥) ⊎ Between log' tail tail' (get_or row' i 0)
          → (Unstruck words (get_or row' i 0) × (get_or row' (get_or row' i 0) 0 ≡ nobody → ⊥)) ⊎ Between log' tail tail' (get_or row' i 0)
      held i p (inl n) = inl (p.0, n)
      held i p (inr s) = inr s
