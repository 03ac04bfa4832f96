-- Cutting off, whoever does it: places lose their witness and join the log behind its first m. One cut after another is one (cut-then), a
-- redirection to nobody is one (cut-redirected); where all were helped before, those without a witness stand in the log (cut-alone), and it
-- has room for more (cut-within, cut-turn). Assumes nothing.
use mathlib.Core.Path.{◌≡◌, refl, sym, ap, subst, ◌∙◌}
use mathlib.Core.Logic.{◌⊎◌, inl, inr}
use mathlib.Core.List.{List}
use Prim.Native.Nat.{ℕ, ◌+◌, ◌-◌, ◌*◌, ◌≤◌, ◌<◌}
use native.Mathlib.Decide.{dec_lt}
use native.Mathlib.Omega.{arith}
use lib.ListN.{length, get_or}
use Rattle.ground.specs.Listed.{Between}
use Rattle.meaning.specs.Promises.{most_states}
use Rattle.distances.specs.Far.{Unstruck}
use Rattle.watch.specs.Witness.{nobody, itself, free_in, Log}
use Rattle.watch.specs.Turns.{weight, unstruck_at, count_met_at, Turnable, Redirects, turns, stays, Redirected}
use Rattle.watch.proofs.Sums.{weighs-one, weighs-none, two-counts, none-counts}

-- a place is cut off or as it was
abbrev pub Loses : (old row : List ℕ) (i : ℕ) → Type 0
Loses old row i = (get_or row i 0 ≡ get_or old i 0) ⊎ ((get_or row i 0 ≡ nobody) × (get_or old i 0 < length old))

-- some places are cut off and stand in the log from m up to `tail`, and all else is as it was
pub record Cut (words old row before log : List ℕ) (m tail : ℕ) : Type 0 where
  pub long : length row ≡ length old
  pub loses : (i : ℕ) → i < length old → Loses old row i
  pub log_long : length log ≡ length before
  pub kept : (t : ℕ) → t < m → get_or log t 0 ≡ get_or before t 0
  pub grows : m ≤ tail
  pub places : (t : ℕ) → m ≤ t → t < tail → (get_or log t 0 < length old) × Unstruck words (get_or log t 0)
  pub alone : (i : ℕ) → i < length old → Unstruck words i → get_or row i 0 ≡ nobody → (get_or old i 0 ≡ nobody) ⊎ Between log m tail i
  pub counted : tail + count_met_at nobody words old ≡ m + count_met_at nobody words row

-- At first nobody is.
pub cut-none : (words row log : List ℕ) (m : ℕ) → Cut words row row log log m m
cut-none words row log m = record {
  long = refl;
  loses = λ i h. inl refl;
  log_long = refl;
  kept = λ t h. refl;
  grows = omega arith;
  places = λ t h k. absurd (omega arith);
  alone = λ i h u e. inl e;
  counted = refl;
}

-- Some, and then some more.
pub cut-then : {words old mid row before log₁ log : List ℕ} {m n tail : ℕ} → Cut words old mid before log₁ m n
    → Cut words mid row log₁ log n tail
    → Cut words old row before log m tail
cut-then {words} {old} {mid} {row} {log₁ = log₁} {log = log} {m = m} {n = n} {tail = tail} X Y = record {
  long = Y.long ∙ X.long;
  loses = λ i h. loses-at i (Y.loses i (omega (arith, h, X.long))) (X.loses i h);
  log_long = Y.log_long ∙ X.log_long;
  kept = λ t h. Y.kept t (omega (arith, h, X.grows)) ∙ X.kept t h;
  grows = omega (arith, X.grows, Y.grows);
  places = λ t h k. place_at t h k (dec_lt t n);
  alone = λ i h u e. alone_at i (Y.alone i (omega (arith, h, X.long)) u e) (X.alone i h u);
  counted = omega (arith, X.counted, Y.counted);
}
  where
    loses-at : (i : ℕ) → Loses mid row i → Loses old mid i → Loses old row i
    loses-at i (inl e) (inl s) = inl (e ∙ s)
    loses-at i (inl e) (inr s) = inr (e ∙ s.0, s.1)
    loses-at i (inr e) (inl s) = let l = e.1 in inr (e.0, omega (arith, l, s, X.long))
    loses-at i (inr e) (inr s) = inr (e.0, s.1)

    place_at : (t : ℕ) → m ≤ t → t < tail → Dec (t < n) → (get_or log t 0 < length old) × Unstruck words (get_or log t 0)
    place_at t h k (yes q) =
        let e = Y.kept t q in
        let p = X.places t h q in
        let a = p.0 in
        (omega (arith, a, e), ap (λ (x : ℕ). get_or words x 0) e ∙ p.1)
    place_at t h k (no q) = let p = Y.places t (omega arith) k in let a = p.0 in (omega (arith, a, X.long), p.1)

    earlier : (i : ℕ) → (get_or old i 0 ≡ nobody) ⊎ Between log₁ m n i → (get_or old i 0 ≡ nobody) ⊎ Between log m tail i
    earlier i (inl e) = inl e
    earlier i (inr s) = inr (s.0, s.1, omega (arith, s.2, Y.grows), Y.kept s.0 s.2 ∙ s.3)

    alone_at : (i : ℕ) → (get_or mid i 0 ≡ nobody) ⊎ Between log n tail i
        → (get_or mid i 0 ≡ nobody → (get_or old i 0 ≡ nobody) ⊎ Between log₁ m n i)
        → (get_or old i 0 ≡ nobody) ⊎ Between log m tail i
    alone_at i (inl e) first = earlier i (first e)
    alone_at i (inr s) first = inr (s.0, omega (arith, s.1, X.grows), s.2, s.3)

-- Those that hung on a place are redirected to nobody.
pub cut-redirected : {P : ℕ → Type 0} {words row row' log log' : List ℕ} {place tail tail' : ℕ} → place < length row
    → length row ≤ most_states
    → Redirected P words place nobody row row' tail log log' tail' → Cut words row row' log log' tail tail'
cut-redirected {P = P} {words = words} {row = row} {row' = row'} {log' = log'} {place = place} {tail = tail} {tail' = tail'} inside few T =
    record {
      long = T.long;
      loses = λ i h. loses-at i (T.each i h);
      log_long = T.line_long;
      kept = T.kept;
      grows = T.grows;
      places = λ t h k. let p = T.added t h k in (p.0, p.1);
      alone = λ i h u e. alone_at i h u e (T.each i h);
      counted = let w = T.weighs (unstruck_at nobody) in
          let one = weighs-one nobody in
          let none = weighs-none nobody 0 place (λ e. absurd (omega (arith, e, inside, few))) in
          let f : (tail' - tail) * unstruck_at nobody 0 place ≡ (tail' - tail) * 0 = ap (λ (x : ℕ). (tail' - tail) * x) none in
          let g : (tail' - tail) * unstruck_at nobody 0 nobody ≡ (tail' - tail) * 1 = ap (λ (x : ℕ). (tail' - tail) * x) one in
          let n : count_met_at nobody words row' ≡ weight (unstruck_at nobody) words row' (length row) =
          ap (λ (x : ℕ). weight (unstruck_at nobody) words row' x) T.long in
          omega (arith, w, f, g, n, T.grows);
    }
  where
    loses-at : (i : ℕ) → Redirects (P i) (get_or words i 0) place nobody (get_or row i 0) (get_or row' i 0) → Loses row row' i
    loses-at i (turns p u e f) = inr (f, omega (arith, e, inside))
    loses-at i (stays e n) = inl e

    alone_at : (i : ℕ) → i < length row → Unstruck words i → get_or row' i 0 ≡ nobody
        → Redirects (P i) (get_or words i 0) place nobody (get_or row i 0) (get_or row' i 0)
        → (get_or row i 0 ≡ nobody) ⊎ Between log' tail tail' i
    alone_at i h u e (turns p v been f) = inr (T.whole i h u been e)
    alone_at i h u e (stays same n) = inl (sym same ∙ e)

-- who stood in the log from h on, and not at h, stands in it behind h
pub cut-behind : (log log' : List ℕ) (h e e' j : ℕ) → ((t : ℕ) → t < e → get_or log' t 0 ≡ get_or log t 0) → e ≤ e' → (s : Between log h e j)
    → (s.0 ≡ h → ⊥) → Between log' (h + 1) e' j
cut-behind log log' h e e' j kept more s other = (s.0, omega (arith, s.1, other), omega (arith, s.2, more), kept s.0 s.2 ∙ s.3)

-- ---- from a row in which all were helped

module _ {words old row before log : List ℕ} {m tail : ℕ} (G : Log words (length old) before m)
    (helped : (i : ℕ) → i < length old → Unstruck words i → get_or old i 0 ≡ nobody → ⊥) (C : Cut words old row before log m tail) where
  -- Those without a witness stand in the log.
  pub cut-alone : (i : ℕ) → i < length old → Unstruck words i → get_or row i 0 ≡ nobody → Between log m tail i
  cut-alone i h u e = by (C.alone i h u e)
    where
      by : (get_or old i 0 ≡ nobody) ⊎ Between log m tail i → Between log m tail i
      by (inl x) = absurd (helped i h u x)
      by (inr s) = s

  -- as many as joined the log
  pub cut-count : tail ≡ m + count_met_at nobody words row
  cut-count = let z = none-counts nobody words old helped in omega (arith, z, C.counted)

  free-same : free_in words (length row) ≡ free_in words (length old)
  free-same = ap (λ (n : ℕ). free_in words n) C.long

  -- There are no more places in the log than there are.
  pub cut-within : tail ≤ length old
  cut-within =
      let a = two-counts nobody itself words row (λ e. absurd (omega (arith, e))) in
      omega (arith, a, free-same, G.count, cut-count)

  -- A place that was struck before is one.
  pub cut-place : {h : ℕ} → h < m → get_or log h 0 < length old
  cut-place {h = h} q = let a = C.kept h q in let b = G.places h q in omega (arith, a, b)

  -- Those that hang on a place may be redirected.
  pub cut-turn : {place : ℕ} → place < length old → length old ≤ most_states → length before ≤ most_states
      → Turnable words row place nobody log tail
  cut-turn {place = place} inside few most = record {
    few = omega (arith, few, C.long);
    in_words = omega (arith, C.long, G.in_words);
    apart = λ e. absurd (omega (arith, e, inside, few));
    room = let a = two-counts nobody place words row (λ e. absurd (omega (arith, e, inside, few))) in
        omega (arith, a, free-same, G.count, cut-count, C.log_long, G.in-log);
    line_few = omega (arith, C.log_long, most);
  }

  -- Who still has a number moves to it as before.
  pub cut-leads : (M : ℕ → ℕ → Type 0) → length old ≤ most_states
      → ((i : ℕ) → i < length old → get_or old i 0 < length old → M i (get_or old i 0))
      → (i : ℕ) → i < length old → get_or row i 0 < length old → M i (get_or row i 0)
  cut-leads M few leads i h l = by (C.loses i h)
    where
      by : Loses old row i → M i (get_or row i 0)
      by (inl s) = subst (M i) (sym s) (leads i h (omega (arith, s, l)))
      by (inr s) = absurd (omega (arith, s.0, l, few))
