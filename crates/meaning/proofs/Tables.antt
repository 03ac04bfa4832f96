-- The meaning's notions as tests that compute, over any system with tests for its first states, moves and promises and with states below
-- a bound: reachable, left before a phase, struck, livable (what is left before a quiet phase), distance, and the papers. A strike list
-- and a sample run are then found to be so by computing (`strike-list-tested`, `run-paper-tested`). A sheet's system has such tests
-- (`tests-of`). Assumes nothing.
use mathlib.Core.Path.{◌≡◌, sym, ◌∙◌, ap}
use mathlib.Core.Bool.{cond}
use mathlib.Core.Logic.{◌⊎◌, inl, inr}
use mathlib.Core.List.{List}
use Prim.Native.Nat.{ℕ, zero, suc, ◌+◌, ◌-◌, ◌*◌, ◌/◌, ◌%◌, ◌^◌, ◌≤◌, ◌<◌}
use native.Mathlib.Decide.{dec_le}
use native.Mathlib.Omega.{arith}
use lib.Dec.{T, ltb}
use lib.ListN.{length, get_or}
use Rattle.meaning.specs.System.{System, ReachedIn, Reachable, Livable, In}
use Rattle.meaning.specs.Strike.{Way, SavedBy, Left, Struck, reason_of, word_of, StrikeList}
use Rattle.meaning.specs.Sample.{Met, Distance, next_aim, Passes, Best, RunPaper}
use Rattle.meaning.specs.Papers.{place}
use Rattle.meaning.specs.Sheet.{Sheet}
use Rattle.meaning.specs.Rules.{first_state, moves, kept, system_of}
use Rattle.meaning.proofs.Places.{place-below, place-early, place-turns}
use Rattle.meaning.proofs.Rounds.{Quiet, quiet-left-is-livable}
use Rattle.meaning.proofs.Parts.{lawful-below, first-parts, move-parts}
use Rattle.meaning.proofs.Tests.{Test, bool?, as?, same?, le?, both?, either?, none?, if?, each?, any?, in?, Steps, steps?}
use Rattle.meaning.proofs.Tests.{sometime?}

-- after the last place comes a
place-whole : (a b : ℕ) → a < b → place a b b ≡ a
place-whole a zero h = omega arith
place-whole a (suc b) h = place-turns a (suc b) b (omega (arith, place-early a (suc b) b (omega arith)))

-- tests for a system whose states lie below a bound
pub record Testable (S : System) : Type 0 where
  pub bound : ℕ
  pub first_below : (s : ℕ) → S.First s → s < bound
  pub move-below : (s t : ℕ) → S.Move s t → (s < bound) × (t < bound)
  pub first? : (s : ℕ) → Test (S.First s)
  pub move? : (s t : ℕ) → Test (S.Move s t)
  pub kept? : (k s : ℕ) → Test (S.Kept k s)

module _ {S : System} (F : Testable S) where
  -- ---- reachable states

  reached-steps : (n s : ℕ) → ReachedIn S n s → Steps (λ s r. S.Move r s) S.First n s
  reached-steps zero s w = w
  reached-steps (suc n) s (r, w, m) = (r, m, reached-steps n r w)

  steps-reached : (n s : ℕ) → Steps (λ s r. S.Move r s) S.First n s → ReachedIn S n s
  steps-reached zero s w = w
  steps-reached (suc n) s (r, m, w) = (r, steps-reached n r w, m)

  unfoldable pub reachable? : (s : ℕ) → Test (Reachable S s)
  unfolding sometime? as? reached-steps steps-reached
  reachable? s = as? (λ (n, w). (n, steps-reached n s w)) (λ (n, w). (n, reached-steps n s w))
      (sometime? (λ s r. F.move? r s) F.first? F.bound (λ s r m. ((F.move-below r s m).1, (F.move-below r s m).0)) s)

  reached-below : (n s : ℕ) → ReachedIn S n s → s < F.bound
  reached-below zero s w = F.first_below s w
  reached-below (suc n) s (r, w, m) = (F.move-below r s m).1

  -- ---- paths through U, which lies below the bound

  module _ {U G : ℕ → Type 0} (u? : (s : ℕ) → Test (U s)) (g? : (s : ℕ) → Test (G s)) (below : (s : ℕ) → U s → s < F.bound) where
    way-steps : (n s : ℕ) → Way S U G n s → Steps (λ s t. U s × S.Move s t) (λ s. U s × G s) n s
    way-steps zero s w = w
    way-steps (suc n) s (u, (t, m, w)) = (t, (u, m), way-steps n t w)

    steps-way : (n s : ℕ) → Steps (λ s t. U s × S.Move s t) (λ s. U s × G s) n s → Way S U G n s
    steps-way zero s w = w
    steps-way (suc n) s (t, (u, m), w) = (u, (t, m, steps-way n t w))

    unfoldable pub through? : (s t : ℕ) → Test (U s × S.Move s t)
    unfolding both?
    through? s t = both? (u? s) (F.move? s t)

    unfoldable pub goal? : (s : ℕ) → Test (U s × G s)
    unfolding both?
    goal? s = both? (u? s) (g? s)

    pub through-below : (s t : ℕ) → U s × S.Move s t → (s < F.bound) × (t < F.bound)
    through-below s t (u, m) = (below s u, (F.move-below s t m).1)

    -- a way of n moves
    unfoldable pub way? : (n s : ℕ) → Test (Way S U G n s)
    unfolding steps? through? goal? as? way-steps steps-way
    way? n s = as? (steps-way n s) (way-steps n s) (steps? through? goal? F.bound through-below n s)

    -- a way of any number of moves
    unfoldable pub some-way? : (s : ℕ) → Test ((n : ℕ) × Way S U G n s)
    unfolding sometime? through? goal? as? way-steps steps-way
    some-way? s = as? (λ (n, w). (n, steps-way n s w)) (λ (n, w). (n, way-steps n s w))
        (sometime? through? goal? F.bound through-below s)

  -- ---- phases

  unfoldable pub saved? : {U : ℕ → Type 0} → ((s : ℕ) → Test (U s)) → ((s : ℕ) → U s → s < F.bound) → (r s : ℕ) → Test (SavedBy S U r s)
  unfolding some-way? any? both? as?
  saved? u? below zero s =
      as? (λ (t, h, w). (t, w.0, w.1)) (λ (t, m, u). (t, (F.move-below s t m).1, (m, u)))
      (any? F.bound (λ t. both? (F.move? s t) (u? t)))
  saved? u? below (suc k) s = some-way? u? (F.kept? k) below s

  -- What is left before a phase lies below the bound.
  pub left_below : (n s : ℕ) → Left S n s → s < F.bound
  left_below zero s (n, w) = reached-below n s w
  left_below (suc n) s l = left_below n s l.0

  unfoldable pub left? : (n s : ℕ) → Test (Left S n s)
  unfolding reachable? saved? both?
  left? zero s = reachable? s
  left? (suc n) s = both? (left? n s) (saved? (left? n) (left_below n) (reason_of S n) s)

  unfoldable pub struck? : (n s : ℕ) → Test (Struck S n s)
  unfolding left? saved? both? none?
  struck? n s = both? (left? n s) (none? (saved? (left? n) (left_below n) (reason_of S n) s))

  -- the phase that gives a word
  abbrev pub phase_of : ℕ → ℕ
  phase_of w = (w / 32 - 1) * suc S.promises + w % 32

  -- what is tested of a strike list
  abbrev pub StrikesRight : List ℕ → List ℕ → Type 0
  StrikesRight states words =
      (length words ≡ length states)
      × (((i : ℕ) → i < length states → suc (suc i) ≤ length states
      → (get_or words i 0 < get_or words (suc i) 0) ⊎ ((get_or words i 0 ≡ get_or words (suc i) 0) × (get_or states i 0 < get_or states (suc i) 0)))
      × (((i : ℕ) → i < length states
      → Struck S (phase_of (get_or words i 0)) (get_or states i 0) × (get_or words i 0 ≡ word_of S (phase_of (get_or words i 0))))
      × ((s : ℕ) → s < F.bound → Reachable S s → In states s)))

  unfoldable pub strikes? : (states words : List ℕ) → Test (StrikesRight states words)
  unfolding both? same? each? if? le? either? struck? reachable? in?
  strikes? states words =
      both? (same? (length words) (length states))
      (both? (each? (length states) (λ i. if? (le? (suc (suc i)) (length states))
      (either? (le? (suc (get_or words i 0)) (get_or words (suc i) 0))
      (both? (same? (get_or words i 0) (get_or words (suc i) 0)) (le? (suc (get_or states i 0)) (get_or states (suc i) 0))))))
      (both? (each? (length states) (λ i. both? (struck? (phase_of (get_or words i 0)) (get_or states i 0))
      (same? (get_or words i 0) (word_of S (phase_of (get_or words i 0))))))
      (each? F.bound (λ s. if? (reachable? s) (in? states s)))))

  -- A list that passes is the strike list.
  pub strike-list-tested : (states words : List ℕ) → T (strikes? states words).says → StrikeList S states words
  strike-list-tested states words x =
      let w = (strikes? states words).sound x in
      record {
        as_many = w.0;
        ordered = λ i h. w.1.0 i (omega arith) h;
        struck = λ i h. (phase_of (get_or words i 0), (w.1.1.0 i h).0, (w.1.1.0 i h).1);
        whole = λ s (n, r). w.1.1.1 s (reached-below n s r) (n, r);
      }

  -- ---- livable states, from a quiet phase on

  -- phase n begins a round that strikes nothing
  unfoldable pub quiet? : (n : ℕ) → Test (Quiet S n)
  unfolding each? if? left? as?
  quiet? n = as? (λ f s l. f s (left_below n s l) l) (λ f s h. f s)
      (each? F.bound (λ s. if? (left? n s) (left? (suc S.promises + n) s)))

  module _ (n : ℕ) (quiet : Quiet S n) where
    unfoldable pub livable? : (s : ℕ) → Test (Livable S s)
    unfolding left? as?
    livable? s = as? (quiet-left-is-livable n quiet s).0 (quiet-left-is-livable n quiet s).1 (left? n s)

    -- Livable states lie below the bound.
    pub livable-below : (s : ℕ) → Livable S s → s < F.bound
    livable-below s l = left_below n s ((quiet-left-is-livable n quiet s).1 l)

    unfoldable pub met? : (k s : ℕ) → Test (Met S k s)
    unfolding either? same?
    met? k s = either? (same? S.promises 0) (F.kept? k s)

    -- a path to the aim through livable states
    unfoldable pub aimed? : (k m s : ℕ) → Test (Way S (Livable S) (Met S k) m s)
    unfolding way? livable? met?
    aimed? k m s = way? livable? (met? k) livable-below m s

    unfoldable pub distance? : (k d s : ℕ) → Test (Distance S k d s)
    unfolding aimed? both? each? none? as?
    distance? k d s = as?
        (λ w. record { way = w.0; fewest = λ m v. by w.1 m v (dec_le d m) })
        (λ D. (D.way, λ m h v. absurd (omega (arith, D.fewest m v))))
        (both? (aimed? k d s) (each? d (λ m. none? (aimed? k m s))))
      where
        by : ((m : ℕ) → m < d → Way S (Livable S) (Met S k) m s → ⊥) → (m : ℕ) → Way S (Livable S) (Met S k) m s → Dec (d ≤ m) → d ≤ m
        by f m v (yes h) = h
        by f m v (no h) = absurd (f m (omega arith) v)

    -- what is tested of a best move: t is `far` away, no next state is nearer, and of those as near t is the least
    abbrev pub BestAt : (k s t far : ℕ) → Type 0
    BestAt k s t far =
        (S.Move s t × (Livable S t × Distance S k far t))
        × ((u : ℕ) → u < F.bound → (d : ℕ) → d < suc far → S.Move s u × (Livable S u × Distance S k d u) → (far ≡ d) × (t ≤ u))

    unfoldable pub best? : (k s t : ℕ) → Test ((far : ℕ) × (far < F.bound) × BestAt k s t far)
    unfolding any? both? each? if? livable? distance? same? le?
    best? k s t = any? F.bound (λ far. both?
        (both? (F.move? s t) (both? (livable? t) (distance? k far t)))
        (each? F.bound (λ u. each? (suc far) (λ d.
        if? (both? (F.move? s u) (both? (livable? u) (distance? k d u))) (both? (same? far d) (le? t u))))))

    -- a move that passes is the best
    best-tested : (k s t far : ℕ) → BestAt k s t far → Best S k s t
    best-tested k s t far (w, f) = record {
      move = w.0;
      livable = w.1.0;
      far = far;
      distance = w.1.1;
      nearest = λ u d m l D. by u d m l D (dec_le d far);
    }
      where
        by : (u d : ℕ) → S.Move s u → Livable S u → Distance S k d u → Dec (d ≤ far) → (far < d) ⊎ ((far ≡ d) × (t ≤ u))
        by u d m l D (yes h) = inr (f u (F.move-below s u m).1 d (omega arith) (m, (l, D)))
        by u d m l D (no h) = inl (omega arith)

    unfoldable pub passes? : (k s k' : ℕ) → Test (Passes S k s k')
    unfolding either? both? none? met? same?
    passes? k s k' = either? (both? (met? k s) (same? k' (next_aim S k))) (both? (none? (met? k s)) (same? k' k))

    -- ---- the sample run, from its states, its aims on arrival and a

    module _ (states aims : List ℕ) (a : ℕ) where
      abbrev pub state_at : ℕ → ℕ
      state_at i = get_or states i 0

      abbrev pub aim_at : ℕ → ℕ
      aim_at i = get_or aims i 0

      -- the place read after place i
      abbrev pub after : ℕ → ℕ
      after i = cond (ltb (suc i) (length states)) (suc i) a

      -- what is tested of a paper
      abbrev pub PaperRight : Type 0
      PaperRight =
          (a < length states)
          × (((S.First (state_at 0) × Livable S (state_at 0))
          × (((s : ℕ) → s < F.bound → S.First s × Livable S s → state_at 0 ≤ s) × (aim_at 0 ≡ 0)))
          × (((i : ℕ) → i < length states
          → Passes S (aim_at i) (state_at i) (aim_at (after i))
          × ((far : ℕ) × (far < F.bound) × BestAt (aim_at (after i)) (state_at i) (state_at (after i)) far))
          × ((j : ℕ) → j < length states → (i : ℕ) → i < j → (state_at i ≡ state_at j) × (aim_at i ≡ aim_at j) → ⊥)))

      unfoldable pub paper? : Test PaperRight
      unfolding both? le? livable? each? if? same? passes? best? none?
      paper? =
          both? (le? (suc a) (length states))
          (both? (both? (both? (F.first? (state_at 0)) (livable? (state_at 0)))
          (both? (each? F.bound (λ s. if? (both? (F.first? s) (livable? s)) (le? (state_at 0) s))) (same? (aim_at 0) 0)))
          (both? (each? (length states) (λ i.
          both? (passes? (aim_at i) (state_at i) (aim_at (after i))) (best? (aim_at (after i)) (state_at i) (state_at (after i)))))
          (each? (length states) (λ j. each? j (λ i. none? (both? (same? (state_at i) (state_at j)) (same? (aim_at i) (aim_at j))))))))

      -- A paper that passes is the sample run's.
      pub run-paper-tested : T paper?.says → RunPaper S states a
      run-paper-tested x =
          let w = paper?.sound x in
          let b = length states in
          let start = w.1.0 in
          let step = w.1.1.0 in
          let on : (i : ℕ) → place a b i < b = λ i. place-below a b i w.0 in
          let back : place a b b ≡ a = place-whole a b w.0 in
          let early : (i : ℕ) → i < b → i ≡ place a b i = λ i h. sym (place-early a b i h) in
          record {
            run = λ i. state_at (place a b i);
            aim = λ i. aim_at (place a b i);
            sample = record {
              first = start.0.0;
              livable = start.0.1;
              least = λ s f l. start.1.0 s (F.first_below s f) (f, l);
              aims_first = start.1.1;
              passes = λ i. (step (place a b i) (on i)).0;
              best = λ i. let v = (step (place a b i) (on i)).1 in best-tested (aim_at (after (place a b i))) _ _ v.0 v.2;
            };
            written = λ i h. ap state_at (early i h);
            back = w.0;
            same_state = ap state_at (back ∙ early a w.0);
            same-aim = ap aim_at (back ∙ early a w.0);
            no_earlier = λ i j h l p q. w.1.1.1 j l i h (
              ap state_at (early i (omega arith)) ∙ p ∙ sym (ap state_at (early j l)),
              ap aim_at (early i (omega arith)) ∙ q
                  ∙ sym (ap aim_at (early j l)),
            );
          }

-- ---- a sheet's system

-- A first state lies below it too.
pub first_below : (sheet : Sheet) (s : ℕ) → T (first_state sheet s) → s < 2 ^ sheet.letters
first_below sheet s x = lawful-below sheet s ((first-parts sheet s).0 x).0

-- A sheet's tests.
unfoldable pub tests-of : (sheet : Sheet) → Testable (system_of sheet)
unfolding system_of bool?
tests-of sheet = record {
  bound = 2 ^ sheet.letters;
  first_below = first_below sheet;
  move-below = λ s t m.
      let each = (move-parts sheet s t).0 m in (lawful-below sheet s each.0, lawful-below sheet t each.1);
  first? = λ s. bool? (first_state sheet s);
  move? = λ s t. bool? (moves sheet s t);
  kept? = λ k s. bool? (kept sheet k s);
}
