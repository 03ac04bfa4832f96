-- The sample run obeys, its paper is accepted, and the promise aimed at is kept as soon as any obeying run could keep it (demand 3, third
-- part), over any system. The paper's endless reading is the sample run. Assumes nothing.
use mathlib.Core.Path.{◌≡◌, refl, sym, ap, subst, subst₂, fun_ext, ◌∙◌}
use mathlib.Core.Logic.{◌⊎◌, inl, inr}
use mathlib.Core.List.{List}
use Prim.Native.Nat.{ℕ, zero, suc, ◌+◌, ◌-◌, ◌≤◌, ◌<◌}
use native.Mathlib.Decide.{dec_le, dec_lt}
use native.Mathlib.Nat.{add-zero}
use native.Mathlib.Omega.{arith}
use borrow.Author.Tests.{lt-ltb, le-ltb}
use lib.ListN.{length, get_or}
use Rattle.meaning.specs.System.{System, Run, Obeys, Livable}
use Rattle.meaning.specs.Strike.{Way}
use Rattle.meaning.specs.Sample.{Met, Distance, Best, Passes, next_aim, Sample, RunPaper}
use Rattle.meaning.specs.Papers.{RunAccepted, place, reading}
use Rattle.meaning.proofs.Unique.{distance-unique, passes-unique, sample-step-unique}
use Rattle.meaning.proofs.Places.{place-goes-on, place-turns, place-below, place-late}

-- ---- ways of livable states

-- Every state of an obeying run is livable.
pub obeying-livable : {S : System} {g : ℕ → ℕ} → Obeys S g → (i : ℕ) → Livable S (g i)
obeying-livable {g = g} o i = record { run = g; obeys = o; moment = i; there = refl }

-- An obeying run is a way of livable states to each of its later states.
pub obeying-way : {S : System} {g : ℕ → ℕ} → Obeys S g → (G : ℕ → Type 0) (e j : ℕ) → G (g (j + e)) → Way S (Livable S) G e (g j)
obeying-way {S} {g} o G zero j m = (obeying-livable o j, subst (λ (i : ℕ). G (g i)) (add-zero j) m)
obeying-way {S} {g} o G (suc e) j m = let on : j + suc e ≡ suc j + e = omega arith in
    (obeying-livable o j, (g (suc j), o.run.goes j, obeying-way o G e (suc j) (subst (λ (i : ℕ). G (g i)) on m)))

-- A way begins in its set.
pub way-starts : (S : System) (U G : ℕ → Type 0) (n s : ℕ) → Way S U G n s → U s
way-starts S U G zero s w = w.0
way-starts S U G (suc n) s w = w.0

-- ---- the best next state is on a shortest way

-- A next state's way that is shorter than the best one's would, at its shortest, be a distance.
no-shorter : {S : System} {k s t : ℕ} (x : Best S k s t) (u : ℕ) → S.Move s u
    → (n m : ℕ) → m < n → m < x.far → Way S (Livable S) (Met S k) m u → ⊥
no-shorter x u go zero m h q w = omega arith
no-shorter {S} {k} {t = t} x u go (suc n) m h q w = from (λ i p. no-shorter x u go n i (omega arith) (omega arith))
  where
    from : ((i : ℕ) → i < m → Way S (Livable S) (Met S k) i u → ⊥) → ⊥
    from none = by (x.nearest u m go (way-starts S (Livable S) (Met S k) m u w)
        (record { way = w; fewest = λ i v. fewest i v (dec_le m i) }))
      where
        fewest : (i : ℕ) → Way S (Livable S) (Met S k) i u → Dec (m ≤ i) → m ≤ i
        fewest i v (yes p) = p
        fewest i v (no p) = absurd (none i (omega arith) v)

        by : (x.far < m) ⊎ ((x.far ≡ m) × (t ≤ u)) → ⊥
        by (inl p) = omega arith
        by (inr p) = omega arith

-- No way from a next state is shorter than the best next state's.
pub best-nearest-way : {S : System} {k s t : ℕ} (x : Best S k s t) (u m : ℕ) → S.Move s u → Way S (Livable S) (Met S k) m u → x.far ≤ m
best-nearest-way x u m go w = by (dec_le x.far m)
  where
    by : Dec (x.far ≤ m) → x.far ≤ m
    by (yes h) = h
    by (no h) = absurd (no-shorter x u go (suc m) m (omega arith) (omega arith) w)

-- A state that does not meet the aim is one move farther from it than its best next state.
pub distance-before : {S : System} {k s t : ℕ} → Livable S s → (Met S k s → ⊥) → (x : Best S k s t) → Distance S k (suc x.far) s
distance-before {S} {k} {s} {t} l n x = record { way = (l, (t, x.move, x.distance.way)); fewest = fewest }
  where
    fewest : (m : ℕ) → Way S (Livable S) (Met S k) m s → suc x.far ≤ m
    fewest zero w = absurd (n w.1)
    fewest (suc m) w = omega (arith, best-nearest-way x w.1.0 m w.1.1 w.1.2)

-- ---- aims

-- With a promise at all, an aim that is met is a promise kept.
pub kept-of-met : (S : System) (k s : ℕ) → 1 ≤ S.promises → Met S k s → S.Kept k s
kept-of-met S k s h (inl e) = absurd (omega arith)
kept-of-met S k s h (inr q) = q

-- After an aim that is not the last comes the following one.
pub next-aim-on : (S : System) (k : ℕ) → suc k < S.promises → next_aim S k ≡ suc k
next-aim-on S k h = rw (lt-ltb (suc k) S.promises h)

-- After the last aim comes the first.
pub next-aim-back : (S : System) (k : ℕ) → S.promises ≤ suc k → next_aim S k ≡ 0
next-aim-back S k h = rw (le-ltb (suc k) S.promises h)

-- The next aim is a promise, or 0 where there is none.
pub next-aim-below : (S : System) (k : ℕ) → next_aim S k < suc (S.promises - 1)
next-aim-below S k = by (dec_lt (suc k) S.promises)
  where
    by : Dec (suc k < S.promises) → next_aim S k < suc (S.promises - 1)
    by (yes h) = rw (next-aim-on S k h) (omega arith)
    by (no h) = rw (next-aim-back S k (omega arith)) (omega arith)

-- ---- the sample run

module _ {S : System} {f aim : ℕ → ℕ} (x : Sample S f aim) where
  -- Every state of the sample run is livable.
  pub sample-livable : (i : ℕ) → Livable S (f i)
  sample-livable zero = x.livable
  sample-livable (suc i) = (x.best i).livable

  -- The sample run is a run.
  pub sample-runs : Run S f
  sample-runs = record { starts = x.first; goes = λ i. (x.best i).move }

  -- The aim stays below p, and is 0 where there are no promises.
  pub aim-below : (i : ℕ) → aim i < suc (S.promises - 1)
  aim-below zero = omega (arith, x.aims_first)
  aim-below (suc i) = by (x.passes i) (aim-below i)
    where
      by : Passes S (aim i) (f i) (aim (suc i)) → aim i < suc (S.promises - 1) → aim (suc i) < suc (S.promises - 1)
      by (inl m) h = rw m.1 (next-aim-below S (aim i))
      by (inr n) h = rw n.1 h

  -- While the aim does not pass, the sample run moves to a state best for it.
  best-for-aim : (i : ℕ) → aim (suc i) ≡ aim i → Best S (aim i) (f i) (f (suc i))
  best-for-aim i e = subst (λ (k : ℕ). Best S k (f i) (f (suc i))) e (x.best i)

  -- At each moment the aim has a distance.
  pub aim-distance : (i : ℕ) → (d : ℕ) × Distance S (aim i) d (f i)
  aim-distance i = by (x.passes i)
    where
      by : Passes S (aim i) (f i) (aim (suc i)) → (d : ℕ) × Distance S (aim i) d (f i)
      by (inl m) = (0, record { way = (sample-livable i, m.0); fewest = λ n w. omega arith })
      by (inr n) = (suc (best-for-aim i n.1).far, distance-before (sample-livable i) n.0 (best-for-aim i n.1))

  -- As many moves later as the distance is, the aim is met, and it has not passed before.
  pub aim-met : (d i : ℕ) → Distance S (aim i) d (f i) → Met S (aim i) (f (i + d)) × (aim (i + d) ≡ aim i)
  aim-met zero i y = rw (add-zero i) (y.way.1, refl)
  aim-met (suc d) i y = by (x.passes i) (aim-met d (suc i))
    where
      by : Passes S (aim i) (f i) (aim (suc i))
          → (Distance S (aim (suc i)) d (f (suc i)) → Met S (aim (suc i)) (f (suc i + d)) × (aim (suc i + d) ≡ aim (suc i)))
          → Met S (aim i) (f (i + suc d)) × (aim (i + suc d) ≡ aim i)
      by (inl m) rest = absurd (omega (arith, y.fewest 0 (sample-livable i, m.0)))
      by (inr n) rest = subst₂ (λ (k j : ℕ). Met S k (f j) × (aim j ≡ k)) n.1 (omega arith) (rest nearer)
        where
          best : Best S (aim i) (f i) (f (suc i))
          best = best-for-aim i n.1

          one_less : best.far ≡ d
          one_less = omega (arith, distance-unique y (distance-before (sample-livable i) n.0 best))

          nearer : Distance S (aim (suc i)) d (f (suc i))
          nearer = subst₂ (λ (k e : ℕ). Distance S k e (f (suc i))) (sym n.1) one_less best.distance

  -- The aim is met at this moment or later, and then passes.
  pub aim-passes : (i : ℕ) → (j : ℕ) × (i ≤ j) × Met S (aim i) (f j) × (aim (suc j) ≡ next_aim S (aim i))
  aim-passes i = (j, omega arith, met.0, passes-unique S (aim i) (f j) here (inl (met.0, refl)))
    where
      j : ℕ
      j = i + (aim-distance i).0

      met : Met S (aim i) (f j) × (aim j ≡ aim i)
      met = aim-met (aim-distance i).0 i (aim-distance i).1

      here : Passes S (aim i) (f j) (aim (suc j))
      here = subst (λ (k : ℕ). Passes S k (f j) (aim (suc j))) met.1 (x.passes j)

  -- From every moment on, the first promise is aimed at again.
  aim-first-again : (n i : ℕ) → S.promises ≤ n + aim i → (j : ℕ) × (i ≤ j) × (aim j ≡ 0)
  aim-first-again zero i h = (i, omega arith, omega (arith, aim-below i))
  aim-first-again (suc n) i h = by (dec_lt (suc (aim i)) S.promises) (λ j. aim-first-again n j)
    where
      met : (j : ℕ) × (i ≤ j) × Met S (aim i) (f j) × (aim (suc j) ≡ next_aim S (aim i))
      met = aim-passes i

      by : Dec (suc (aim i) < S.promises) → ((j : ℕ) → S.promises ≤ n + aim j → (m : ℕ) × (j ≤ m) × (aim m ≡ 0)) → (j : ℕ) × (i ≤ j)
          × (aim j ≡ 0)
      by (no q) rest = (suc met.0, omega (arith, met.1), met.3 ∙ next-aim-back S (aim i) (omega arith))
      by (yes q) rest = (later.0, omega (arith, met.1, later.1), later.2)
        where
          later : (m : ℕ) × (suc met.0 ≤ m) × (aim m ≡ 0)
          later = rest (suc met.0) (omega (arith, met.3 ∙ next-aim-on S (aim i) q))

  -- From every moment on, each promise is aimed at again.
  aim-again : (k i : ℕ) → k < S.promises → (j : ℕ) × (i ≤ j) × (aim j ≡ k)
  aim-again zero i h = aim-first-again S.promises i (omega arith)
  aim-again (suc k) i h = then (aim-again k i (omega arith))
    where
      then : (j : ℕ) × (i ≤ j) × (aim j ≡ k) → (j : ℕ) × (i ≤ j) × (aim j ≡ suc k)
      then w = let m = aim-passes w.0 in (suc m.0, omega (arith, w.1, m.1), m.3 ∙ ap (next_aim S) w.2 ∙ next-aim-on S k h)

  -- The sample run obeys.
  pub sample-obeys : Obeys S f
  sample-obeys = record { run = sample-runs; keeps = λ k h i. kept k h i (aim-again k i h) }
    where
      kept : (k : ℕ) → k < S.promises → (i : ℕ) → (j : ℕ) × (i ≤ j) × (aim j ≡ k) → (j : ℕ) × (i ≤ j) × S.Kept k (f j)
      kept k h i w = let m = aim-passes w.0 in
          (m.0, omega (arith, w.1, m.1), kept-of-met S k (f m.0) (omega arith) (subst (λ (k : ℕ). Met S k (f m.0)) w.2 m.2))

  -- Demand 3, third part: "The promise aimed at on arriving at a moment is kept as soon as any obeying run could keep it from that state."
  pub aimed-kept-soonest : 1 ≤ S.promises → (i : ℕ)
      → (d : ℕ) × S.Kept (aim i) (f (i + d)) × ((g : ℕ → ℕ) (j e : ℕ) → Obeys S g → g j ≡ f i → S.Kept (aim i) (g (j + e)) → d ≤ e)
  aimed-kept-soonest h i = (d, kept-of-met S (aim i) (f (i + d)) h (aim-met d i near).0, soonest)
    where
      d : ℕ
      d = (aim-distance i).0

      near : Distance S (aim i) d (f i)
      near = (aim-distance i).1

      soonest : (g : ℕ → ℕ) (j e : ℕ) → Obeys S g → g j ≡ f i → S.Kept (aim i) (g (j + e)) → d ≤ e
      soonest g j e o same q = near.fewest e (subst (λ (s : ℕ). Way S (Livable S) (Met S (aim i)) e s) same
          (obeying-way o (Met S (aim i)) e j (inr q)))

-- ---- its paper

module _ {S : System} {states : List ℕ} {a : ℕ} (r : RunPaper S states a) where
  -- At every moment the sample run has the state and aim that it has at that moment's place on the paper.
  at_place : (i : ℕ) → (r.run i ≡ r.run (place a (length states) i)) × (r.aim i ≡ r.aim (place a (length states) i))
  at_place zero = (refl, refl)
  at_place (suc i) = by (dec_lt (suc q) (length states)) (sample-step-unique r.sample r.sample i q (at_place i).0 (at_place i).1)
    where
      q : ℕ
      q = place a (length states) i

      Same : ℕ → ℕ → Type 0
      Same j m = (r.run j ≡ r.run m) × (r.aim j ≡ r.aim m)

      by : Dec (suc q < length states) → Same (suc i) (suc q) → Same (suc i) (place a (length states) (suc i))
      by (yes h) e = rw (place-goes-on a (length states) i h) e
      by (no h) e = let end : suc q ≡ length states = omega (arith, place-below a (length states) i r.back) in
          rw (place-turns a (length states) i (omega arith)) (e.0 ∙ ap r.run end ∙ r.same_state, e.1 ∙ ap r.aim end ∙ r.same-aim)

  -- The endless reading of the paper is the sample run.
  pub paper-reads-the-sample : (i : ℕ) → reading states a i ≡ r.run i
  paper-reads-the-sample i = r.written (place a (length states) i) (place-below a (length states) i r.back) ∙ sym (at_place i).0

  -- The endless reading of the paper obeys.
  pub paper-obeys : Obeys S (reading states a)
  paper-obeys = subst (Obeys S) (fun_ext (λ i. sym (paper-reads-the-sample i))) (sample-obeys r.sample)

  -- The paper is accepted.
  pub paper-accepted : RunAccepted S states a
  paper-accepted = record { back = r.back; first = first; moves = moves; closes = closes; keeps = λ k h. keeps k (obeys.keeps k h a) }
    where
      obeys : Obeys S r.run
      obeys = sample-obeys r.sample

      stands : (i : ℕ) → i < length states → r.run i ≡ get_or states i 0
      stands i h = sym (r.written i h)

      first : S.First (get_or states 0 0)
      first = subst S.First (stands 0 (omega (arith, r.back))) obeys.run.starts

      moves : (i : ℕ) → suc i < length states → S.Move (get_or states i 0) (get_or states (suc i) 0)
      moves i h = subst₂ S.Move (stands i (omega arith)) (stands (suc i) h) (obeys.run.goes i)

      closes : (i : ℕ) → suc i ≡ length states → S.Move (get_or states i 0) (get_or states a 0)
      closes i e = subst₂ S.Move (stands i (omega arith)) (ap r.run e ∙ r.same_state ∙ stands a r.back) (obeys.run.goes i)

      keeps : (k : ℕ) → (j : ℕ) × (a ≤ j) × S.Kept k (r.run j) → (i : ℕ) × (a ≤ i) × (i < length states) × S.Kept k (get_or states i 0)
      keeps k w = (q, late (place-late a (length states) w.0), on, subst (S.Kept k) ((at_place w.0).0 ∙ stands q on) w.2)
        where
          q : ℕ
          q = place a (length states) w.0

          on : q < length states
          on = place-below a (length states) w.0 r.back

          late : (q ≡ w.0) ⊎ (a ≤ q) → a ≤ q
          late (inl e) = omega (arith, w.1)
          late (inr h) = h

  -- Demand 3, third part, of the paper's endless reading, with the aim that the paper's own run has at that moment.
  pub paper-aimed-kept-soonest : 1 ≤ S.promises → (i : ℕ)
      → (d : ℕ) × S.Kept (r.aim i) (reading states a (i + d))
      × ((g : ℕ → ℕ) (j e : ℕ) → Obeys S g → g j ≡ reading states a i → S.Kept (r.aim i) (g (j + e)) → d ≤ e)
  paper-aimed-kept-soonest h i = let s = aimed-kept-soonest r.sample h i in
      (s.0, rw (paper-reads-the-sample (i + s.0)) s.1, λ g j e o same. s.2 g j e o (same ∙ paper-reads-the-sample i))
