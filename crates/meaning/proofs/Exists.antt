-- A sheet that can be kept has a sample run, and the sample run has a paper, over any finite system in which it can be said of each state
-- whether it is livable. Each step is a search: the least livable first state, the nearest livable next states and the least of them, the
-- first pair of state and aim that comes again. Assumes nothing.
use mathlib.Core.Path.{◌≡◌, refl, sym, ap, subst, ◌∙◌}
use mathlib.Core.Logic.Dec
use mathlib.Core.Logic.{◌⊎◌, inl, inr}
use mathlib.Core.List.{List, [], ◌∷◌}
use Prim.Native.Nat.{ℕ, zero, suc, ◌+◌, ◌-◌, ◌*◌, ◌≤◌, ◌<◌}
use native.Mathlib.Decide.{ℕ_discrete}
use native.Mathlib.Omega.{arith}
use lib.ListN.{length, get_or}
use Rattle.meaning.specs.System.{System, CanBeKept, Livable, Finite}
use Rattle.meaning.specs.Strike.{Way}
use Rattle.meaning.specs.Sample.{Met, Best, Passes, next_aim, Sample, RunPaper}
use Rattle.meaning.proofs.Search.{either?, any_below, least-below}
use Rattle.meaning.proofs.Pigeonhole.{pairs-repeat}
use Rattle.meaning.proofs.SampleRun.{obeying-livable, obeying-way, way-starts, next-aim-below, aim-below}

-- In a finite system it can be said whether a state has a way of n moves.
pub way? : {S : System} → Finite S → (U G : ℕ → Type 0) → ((s : ℕ) → Dec (U s)) → ((s : ℕ) → Dec (G s)) → (n s : ℕ) → Dec (Way S U G n s)
way? fin U G U? G? zero s = Dec.and (U? s) (G? s)
way? {S} fin U G U? G? (suc n) s = Dec.and (U? s) (step (λ t. way? fin U G U? G? n t))
  where
    Step : ℕ → Type 0
    Step t = S.Move s t × Way S U G n t

    step : ((t : ℕ) → Dec (Way S U G n t)) → Dec ((t : ℕ) × S.Move s t × Way S U G n t)
    step rest = by (any_below {P = Step} (λ t. Dec.and (fin.move? s t) (rest t)) fin.bound)
      where
        by : Dec ((t : ℕ) × (t < fin.bound) × Step t) → Dec ((t : ℕ) × S.Move s t × Way S U G n t)
        by (yes w) = yes (w.0, w.2.0, w.2.1)
        by (no none) = no (λ w. none (w.0, fin.move-below s w.0 w.1, (w.1, w.2)))

-- A livable state has a livable next state.
pub livable-next : {S : System} {s : ℕ} → Livable S s → (t : ℕ) × S.Move s t × Livable S t
livable-next {S} l = (
  l.run (suc l.moment),
  subst (λ (s : ℕ). S.Move s (l.run (suc l.moment))) l.there (l.obeys.run.goes l.moment),
  obeying-livable l.obeys (suc l.moment),
)

-- A livable state has a way of livable states to every aim.
pub livable-way : {S : System} {s : ℕ} → Livable S s → (k : ℕ) → k < suc (S.promises - 1) → (n : ℕ) × Way S (Livable S) (Met S k) n s
livable-way {S} {s} l k h = by (ℕ_discrete S.promises 0)
  where
    kept : (j : ℕ) × (l.moment ≤ j) × S.Kept k (l.run j) → (n : ℕ) × Way S (Livable S) (Met S k) n s
    kept w = let e : w.0 ≡ l.moment + (w.0 - l.moment) = omega (arith, w.1) in (
      w.0 - l.moment,
      subst (Way S (Livable S) (Met S k) (w.0 - l.moment)) l.there
          (obeying-way l.obeys (Met S k) (w.0 - l.moment) l.moment (inr (subst (λ (j : ℕ). S.Kept k (l.run j)) e w.2))),
    )

    by : Dec (S.promises ≡ 0) → (n : ℕ) × Way S (Livable S) (Met S k) n s
    by (yes e) = (0, (l, inl e))
    by (no e) = kept (l.obeys.keeps k (omega arith) l.moment)

-- s moves to t, and t has a way of livable states of n moves to the aim k
abbrev StepWay : System → ℕ → ℕ → ℕ → ℕ → Type 0
StepWay S k s n t = S.Move s t × Way S (Livable S) (Met S k) n t

-- The least of the next states nearest to an aim is best for it.
best-of-nearest : (S : System) (k s far t : ℕ) → StepWay S k s far t → ((n u : ℕ) → StepWay S k s n u → far ≤ n)
    → ((u : ℕ) → StepWay S k s far u → t ≤ u) → Best S k s t
best-of-nearest S k s far t w near least = record {
  move = w.0;
  livable = way-starts S (Livable S) (Met S k) far t w.1;
  far = far;
  distance = record { way = w.1; fewest = λ n v. near n t (w.0, v) };
  nearest = λ u d m l v. by u d m v.way (ℕ_discrete far d);
}
  where
    by : (u d : ℕ) → S.Move s u → Way S (Livable S) (Met S k) d u → Dec (far ≡ d) → (far < d) ⊎ ((far ≡ d) × (t ≤ u))
    by u d m v (yes e) = inr (e, least u (m, subst (λ (n : ℕ). Way S (Livable S) (Met S k) n u) (sym e) v))
    by u d m v (no e) = inl (omega (arith, near d u (m, v)))

-- a moment of the sample run, with what lets it go on
record Node (S : System) : Type 0 where
  state : ℕ
  aim : ℕ
  livable : Livable S state
  below : aim < suc (S.promises - 1)

-- a moment that follows x
record After (S : System) (x : Node S) : Type 0 where
  node : Node S
  passes : Passes S x.aim x.state node.aim
  best : Best S node.aim x.state node.state

module _ {S : System} (fin : Finite S) (livable? : (s : ℕ) → Dec (Livable S s)) where
  -- It can be said whether a state meets an aim.
  met? : (k s : ℕ) → Dec (Met S k s)
  met? k s = either? (ℕ_discrete S.promises 0) (fin.kept? k s)

  -- It can be said whether a next state has a way of n moves to an aim.
  step-way? : (k s n t : ℕ) → Dec (StepWay S k s n t)
  step-way? k s n t = Dec.and (fin.move? s t) (way? fin (Livable S) (Met S k) livable? (met? k) n t)

  -- A livable state has a next state that is best for an aim.
  pub best-exists : (k s : ℕ) → k < suc (S.promises - 1) → Livable S s → (t : ℕ) × Best S k s t
  best-exists k s h l = nearest (livable-next l)
    where
      Layer : ℕ → Type 0
      Layer n = (t : ℕ) × (t < fin.bound) × StepWay S k s n t

      inside : (n t : ℕ) → StepWay S k s n t → Layer n
      inside n t w = (t, fin.move-below s t w.0, w)

      least : (far : ℕ) × Layer far × ((n : ℕ) → Layer n → far ≤ n) → (t : ℕ) × Best S k s t
      least w = let v = least-below {P = StepWay S k s w.0} (step-way? k s w.0) {n = w.1.0} w.1.2 in
          (v.0, best-of-nearest S k s w.0 v.0 v.1 (λ n u x. w.2 n (inside n u x)) v.2)

      nearest : (t : ℕ) × S.Move s t × Livable S t → (t : ℕ) × Best S k s t
      nearest w = let v = livable-way w.2 k h in
          least (least-below {P = Layer} (λ n. any_below {P = StepWay S k s n} (step-way? k s n) fin.bound) {n = v.0}
          (inside v.0 w.0 (w.1, v.1)))

  -- The aim passes or stays.
  passed : (k s : ℕ) → k < suc (S.promises - 1) → (k' : ℕ) × Passes S k s k' × (k' < suc (S.promises - 1))
  passed k s h = by (met? k s)
    where
      by : Dec (Met S k s) → (k' : ℕ) × Passes S k s k' × (k' < suc (S.promises - 1))
      by (yes m) = (next_aim S k, inl (m, refl), next-aim-below S k)
      by (no m) = (k, inr (m, refl), h)

  -- Every moment has a next one.
  next : (x : Node S) → After S x
  next x = let k = passed x.aim x.state x.below in let t = best-exists k.0 x.state k.2 x.livable in
      record { node = record { state = t.0; aim = k.0; livable = t.1.livable; below = k.2 }; passes = k.1; best = t.1 }

  -- the moments from x on
  nodes : Node S → ℕ → Node S
  nodes x zero = x
  nodes x (suc i) = (next (nodes x i)).node

  -- A system that can be kept has a sample run.
  pub sample-exists : CanBeKept S → (f : ℕ → ℕ) × (aim : ℕ → ℕ) × Sample S f aim
  unfolding nodes
  sample-exists c = from (least-below {P = λ s. S.First s × Livable S s} (λ s. Dec.and (fin.first? s) (livable? s)) {n = c.0 0}
      (c.1.run.starts, obeying-livable c.1 0))
    where
      from : (s : ℕ) × (S.First s × Livable S s) × ((u : ℕ) → S.First u × Livable S u → s ≤ u) → (f : ℕ → ℕ) × (aim : ℕ → ℕ)
          × Sample S f aim
      from w = let x : Node S = record { state = w.0; aim = 0; livable = w.1.1; below = omega arith } in (
        λ i. (nodes x i).state,
        λ i. (nodes x i).aim,
        record {
          first = w.1.0;
          livable = w.1.1;
          least = λ s p l. w.2 s (p, l);
          aims_first = refl;
          passes = λ i. (next (nodes x i)).passes;
          best = λ i. (next (nodes x i)).best;
        },
      )

-- ---- the paper

-- the first b states of f
states-of : (ℕ → ℕ) → ℕ → List ℕ
states-of f zero = []
states-of f (suc b) = f 0 ∷ states-of (λ i. f (suc i)) b

-- They are b.
length-states-of : (f : ℕ → ℕ) (b : ℕ) → length (states-of f b) ≡ b
unfolding states-of
length-states-of f zero = refl
length-states-of f (suc b) = ap suc (length-states-of (λ i. f (suc i)) b)

-- The one at place i is that of moment i.
get_or-states-of : (f : ℕ → ℕ) (b i : ℕ) → i < b → get_or (states-of f b) i 0 ≡ f i
unfolding states-of
get_or-states-of f zero i h = absurd (omega arith)
get_or-states-of f (suc b) zero h = refl
get_or-states-of f (suc b) (suc i) h = get_or-states-of (λ i. f (suc i)) b i (omega arith)

-- The sample run up to the first pair of state and aim that comes again, at b, is its paper.
paper-cut : {S : System} {f aim : ℕ → ℕ} → Sample S f aim → (a b : ℕ) → a < b → f a ≡ f b → aim a ≡ aim b
    → ((i j : ℕ) → i < j → j < b → f i ≡ f j → aim i ≡ aim j → ⊥) → RunPaper S (states-of f b) a
paper-cut {S} {f} {aim} x a b h e e' fresh = record {
  run = f;
  aim = aim;
  sample = x;
  written = λ i p. get_or-states-of f b i (omega (arith, size));
  back = omega (arith, size);
  same_state = ap f size ∙ sym e;
  same-aim = ap aim size ∙ sym e';
  no_earlier = λ i j p q. fresh i j p (omega (arith, size));
}
  where
    size : length (states-of f b) ≡ b
    size = length-states-of f b

module _ {S : System} {f aim : ℕ → ℕ} (fin : Finite S) (x : Sample S f aim) where
  -- The sample run's states are below the bound.
  sample-below : (i : ℕ) → f i < fin.bound
  sample-below zero = fin.first_below (f 0) x.first
  sample-below (suc i) = fin.move-below (f i) (f (suc i)) (x.best i).move

  -- The sample run has a paper.
  pub paper-of-sample : (states : List ℕ) × (a : ℕ) × RunPaper S states a
  paper-of-sample = cut (pairs-repeat fin.bound q (suc (fin.bound * q)) f aim (λ i h. sample-below i) (λ i h. aim-below x i)
      (omega arith))
    where
      q : ℕ
      q = suc (S.promises - 1)

      Same : ℕ → ℕ → Type 0
      Same b a = (f a ≡ f b) × (aim a ≡ aim b)

      Again : ℕ → Type 0
      Again b = (a : ℕ) × (a < b) × Same b a

      write : (b : ℕ) × Again b × ((j : ℕ) → Again j → b ≤ j) → (states : List ℕ) × (a : ℕ) × RunPaper S states a
      write w = (
        states-of f w.0,
        w.1.0,
        paper-cut x w.1.0 w.0 w.1.1 w.1.2.0 w.1.2.1
            (λ i j p q e e'. omega (arith, w.2 j (i, p, (e, e')))),
      )

      cut : (i j : ℕ) × (i < j) × (j < suc (fin.bound * q)) × (f i ≡ f j) × (aim i ≡ aim j) → (states : List ℕ) × (a : ℕ)
          × RunPaper S states a
      cut w = write (least-below {P = Again}
          (λ b. any_below {P = Same b} (λ a. Dec.and (ℕ_discrete (f a) (f b)) (ℕ_discrete (aim a) (aim b))) b) {n = w.1} (
            w.0,
            w.2,
            (w.4, w.5),
          ))

-- A system that can be kept has a paper of its sample run.
pub run-paper-exists : {S : System} → Finite S → ((s : ℕ) → Dec (Livable S s)) → CanBeKept S → (states : List ℕ) × (a : ℕ)
    × RunPaper S states a
run-paper-exists fin livable? c = paper-of-sample fin (sample-exists fin livable? c).2
