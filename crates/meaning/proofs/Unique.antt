-- The sample run and its paper are one each, over any system: a state has one distance to an aim, a moment's state and aim settle the
-- next moment's (`sample-determined`), so two sample runs agree at every moment and two papers of sample runs are the same paper.
-- Assumes nothing.
use mathlib.Core.Path.{◌≡◌, sym, ap, subst₂, ◌∙◌}
use mathlib.Core.Logic.{◌⊎◌, inl, inr}
use mathlib.Core.List.{List}
use Prim.Native.Nat.{ℕ, zero, suc, ◌+◌, ◌≤◌, ◌<◌}
use native.Mathlib.Decide.{dec_lt}
use native.Mathlib.Omega.{arith}
use native.Mathlib.Nat.{add-suc, add-zero}
use lib.ListN.{length, get_or}
use lib.Seq.{ext_get_or}
use Rattle.meaning.specs.System.{System}
use Rattle.meaning.specs.Sample.{Distance, Best, Passes, Sample, RunPaper}

-- A state has one distance to an aim.
pub distance-unique : {S : System} {k d e s : ℕ} → Distance S k d s → Distance S k e s → d ≡ e
distance-unique {d = d} {e} x y = omega (arith, x.fewest e y.way, y.fewest d x.way)

-- From a state, one next state is best for an aim.
pub best-unique : {S : System} {k s t u : ℕ} → Best S k s t → Best S k s u → t ≡ u
best-unique {t = t} {u} x y =
    by (x.nearest u y.far y.move y.livable y.distance) (y.nearest t x.far x.move x.livable x.distance)
  where
    by : (x.far < y.far) ⊎ ((x.far ≡ y.far) × (t ≤ u)) → (y.far < x.far) ⊎ ((y.far ≡ x.far) × (u ≤ t)) → t ≡ u
    by (inl p) (inl q) = omega arith
    by (inl p) (inr q) = omega arith
    by (inr p) (inl q) = omega arith
    by (inr p) (inr q) = omega arith

-- An aim and a state settle the aim that it passes to.
pub passes-unique : (S : System) (k s : ℕ) {k' k'' : ℕ} → Passes S k s k' → Passes S k s k'' → k' ≡ k''
passes-unique S k s (inl x) (inl y) = x.1 ∙ sym y.1
passes-unique S k s (inl x) (inr y) = absurd (y.0 x.0)
passes-unique S k s (inr x) (inl y) = absurd (x.0 y.0)
passes-unique S k s (inr x) (inr y) = x.1 ∙ sym y.1

-- Two sample runs that agree at a moment of each, in state and aim, agree one moment later.
pub sample-step-unique : {S : System} {f aim g bim : ℕ → ℕ} → Sample S f aim → Sample S g bim → (i j : ℕ) → f i ≡ g j → aim i ≡ bim j
    → (f (suc i) ≡ g (suc j)) × (aim (suc i) ≡ bim (suc j))
sample-step-unique {S} {f} {aim} {g} {bim} x y i j e d =
    (best-unique (subst₂ (λ (k s : ℕ). Best S k s (f (suc i))) same-aim e (x.best i)) (y.best j), same-aim)
  where
    same-aim : aim (suc i) ≡ bim (suc j)
    same-aim = passes-unique S (bim j) (g j) (subst₂ (λ (k s : ℕ). Passes S k s (aim (suc i))) d e (x.passes i)) (y.passes j)

-- There is one sample run, with one aim at each moment.
pub sample-unique : {S : System} {f aim g bim : ℕ → ℕ} → Sample S f aim → Sample S g bim → (i : ℕ) → (f i ≡ g i) × (aim i ≡ bim i)
sample-unique {S} {f} {aim} {g} {bim} x y zero =
    (omega (arith, x.least (g 0) y.first y.livable, y.least (f 0) x.first x.livable), x.aims_first ∙ sym y.aims_first)
sample-unique x y (suc i) = sample-step-unique x y i i (sample-unique x y i).0 (sample-unique x y i).1

-- Two moments of the sample run with the same state and aim are followed by the same states and aims.
pub sample-determined : {S : System} {f aim : ℕ → ℕ} → Sample S f aim → (i j : ℕ) → f i ≡ f j → aim i ≡ aim j
    → (n : ℕ) → (f (i + n) ≡ f (j + n)) × (aim (i + n) ≡ aim (j + n))
sample-determined x i j e d zero = rw (add-zero i, add-zero j) (e, d)
sample-determined x i j e d (suc n) = rw (add-suc i n, add-suc j n)
    (sample-step-unique x x (i + n) (j + n) (sample-determined x i j e d n).0 (sample-determined x i j e d n).1)

-- Of two papers of sample runs, none is shorter.
paper-not-shorter : {S : System} {states states' : List ℕ} {a a' : ℕ} → RunPaper S states a → RunPaper S states' a'
    → length states < length states' → ⊥
paper-not-shorter {states = states} {a = a} x y q = y.no_earlier a (length states) x.back q
    (sym (same a).0 ∙ sym x.same_state ∙ (same (length states)).0) (sym (same a).1 ∙ sym x.same-aim ∙ (same (length states)).1)
  where
    same : (i : ℕ) → (x.run i ≡ y.run i) × (x.aim i ≡ y.aim i)
    same = sample-unique x.sample y.sample

-- There is one paper of the sample run.
pub run-paper-unique : {S : System} {states states' : List ℕ} {a a' : ℕ} → RunPaper S states a → RunPaper S states' a'
    → (states ≡ states') × (a ≡ a')
run-paper-unique {S} {states} {states'} {a} {a'} x y = (ext_get_or 0 states states' same_length same-states, by (dec_lt a a') (dec_lt a' a))
  where
    same : (i : ℕ) → (x.run i ≡ y.run i) × (x.aim i ≡ y.aim i)
    same = sample-unique x.sample y.sample

    same_length : length states ≡ length states'
    same_length = omega (arith, paper-not-shorter x y, paper-not-shorter y x)

    same-states : (i : ℕ) → i < length states → get_or states i 0 ≡ get_or states' i 0
    same-states i q = x.written i q ∙ (same i).0 ∙ sym (y.written i (omega (arith, same_length)))

    last : x.run a ≡ x.run a'
    last = sym x.same_state ∙ ap x.run same_length ∙ (same (length states')).0 ∙ y.same_state ∙ sym (same a').0

    last-aim : x.aim a ≡ x.aim a'
    last-aim = sym x.same-aim ∙ ap x.aim same_length ∙ (same (length states')).1 ∙ y.same-aim ∙ sym (same a').1

    by : Dec (a < a') → Dec (a' < a) → a ≡ a'
    by (yes q) d = absurd (x.no_earlier a a' q (omega (arith, y.back, same_length)) last last-aim)
    by (no q) (yes p) = absurd (x.no_earlier a' a p x.back (sym last) (sym last-aim))
    by (no q) (no p) = omega arith
