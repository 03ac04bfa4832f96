-- "Obeys" is source document 000's meaning: a sequence obeys a sheet exactly if it is a model of the sheet's constraints that satisfies the
-- sheet's normal form at moment 0. Assumes nothing.
use mathlib.Core.Path.{refl}
use mathlib.Core.Logic.{◌↔◌, ◌⊎◌, inl, inr}
use mathlib.Core.Bool.{Bool, true, false, not, ◌||◌}
use mathlib.Core.List.{List, [], ◌∷◌, map}
use Prim.Native.Nat.{ℕ, zero, suc, ◌≤◌, ◌<◌, zero-le, suc-le-suc}
use native.Mathlib.Nat.{le_of_suc-le-suc, not-suc-le-zero, zero-lt-suc}
use native.Mathlib.Omega.{arith}
use lib.Dec.{T, lt→ltb}
use lib.ListN.{length, get_or}
use Rattle.meaning.specs.System.{Obeys}
use Rattle.meaning.specs.Sheet.{Sheet, StepRule}
use Rattle.meaning.specs.Rules.{true_in, some_literal_true, all_literals_true, every, first_state, step_holds, kept, system_of}
use Rattle.meaning.proofs.Parts.{and_parts, first-parts, move-parts, kept-parts}
use Rattle.meaning.specs.Logic.{Formula, literal, Sat, all_of, some_of, initial_clause, step_clause, sometime_clause, Model}

-- an or-list is true at moment i exactly if the disjunction is
some-true : (σ : ℕ → ℕ) (i : ℕ) (ls : List ℕ) → T (some_literal_true (σ i) ls) ↔ Sat σ i (some_of (map literal ls))
unfolding some_literal_true
some-true σ i [] = (λ t. t, λ t. t)
some-true σ i (l ∷ ls) = either (true_in (σ i) l) (some-true σ i ls)
  where
    either : (b : Bool) → T (some_literal_true (σ i) ls) ↔ Sat σ i (some_of (map literal ls)) → T (b || some_literal_true (σ i) ls) ↔
        (T b ⊎ Sat σ i (some_of (map literal ls)))
    either true e = (λ t. inl tt, λ t. tt)
    either false e = (λ t. inr (e.0 t), elim [ inl t ↦ absurd t | inr t ↦ e.1 t ])

-- an and-list likewise
all_true : (σ : ℕ → ℕ) (i : ℕ) (ls : List ℕ) → T (all_literals_true (σ i) ls) ↔ Sat σ i (all_of (map literal ls))
unfolding all_literals_true
all_true σ i [] = (λ t. t, λ t. t)
all_true σ i (l ∷ ls) =
    let e = and_parts (true_in (σ i) l) (all_literals_true (σ i) ls) in
    let f = all_true σ i ls in
    (λ t. ((e.0 t).0, f.0 (e.0 t).1), λ t. e.1 (t.0, f.1 t.1))

-- a test passes at every record exactly if every record's clause is satisfied
every-clause : {A : Type 0} (σ : ℕ → ℕ) (i : ℕ) (test : A → Bool) (clause : A → Formula)
    → ((x : A) → T (test x) ↔ Sat σ i (clause x)) → (l : List A) → T (every test l) ↔ Sat σ i (all_of (map clause l))
unfolding every
every-clause σ i test clause same [] = (λ t. t, λ t. t)
every-clause σ i test clause same (x ∷ xs) =
    let e = and_parts (test x) (every test xs) in
    let f = every-clause σ i test clause same xs in
    (λ t. ((same x).0 (e.0 t).0, f.0 (e.0 t).1), λ t. e.1 ((same x).1 t.0, f.1 t.1))

step-clause : (σ : ℕ → ℕ) (i : ℕ) (rule : StepRule) → T (step_holds (σ i) (σ (suc i)) rule) ↔ Sat σ i (step_clause rule)
unfolding step_holds
step-clause σ i rule = by (all_literals_true (σ i) rule.left) (all_true σ i rule.left)
  where
    by : (b : Bool) → T b ↔ Sat σ i (all_of (map literal rule.left))
        → T (not b || some_literal_true (σ (suc i)) rule.right) ↔ (Sat σ i (all_of (map literal rule.left))
        → Sat σ (suc i) (some_of (map literal rule.right)))
    by true e = (λ t u. (some-true σ (suc i) rule.right).0 t, λ h. (some-true σ (suc i) rule.right).1 (h (e.0 tt)))
    by false e = (λ t u. absurd (e.1 u), λ h. tt)

-- the first rules bind at moment 0 only
initial-later : (σ : ℕ → ℕ) (i : ℕ) (rules : List (List ℕ)) → Sat σ (suc i) (all_of (map initial_clause rules))
initial-later σ i [] = tt
initial-later σ i (r ∷ rules) = (λ e. absurd (omega arith), initial-later σ i rules)

initial-now : (σ : ℕ → ℕ) (rules : List (List ℕ)) → T (every (some_literal_true (σ 0)) rules) ↔ Sat σ 0 (all_of (map initial_clause rules))
initial-now σ rules =
    every-clause σ 0 (some_literal_true (σ 0)) initial_clause (λ r. (λ t e. (some-true σ 0 r).0 t, λ h. (some-true σ 0 r).1 (h refl))) rules

-- each promise by its place in the sheet
abbrev Again : (ℕ → ℕ) → ℕ → List ℕ → Type 0
Again σ i ls = (k : ℕ) → k < length ls → (j : ℕ) × (i ≤ j) × T (true_in (σ j) (get_or ls k 0))

again-cons : (σ : ℕ → ℕ) (i l : ℕ) (ls : List ℕ) → Again σ i ls → (j : ℕ) × (i ≤ j) × T (true_in (σ j) l) → Again σ i (l ∷ ls)
again-cons σ i l ls h now zero b = now
again-cons σ i l ls h now (suc k) b = h k (le_of_suc-le-suc b)

promise-clauses : (σ : ℕ → ℕ) (i : ℕ) (ls : List ℕ) → Again σ i ls ↔ Sat σ i (all_of (map sometime_clause ls))
promise-clauses σ i [] = (λ h. tt, λ h k b. absurd (not-suc-le-zero b))
promise-clauses σ i (l ∷ ls) =
    let rest : Again σ i ls ↔ Sat σ i (all_of (map sometime_clause ls)) = promise-clauses σ i ls in (
      λ h. (
        λ t. ((h 0 (zero-lt-suc _)).0, (h 0 (zero-lt-suc _)).1, (h 0 (zero-lt-suc _)).2, λ j a b. tt),
        rest.0 (λ k b. h (suc k) (suc-le-suc b)),
      ),
      λ h. again-cons σ i l ls (rest.1 h.1) ((h.0 tt).0, (h.0 tt).1, (h.0 tt).2),
    )

step-clauses : (sheet : Sheet) (σ : ℕ → ℕ) (i : ℕ)
    → T (every (step_holds (σ i) (σ (suc i))) sheet.steps) ↔ Sat σ i (all_of (map step_clause sheet.steps))
step-clauses sheet σ i = every-clause σ i (step_holds (σ i) (σ (suc i))) step_clause (step-clause σ i) sheet.steps

initial-clauses : (sheet : Sheet) (σ : ℕ → ℕ) → T (first_state sheet (σ 0)) → (i : ℕ) → Sat σ i (all_of (map initial_clause sheet.firsts))
initial-clauses sheet σ f zero = (initial-now σ sheet.firsts).0 ((first-parts sheet (σ 0)).0 f).1
initial-clauses sheet σ f (suc i) = initial-later σ i sheet.firsts

-- what obeys is a model of the normal form
pub obeys-is-model : (sheet : Sheet) (σ : ℕ → ℕ) → Obeys (system_of sheet) σ → Model sheet σ
unfolding system_of kept
obeys-is-model sheet σ o = record {
  constrained = λ i. ((move-parts sheet (σ i) (σ (suc i))).0 (o.run.goes i)).0;
  satisfied = λ i b. (
    initial-clauses sheet σ o.run.starts i,
    (
      (step-clauses sheet σ i).0 ((move-parts sheet (σ i) (σ (suc i))).0 (o.run.goes i)).2,
      (promise-clauses σ i sheet.promises).0
          (λ k b. ((o.keeps k b i).0, (o.keeps k b i).1, ((kept-parts sheet k (σ (o.keeps k b i).0)).0 (o.keeps k b i).2).1)),
    ),
  );
}

-- a model of the normal form obeys
pub model-obeys : (sheet : Sheet) (σ : ℕ → ℕ) → Model sheet σ → Obeys (system_of sheet) σ
unfolding system_of kept
model-obeys sheet σ m = record {
  run = record {
    starts = (first-parts sheet (σ 0)).1 (m.constrained 0, (initial-now σ sheet.firsts).1 (m.satisfied 0 zero-le).0);
    goes = λ i. (move-parts sheet (σ i) (σ (suc i))).1 (
      m.constrained i,
      m.constrained (suc i),
      (step-clauses sheet σ i).1 (m.satisfied i zero-le).1.0,
    );
  };
  keeps = λ k b i. let (j, late, now) = (promise-clauses σ i sheet.promises).1 (m.satisfied i zero-le).1.1 k b in
      (j, late, (kept-parts sheet k (σ j)).1 (lt→ltb k (length sheet.promises) b, now));
}

-- "by the meaning in source document 000": a sequence of states obeys exactly if it is a model
pub obeys-exactly-models : (sheet : Sheet) (σ : ℕ → ℕ) → Obeys (system_of sheet) σ ↔ Model sheet σ
obeys-exactly-models sheet σ = (obeys-is-model sheet σ, model-obeys sheet σ)
