-- Source document 000's own logic, sections 2.1 to 2.3: formulas, when a sequence of states satisfies one at a moment, and the normal form
-- that a sheet writes down. Nothing else is built on this file; proofs/Logic.antt shows that "obeys" is exactly "is a model of the sheet's
-- normal form". `always` is said directly, as in source document 001 (000 writes it as "not sometime not"). Assumes nothing.
use Rattle.std.specs.Prelude.{◌≡◌, ◌⊎◌, List, [], ◌∷◌, map, ℕ, suc, ◌≤◌, ◌<◌, T}
use Rattle.meaning.specs.Sheet.{Sheet, StepRule}
use Rattle.meaning.specs.Rules.{true_in, lawful}

-- a literal is a sheet's signed byte
pub data Formula : Type 0 where
  truth falsity start : Formula
  literal : ℕ → Formula
  and or implies until : Formula → Formula → Formula
  next always : Formula → Formula

-- 2.2: "(σ, i) ⊨ φ denotes the truth of formula φ in the model σ at the state of index i"
abbrev pub Sat : (ℕ → ℕ) → ℕ → Formula → Type 0
Sat σ i truth = Unit {0}
Sat σ i falsity = ⊥
Sat σ i start = i ≡ 0
Sat σ i (literal l) = T (true_in (σ i) l)
Sat σ i (and φ ψ) = Sat σ i φ × Sat σ i ψ
Sat σ i (or φ ψ) = Sat σ i φ ⊎ Sat σ i ψ
Sat σ i (implies φ ψ) = Sat σ i φ → Sat σ i ψ
Sat σ i (until φ ψ) = (k : ℕ) × (i ≤ k) × Sat σ k ψ × ((j : ℕ) → i ≤ j → j < k → Sat σ j φ)
Sat σ i (next φ) = Sat σ (suc i) φ
Sat σ i (always φ) = (k : ℕ) → i ≤ k → Sat σ k φ

-- "the empty conjunction represents true whereas .. the empty disjunction represents false"
abbrev pub all_of : List Formula → Formula
all_of [] = truth
all_of (φ ∷ φs) = and φ (all_of φs)

abbrev pub some_of : List Formula → Formula
some_of [] = falsity
some_of (φ ∷ φs) = or φ (some_of φs)

-- 2.2: "◇φ ≡ true U φ"
abbrev pub sometime : Formula → Formula
sometime φ = until truth φ

-- 2.3: initial, step and sometime clauses
abbrev pub initial_clause : List ℕ → Formula
initial_clause ls = implies start (some_of (map literal ls))

abbrev pub step_clause : StepRule → Formula
step_clause rule = implies (all_of (map literal rule.left)) (next (some_of (map literal rule.right)))

abbrev pub sometime_clause : ℕ → Formula
sometime_clause l = implies truth (sometime (literal l))

-- 2.3: "A normal form for TLC is of the form □ ⋀ X_h"
abbrev pub normal_form : Sheet → Formula
normal_form sheet =
    always (and (all_of (map initial_clause sheet.firsts))
    (and (all_of (map step_clause sheet.steps)) (all_of (map sometime_clause sheet.promises))))

-- 2.2: "Every s_i should satisfy the set of constraints": a model of the sheet
pub record Model (sheet : Sheet) (σ : ℕ → ℕ) : Type 0 where
  pub constrained : (i : ℕ) → T (lawful sheet (σ i))
  pub satisfied : Sat σ 0 (normal_form sheet)
