-- Rules gathered one by one. `Sofar` is what the loops of crates/rules/src/gather.rt keep: the n rows gathered say of every state what the
-- first i rules say. A row is taken or its rule is passed over, where the rule allows every move. Assumes nothing.
use mathlib.Core.Path.{◌≡◌, refl, sym, ◌∙◌, ap, ap₂, subst, subst₂}
use mathlib.Core.Bool.{Bool, true, false, not, ◌&&◌, ◌||◌, and-true}
use mathlib.Core.List.{List}
use Prim.Native.Nat.{ℕ, suc, ◌+◌, ◌^◌, ◌≤◌, ◌<◌}
use native.Mathlib.Decide.{ℕ_discrete}
use native.Mathlib.Numerals.{add-one}
use native.Mathlib.Omega.{arith}
use lib.ListN.{get_or}
use Rattle.rules.specs.Book.{Masks, Shaped, all_below, some_of, some_at, all_at, first_at, step_at, right_at, gathered_at}
use Rattle.rules.specs.Book.{letters_of, firsts_of, steps_of, step_ok, steps_ok, firsts_ok, clauses_ok, Binds, FirstClauses, NextClauses}
use Rattle.rules.specs.Rows.{Copied}
use Rattle.rules.proofs.Asking.{all_same}

-- what row j says of state t, by a test of two masks
abbrev pub row_says : (ℕ → ℕ → ℕ → Bool) → List ℕ → ℕ → ℕ → Bool
row_says test l t j = test t (get_or l (gathered_at j) 0) (get_or l (gathered_at j + 1) 0)

pub record Sofar (test : ℕ → ℕ → ℕ → Bool) (asks : ℕ → ℕ → Bool) (letters : ℕ) (l : List ℕ) (n i : ℕ) : Type 0 where
  pub few : n ≤ i
  pub masks : (j : ℕ) → j < n → Masks l letters (gathered_at j)
  pub says : (t : ℕ) → all_below n (row_says test l t) ≡ all_below i (asks t)

module _ (test : ℕ → ℕ → ℕ → Bool) (asks : ℕ → ℕ → Bool) (letters : ℕ) where
  -- A rule that is true of every state is passed over.
  pub passed_over : (l : List ℕ) (n i : ℕ) → Sofar test asks letters l n i → ((t : ℕ) → asks t i ≡ true)
      → Sofar test asks letters l n (i + 1)
  passed_over l n i so free = subst (Sofar test asks letters l n) (sym (add-one i)) (record {
    few = omega arith;
    masks = so.masks;
    says = λ t. so.says t ∙ sym (ap (λ (x : Bool). all_below i (asks t) && x) (free t) ∙ and-true (all_below i (asks t)));
  })

  -- A rule's row is copied behind those that stand.
  pub copied-row :
      (book : List ℕ) (from : ℕ) (l l' : List ℕ) (n i : ℕ) → Sofar test asks letters l n i → Copied book from l (gathered_at n) l'
      → Masks book letters from
      → ((t : ℕ) → asks t i ≡ test t (get_or book from 0) (get_or book (from + 1) 0)) → Sofar test asks letters l' (n + 1) (i + 1)
  copied-row book from l l' n i so c m here =
      subst₂ (Sofar test asks letters l') (sym (add-one n)) (sym (add-one i)) (record { few = omega arith; masks = masks; says = says })
    where
      old : (j : ℕ) → j < n → (get_or l' (gathered_at j) 0 ≡ get_or l (gathered_at j) 0)
          × (get_or l' (gathered_at j + 1) 0 ≡ get_or l (gathered_at j + 1) 0)
      old j h = (c.keeps.same (gathered_at j) (omega arith), c.keeps.same (gathered_at j + 1) (omega arith))

      masks : (j : ℕ) → j < suc n → Masks l' letters (gathered_at j)
      masks j h = by (ℕ_discrete j n)
        where
          by : Dec (j ≡ n) → Masks l' letters (gathered_at j)
          by (yes e) = subst (λ (j : ℕ). Masks l' letters (gathered_at j)) (sym e) (record {
            held = subst (λ (x : ℕ). x < 2 ^ letters) (sym c.held) m.held;
            unheld = subst (λ (x : ℕ). x < 2 ^ letters) (sym c.unheld) m.unheld;
          })
          by (no e) =
              let k : j < n = omega arith in
              record {
                held = subst (λ (x : ℕ). x < 2 ^ letters) (sym (old j k).0) (so.masks j k).held;
                unheld = subst (λ (x : ℕ). x < 2 ^ letters) (sym (old j k).1) (so.masks j k).unheld;
              }

      says : (t : ℕ) → all_below (suc n) (row_says test l' t) ≡ all_below (suc i) (asks t)
      says t =
          ap₂ (λ (a b : Bool). a && b)
          (all_same (row_says test l' t) (row_says test l t) n (λ j h. ap₂ (test t) (old j h).0 (old j h).1) ∙ so.says t)
          (ap₂ (test t) c.held c.unheld ∙ sym (here t))

-- ---- the gatherings

-- the clauses of the first i first rules
abbrev pub FirstSofar : List ℕ → List ℕ → ℕ → Type 0
FirstSofar book l i = Sofar some_of (λ t i. some_at book (first_at i) t) (letters_of book) l i i

-- the clauses that the first i step rules ask for after s
abbrev pub StepSofar : List ℕ → ℕ → List ℕ → ℕ → ℕ → Type 0
StepSofar book s l n i = Sofar some_of (step_ok book s) (letters_of book) l n i

module _ (book : List ℕ) (shaped : Shaped book) where
  pub first-copied :
      (l l' : List ℕ) (i : ℕ) → i < firsts_of book → FirstSofar book l i → Copied book (first_at i) l (gathered_at i) l'
      → FirstSofar book l' (i + 1)
  first-copied l l' i h so c =
      copied-row some_of (λ t i. some_at book (first_at i) t) (letters_of book) book (first_at i) l l' i i so c (shaped.firsts i h) (λ t. refl)

  pub first-gathered :
      (l : List ℕ) (i : ℕ) → i ≤ firsts_of book → firsts_of book ≤ i → FirstSofar book l i → FirstClauses book l (firsts_of book)
  unfolding clauses_ok firsts_ok
  first-gathered l i h k so =
      let so' : FirstSofar book l (firsts_of book) = subst (FirstSofar book l) (let e : i ≡ firsts_of book = omega arith in e) so in
      record { gathered = record { few = shaped.few_firsts; masks = so'.masks }; says = λ t. so'.says t }

  -- A rule that asks something is said by its right side.
  right-says : (s i t : ℕ) → all_at book (step_at i) s ≡ true
      → step_ok book s t i ≡ some_of t (get_or book (right_at i) 0) (get_or book (right_at i + 1) 0)
  unfolding step_ok
  right-says s i t e = ap (λ (x : Bool). not x || some_at book (right_at i) t) e

  pub step-copied :
      (s : ℕ) (l l' : List ℕ) (n i : ℕ) → i < steps_of book → StepSofar book s l n i → all_at book (step_at i) s ≡ true
      → Copied book (right_at i) l (gathered_at n) l' → StepSofar book s l' (n + 1) (i + 1)
  step-copied s l l' n i h so e c =
      copied-row some_of (step_ok book s) (letters_of book) book (right_at i) l l' n i so c (shaped.rights i h) (λ t. right-says s i t e)

  -- A rule that allows every move is passed over.
  pub step-free :
      (s : ℕ) (l : List ℕ) (n i : ℕ) {r : Bool} → StepSofar book s l n i → Binds book s i r → r ≡ false → StepSofar book s l n (i + 1)
  step-free s l n i so binds f = passed_over some_of (step_ok book s) (letters_of book) l n i so (binds.free f)

  pub steps-gathered :
      (s : ℕ) (l : List ℕ) (n i : ℕ) → i ≤ steps_of book → steps_of book ≤ i → StepSofar book s l n i → NextClauses book s l n
  unfolding clauses_ok steps_ok
  steps-gathered s l n i h k so =
      let e : i ≡ steps_of book = omega arith in
      record {
        gathered = record { few = (let f = so.few in let g = shaped.few_steps in omega arith); masks = so.masks };
        says = λ t. so.says t ∙ ap (λ (x : ℕ). all_below x (step_ok book s t)) e;
      }
