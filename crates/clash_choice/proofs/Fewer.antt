-- Leaving step rules out never loses a run: limits, first rules and promises stand, and a move that meets more step rules meets fewer.
--   any systems   Allows: a system allows all that another does; allowed-kept: it can be kept if the other can
--   any choices   Among: a choice among another's rules; among-kept: what can be kept with more rules can be kept with fewer
--   one rule      left-out-among; fewer-kept: the same for one rule left out
-- Assumes nothing.
use mathlib.Core.Path.{◌≡◌, refl, sym, subst}
use mathlib.Core.Bool.{Bool}
use mathlib.Core.List.{List, [], ◌∷◌}
use Prim.Native.Nat.{ℕ, zero, suc}
use native.Mathlib.Omega.{arith}
use lib.Dec.{T}
use lib.ListN.{get_or, set}
use Rattle.meaning.specs.Sheet.{Sheet, decode}
use Rattle.meaning.specs.System.{System, CanBeKept}
use Rattle.meaning.specs.Rules.{every, lawful, first_state, step_holds, kept, system_of}
use Rattle.meaning.specs.Promises.{system_in}
use Rattle.meaning.proofs.Parts.{and_parts, move-parts}
use Rattle.clash_choice.specs.Choice.{picked, with_chosen, only_chosen}
use Rattle.clash_choice.proofs.Chosen.{chosen-decoded}

-- ---- any systems

-- with the same promises, the second system allows all that the first does
pub record Allows (S S' : System) : Type 0 where
  pub first : (s : ℕ) → S.First s → S'.First s
  pub move : (s t : ℕ) → S.Move s t → S'.Move s t
  pub promises : S.promises ≡ S'.promises
  pub kept : (k s : ℕ) → S.Kept k s → S'.Kept k s

-- A run that obeys the first obeys the second.
pub allowed-kept : (S S' : System) → Allows S S' → CanBeKept S → CanBeKept S'
allowed-kept S S' allows (f, o) = (
  f,
  record {
    run = record {
      starts = allows.first (f 0) o.run.starts;
      goes = λ i. allows.move (f i) (f (suc i)) (o.run.goes i);
    };
    keeps = λ k h i. let (j, later, is) = o.keeps k (omega (arith, h, allows.promises)) i in (j, later, allows.kept k (f j) is);
  },
)

-- ---- any choices

-- every rule of a choice is one of another's: what the other has not, it has not
abbrev pub Among : (fewer more : List ℕ) → Type 0
Among fewer more = (i : ℕ) → get_or more i 0 ≡ 0 → get_or fewer i 0 ≡ 0

-- With no marks nothing is picked.
every-of-none : {A : Type 0} (test : A → Bool) (l : List A) → T (every test (picked [] l))
unfolding every picked
every-of-none test [] = tt
every-of-none test (x ∷ xs) = tt

-- A test that passes at all that more marks pick passes at all that fewer pick.
every-among : {A : Type 0} (test : A → Bool) (fewer more : List ℕ) (l : List A) → Among fewer more
    → T (every test (picked more l)) → T (every test (picked fewer l))
unfolding every picked
every-among test fewer more [] among t = tt
every-among test [] more (x ∷ xs) among t = tt
every-among test (zero ∷ fewer) [] (x ∷ xs) among t = every-among test fewer [] xs (λ i e. among (suc i) e) (every-of-none test xs)
every-among test (zero ∷ fewer) (zero ∷ more) (x ∷ xs) among t = every-among test fewer more xs (λ i e. among (suc i) e) t
every-among test (zero ∷ fewer) (suc m ∷ more) (x ∷ xs) among t =
    every-among test fewer more xs (λ i e. among (suc i) e) ((and_parts (test x) (every test (picked more xs))).0 t).1
every-among test (suc k ∷ fewer) [] (x ∷ xs) among t = let z : suc k ≡ 0 = among 0 refl in absurd (omega arith)
every-among test (suc k ∷ fewer) (zero ∷ more) (x ∷ xs) among t = let z : suc k ≡ 0 = among 0 refl in absurd (omega arith)
every-among test (suc k ∷ fewer) (suc m ∷ more) (x ∷ xs) among t =
    let parts = (and_parts (test x) (every test (picked more xs))).0 t in
    (and_parts (test x) (every test (picked fewer xs))).1 (parts.0, every-among test fewer more xs (λ i e. among (suc i) e) parts.1)

-- A sheet with fewer of its rules allows all that it does with more.
among-allows : (sheet : Sheet) (fewer more : List ℕ) → Among fewer more
    → Allows (system_of (only_chosen more sheet)) (system_of (only_chosen fewer sheet))
unfolding system_of only_chosen lawful first_state kept
among-allows sheet fewer more among = record {
  first = λ s t. t;
  move = λ s t m.
      let parts = (move-parts (only_chosen more sheet) s t).0 m in
      (move-parts (only_chosen fewer sheet) s t).1 (
        parts.0,
        parts.1,
        every-among (step_holds s t) fewer more sheet.steps among
            parts.2,
      );
  promises = refl;
  kept = λ k s t. t;
}

-- What can be kept with more rules can be kept with fewer.
pub among-kept : (s fewer more : List ℕ) → Among fewer more
    → CanBeKept (system_in (with_chosen s more)) → CanBeKept (system_in (with_chosen s fewer))
unfolding system_in
among-kept s fewer more among can =
    let with_more : CanBeKept (system_of (only_chosen more (decode s))) =
    subst (λ (sheet : Sheet). CanBeKept (system_of sheet)) (chosen-decoded s more) can in
    subst (λ (sheet : Sheet). CanBeKept (system_of sheet)) (sym (chosen-decoded s fewer))
    (allowed-kept _ _ (among-allows (decode s) fewer more among) with_more)

-- ---- one rule

-- A choice with one rule left out is among it.
pub left-out-among : (i : ℕ) (marks : List ℕ) → Among (set marks i 0) marks
left-out-among i [] j e = e
left-out-among zero (m ∷ marks) zero e = refl
left-out-among zero (m ∷ marks) (suc j) e = e
left-out-among (suc i) (m ∷ marks) zero e = e
left-out-among (suc i) (m ∷ marks) (suc j) e = left-out-among i marks j e

-- Leaving one more rule out never loses a run.
pub fewer-kept : (s marks : List ℕ) (i : ℕ) → CanBeKept (system_in (with_chosen s marks))
    → CanBeKept (system_in (with_chosen s (set marks i 0)))
fewer-kept s marks i = among-kept s (set marks i 0) marks (left-out-among i marks)
