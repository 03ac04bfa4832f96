-- The meaning's numbers are those of specs/Answers.antt: each finding of the judge, and what a checker says of a paper. Assumes nothing.
use mathlib.Core.Path.{◌≡◌, refl}
use mathlib.Core.Option.{none}
use mathlib.Core.List.{List}
use Prim.Native.Nat.{ℕ}
use Rattle.meaning.specs.System.{System}
use Rattle.meaning.specs.Sheet.{first_fault}
use Rattle.meaning.specs.Promises.{system_in, Checked, accepted, refused, Lent, crowded, short, can, cannot, outcome}
use Rattle.answers.specs.Answers.{done, too_many_states, short_run, cannot_be_kept, not_accepted}

-- ---- the judge

pub crowded-is : (lent : Lent) → (outcome lent crowded).answer ≡ too_many_states
unfolding outcome
crowded-is lent = refl

pub short-is : (lent : Lent) (b : ℕ) → (outcome lent (short b)).answer ≡ short_run
unfolding outcome
short-is lent b = refl

pub can-is : (lent : Lent) (livable states : List ℕ) (a : ℕ) → (outcome lent (can livable states a)).answer ≡ done
unfolding outcome
can-is lent livable states a = refl

pub cannot-is : (lent : Lent) (states words : List ℕ) → (outcome lent (cannot states words)).answer ≡ cannot_be_kept
unfolding outcome
cannot-is lent states words = refl

-- ---- the checkers, on a good sheet

pub accepted-is : {sheet : List ℕ} {Ok : System → Type 0} → first_fault sheet ≡ none → Ok (system_in sheet) → Checked sheet Ok done
accepted-is good ok = accepted good ok refl

pub refused-is : {sheet : List ℕ} {Ok : System → Type 0} → first_fault sheet ≡ none → (Ok (system_in sheet) → ⊥)
    → Checked sheet Ok not_accepted
refused-is good none-ok = refused good none-ok refl
