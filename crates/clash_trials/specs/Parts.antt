-- What the parts of the trials promise each other and the crates above. Assumes nothing.
use Rattle.std.specs.Prelude.{◌≡◌, Bool, true, false, Result, Ok, Err, List, ℕ, length}
use Rattle.std.proofs.Math.Option.{Option, none, some}
use Rattle.meaning.specs.Promises.{Lent, Outcome, Judged}
use Rattle.answers.specs.Answers.{too_many_states, short_run, cannot_be_kept}
use Rattle.clash_choice.specs.Proposals.{Chosen, left_out_of}
use Rattle.clash_trials.specs.Trials.{Answered, Dropping}
use Rattle.clash_trials.specs.declared.Finding.{Finding}
use Rattle.clash_trials.specs.declared.Finding.TheVariants.{CanBeKept, CannotBeKept}
use Rattle.clash_trials.specs.declared.NoRoom.{NoRoom}

-- the judge's number for what a trial finds, or for one without room
abbrev pub answer_for : Result Finding NoRoom → ℕ
answer_for (Ok CanBeKept) = short_run
answer_for (Ok CannotBeKept) = cannot_be_kept
answer_for (Err _) = too_many_states

-- the lent slices keep their lengths; what they hold is nobody's business until they are cleared
pub record Lengths (before after : Lent) : Type 0 where
  pub table : length after.table ≡ length before.table
  pub words : length after.words ≡ length before.words
  pub scratch : length after.scratch ≡ length before.scratch
  pub run : length after.run ≡ length before.run

-- bytes judged: the answer n, by the judge's promise
pub record BytesJudged (bytes : List ℕ) (before : Lent) (n : ℕ) (after : Lent) : Type 0 where
  pub got : Outcome
  pub promise : Judged bytes before got
  pub number : n ≡ got.answer
  pub lengths : Lengths before after

-- one sheet judged
pub record Trial (sheet : List ℕ) (before : Lent) (marks : List ℕ) (n : ℕ) (after : Lent) : Type 0 where
  pub answered : Answered sheet before marks n
  pub lengths : Lengths before after

-- each chosen rule left out by itself: 11 if some sheet gives 11; else 13 if some gives 13; else all give 12
pub data EachTried (sheet : List ℕ) (lent : Lent) (marks : List ℕ) (n : ℕ) : Type 0 where
  more : (i : ℕ) → Chosen i marks → Answered sheet lent (left_out_of i marks) too_many_states → n ≡ too_many_states → EachTried sheet lent marks n
  spare : ((i : ℕ) → Chosen i marks → Answered sheet lent (left_out_of i marks) too_many_states → ⊥)
      → (i : ℕ) → Chosen i marks → Answered sheet lent (left_out_of i marks) cannot_be_kept → n ≡ cannot_be_kept → EachTried sheet lent marks n
  needed : ((i : ℕ) → Chosen i marks → Answered sheet lent (left_out_of i marks) short_run) → n ≡ short_run → EachTried sheet lent marks n

pub record EachLeftOut (sheet : List ℕ) (before : Lent) (marks : List ℕ) (n : ℕ) (marks-left : List ℕ) (after : Lent) : Type 0 where
  pub tried : EachTried sheet before marks n
  pub unmoved : marks-left ≡ marks
  pub lengths : Lengths before after

-- how dropping ended: in this choice, or in none
abbrev pub end_of : Bool → List ℕ → Option (List ℕ)
end_of true marks = some marks
end_of false marks = none

pub record Drops (sheet : List ℕ) (before : Lent) (i : ℕ) (marks : List ℕ) (r : Bool) (marks-left : List ℕ) (after : Lent) : Type 0 where
  pub dropping : Dropping sheet before i marks (end_of r marks-left)
  pub lengths : Lengths before after
