-- What the parts of the check and the planner promise each other. Assumes nothing.
use Rattle.std.specs.Prelude.{◌≡◌, Result, Ok, Err, List, ℕ}
use Rattle.meaning.specs.Promises.{Lent}
use Rattle.answers.specs.Answers.{short_run, not_accepted, trial_without_room}
use Rattle.clash_choice.specs.Proposals.{first_marks}
use Rattle.clash_trials.specs.Trials.{Answered}
use Rattle.clash_trials.specs.Parts.{Lengths}
use Rattle.clash_meaning.specs.Clash.{rules_in, Weighed, MetMore, Plan}
use Rattle.clash.specs.declared.slices.Refusal.{Refusal}
use Rattle.clash.specs.declared.slices.Refusal.TheVariants.{WithoutRoom, CanBeKept, NotAccepted}

-- the number of each refusal; and of what the check or the planner found, 0 where there is none
abbrev pub refusal_number : Refusal → ℕ
refusal_number WithoutRoom = trial_without_room
refusal_number CanBeKept = short_run
refusal_number NotAccepted = not_accepted

abbrev pub number_of : Result (Unit {0}) Refusal → ℕ
number_of (Ok _) = 0
number_of (Err refusal) = refusal_number refusal

-- a proposal weighed
pub record Weighs (sheet : List ℕ) (before : Lent) (marks : List ℕ) (n : ℕ) (after : Lent) : Type 0 where
  pub weighed : Weighed sheet before marks n
  pub lengths : Lengths before after

-- what the planner finds for a good sheet; the marks mean something with 0 alone
pub data Finds (sheet : List ℕ) (lent : Lent) (n : ℕ) (marks : List ℕ) : Type 0 where
  more : MetMore sheet lent → n ≡ trial_without_room → Finds sheet lent n marks
  kept : Answered sheet lent (first_marks (rules_in sheet)) short_run → n ≡ short_run → Finds sheet lent n marks
  found : Plan sheet lent marks → n ≡ 0 → Finds sheet lent n marks

pub record Works (sheet : List ℕ) (before : Lent) (n : ℕ) (marks : List ℕ) (after : Lent) : Type 0 where
  pub finds : Finds sheet before n marks
  pub lengths : Lengths before after
