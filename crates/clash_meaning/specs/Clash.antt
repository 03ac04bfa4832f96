-- Which rules fight. Document 02, order 5: what the check of a proposal and what the planner promise, for every input. Proposals and marks
-- are in crates/clash_choice/specs, `Answered` and `Dropping` in crates/clash_trials/specs. Both promises leave one outcome and every input
-- has one, and what follows from them is proved, in crates/clash_meaning/proofs. Assumes nothing.
use Rattle.std.specs.Prelude.{◌≡◌, List, ℕ}
use Rattle.std.proofs.Math.Option.{Option, none, some}
use Rattle.meaning.specs.Sheet.{Fault, number_of, first_fault}
use Rattle.meaning.specs.Promises.{Lent, cleared}
use Rattle.reader.specs.Header.{steps_in}
use Rattle.answers.specs.Answers.{too_many_states, short_run, cannot_be_kept, not_accepted, trial_without_room}
use Rattle.clash_choice.specs.Proposals.{no_marks, first_marks, marks_of, Chosen, left_out_of, Proposal}
use Rattle.clash_trials.specs.Trials.{Answered, Dropping}

-- how many step rules a sheet has
abbrev pub rules_in : List ℕ → ℕ
rules_in sheet = steps_in sheet

-- ---- the check of a proposal

-- "the sheet with the chosen rules is answered 13 and, with each single one left out, 12"
pub record Fighting (sheet : List ℕ) (lent : Lent) (marks : List ℕ) : Type 0 where
  pub together : Answered sheet lent marks cannot_be_kept
  pub one_less : (i : ℕ) → Chosen i marks → Answered sheet lent (left_out_of i marks) short_run

-- "if any of these sheets gives 11"
pub data Crowded (sheet : List ℕ) (lent : Lent) (marks : List ℕ) : Type 0 where
  together : Answered sheet lent marks too_many_states → Crowded sheet lent marks
  one_less : (i : ℕ) → Chosen i marks → Answered sheet lent (left_out_of i marks) too_many_states → Crowded sheet lent marks

-- what the check says of a proposal for a good sheet: 17, 0, or "all else is 14"
pub data Weighed (sheet : List ℕ) (lent : Lent) (marks : List ℕ) (n : ℕ) : Type 0 where
  crowded : Crowded sheet lent marks → n ≡ trial_without_room → Weighed sheet lent marks n
  accepted : Fighting sheet lent marks → n ≡ 0 → Weighed sheet lent marks n
  refused : (Crowded sheet lent marks → ⊥) → (Fighting sheet lent marks → ⊥) → n ≡ not_accepted → Weighed sheet lent marks n

-- The promise of the check. "A bad sheet keeps 1 to 10", with its place, and 14 for bad numbers comes before the sheets are judged: both
-- "change nothing". After all else "lent slices hold zeros".
pub data ClashChecked (sheet numbers : List ℕ) (before : Lent) (n place : ℕ) (after : Lent) : Type 0 where
  faulty : (f : Fault) → first_fault sheet ≡ some f → n ≡ number_of f.why → place ≡ f.at → after ≡ before
      → ClashChecked sheet numbers before n place after
  misnumbered : first_fault sheet ≡ none → (Proposal (rules_in sheet) numbers → ⊥) → n ≡ not_accepted → place ≡ 0 → after ≡ before
      → ClashChecked sheet numbers before n place after
  weighed : first_fault sheet ≡ none → Proposal (rules_in sheet) numbers → Weighed sheet before (marks_of numbers) n → place ≡ 0
      → after ≡ cleared before → ClashChecked sheet numbers before n place after

-- ---- the planner

-- the whole sheet is answered 13, and dropping from all its rules ends so
pub record Reduced (sheet : List ℕ) (lent : Lent) (end : Option (List ℕ)) : Type 0 where
  pub whole : Answered sheet lent (first_marks (rules_in sheet)) cannot_be_kept
  pub dropping : Dropping sheet lent (rules_in sheet) (first_marks (rules_in sheet)) end

-- "17 exactly when a sheet it tries, the whole one included, gives 11": at once, while dropping, or when it "then tries its choice with
-- each rule left out"
pub data MetMore (sheet : List ℕ) (lent : Lent) : Type 0 where
  at_once : Answered sheet lent (first_marks (rules_in sheet)) too_many_states → MetMore sheet lent
  dropping : Reduced sheet lent none → MetMore sheet lent
  at_last : (marks : List ℕ) → Reduced sheet lent (some marks) → (i : ℕ) → Chosen i marks
      → Answered sheet lent (left_out_of i marks) too_many_states → MetMore sheet lent

-- the choice that this order of dropping gives, where no sheet tried gives 11
pub record Plan (sheet : List ℕ) (lent : Lent) (marks : List ℕ) : Type 0 where
  pub reduced : Reduced sheet lent (some marks)
  pub roomy : (i : ℕ) → Chosen i marks → Answered sheet lent (left_out_of i marks) too_many_states → ⊥

-- what the planner says of a good sheet: 17; "12 when the whole sheet can be kept"; or 0 with its choice. "None set on a refusal."
pub data Worked (sheet : List ℕ) (lent : Lent) (n : ℕ) (marks : List ℕ) : Type 0 where
  more : MetMore sheet lent → n ≡ trial_without_room → marks ≡ no_marks → Worked sheet lent n marks
  kept : Answered sheet lent (first_marks (rules_in sheet)) short_run → n ≡ short_run → marks ≡ no_marks → Worked sheet lent n marks
  found : Plan sheet lent marks → n ≡ 0 → Worked sheet lent n marks

-- The promise of the planner: "lent slices, the planner's too, hold zeros after any of these but 1 to 10".
pub data Planned (sheet : List ℕ) (before : Lent) (n place : ℕ) (marks : List ℕ) (after : Lent) : Type 0 where
  faulty : (f : Fault) → first_fault sheet ≡ some f → n ≡ number_of f.why → place ≡ f.at → marks ≡ no_marks → after ≡ before
      → Planned sheet before n place marks after
  worked : first_fault sheet ≡ none → Worked sheet before n marks → place ≡ 0 → after ≡ cleared before
      → Planned sheet before n place marks after

-- ---- the calls for C, which omit the place

pub record ClashCheckedC (sheet numbers : List ℕ) (before : Lent) (n : ℕ) (after : Lent) : Type 0 where
  pub place : ℕ
  pub promise : ClashChecked sheet numbers before n place after

pub record PlannedC (sheet : List ℕ) (before : Lent) (n : ℕ) (marks : List ℕ) (after : Lent) : Type 0 where
  pub place : ℕ
  pub promise : Planned sheet before n place marks after
