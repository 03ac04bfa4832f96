-- What the judge says of a choice of step rules, and rules dropped from the last to the first. Document 02, order 5. Assumes nothing.
use Rattle.std.specs.Prelude.{◌≡◌, List, [], ℕ, zero, suc}
use Rattle.std.proofs.Math.Option.{Option, none, some}
use Rattle.meaning.specs.Promises.{Lent, Outcome, Judged}
use Rattle.answers.specs.Answers.{too_many_states, short_run, cannot_be_kept}
use Rattle.clash_choice.specs.Choice.{with_chosen}
use Rattle.clash_choice.specs.Proposals.{left_out_of}

-- ---- a choice judged

-- "all judged with no run room": three slices are lent, and the run slice has no room
abbrev pub lent_three : (table words scratch : List ℕ) → Lent
lent_three table words scratch = record { table = table; words = words; scratch = scratch; run = [] }

-- the sheet with these rules is answered n: by the judge's promise on its bytes, with the slices as they were lent
pub record Answered (sheet : List ℕ) (lent : Lent) (marks : List ℕ) (n : ℕ) : Type 0 where
  pub got : Outcome
  pub promise : Judged (with_chosen sheet marks) lent got
  pub number : n ≡ got.answer

-- ---- rules dropped

-- One rule tried, rule i + 1 of a choice: 11 ends the plan, 13 drops the rule, 12 keeps it. Next is what must hold of the choice it goes on
-- with.
pub data OneTried (sheet : List ℕ) (lent : Lent) (i : ℕ) (marks : List ℕ) (Next : List ℕ → Type 0) (end : Option (List ℕ)) : Type 0 where
  ends : Answered sheet lent (left_out_of i marks) too_many_states → end ≡ none → OneTried sheet lent i marks Next end
  drops : Answered sheet lent (left_out_of i marks) cannot_be_kept → Next (left_out_of i marks) → OneTried sheet lent i marks Next end
  keeps : Answered sheet lent (left_out_of i marks) short_run → Next marks → OneTried sheet lent i marks Next end

-- "drops rules from the last to the first wherever 13 stays": rules i, i - 1, .. 1 tried in turn, from this choice on. It ends in a choice,
-- or in none where a sheet that was tried gives 11.
unfoldable pub Dropping : (sheet : List ℕ) (lent : Lent) (i : ℕ) (marks : List ℕ) (end : Option (List ℕ)) → Type 0
Dropping sheet lent zero marks end = end ≡ some marks
Dropping sheet lent (suc i) marks end = OneTried sheet lent i marks (λ (next : List ℕ). Dropping sheet lent i next end) end
