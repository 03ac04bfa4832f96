-- Step rules chosen by their numbers. Document 02, order 5: a proposal is a list of rule numbers; step rules are numbered from 1 in sheet
-- order. Inside, a choice is a row of 255 marks, and rule i + 1 has mark i. Assumes nothing.
use Rattle.std.specs.Prelude.{◌≡◌, Bool, true, false, List, [], ◌∷◌, ◌++◌, ℕ, suc, ◌-◌, ◌≤◌, ◌<◌, length, get_or, set, replicate}

-- ---- choices

-- a sheet has at most 255 step rules: byte 6 counts them
abbrev pub most_rules : ℕ
most_rules = 255

-- no rule; the first m rules; the rules with these numbers
abbrev pub no_marks : List ℕ
no_marks = replicate most_rules 0

abbrev pub first_marks : ℕ → List ℕ
first_marks m = replicate m 1 ++ replicate (most_rules - m) 0

unfoldable pub marks_of : List ℕ → List ℕ
marks_of [] = no_marks
marks_of (k ∷ numbers) = set (marks_of numbers) (k - 1) 1

-- rule i + 1 is chosen; a choice with it left out
abbrev pub Chosen : (i : ℕ) (marks : List ℕ) → Type 0
Chosen i marks = get_or marks i 0 ≡ 0 → ⊥

abbrev pub left_out_of : (i : ℕ) (marks : List ℕ) → List ℕ
left_out_of i marks = set marks i 0

-- ---- proposals

-- "numbers not rising or not in the sheet get 14": numbers that rise strictly, each from 1 to the number of the sheet's step rules
pub record Proposal (rules : ℕ) (numbers : List ℕ) : Type 0 where
  pub least : (j : ℕ) → j < length numbers → 1 ≤ get_or numbers j 0
  pub most : (j : ℕ) → j < length numbers → get_or numbers j 0 ≤ rules
  pub rising : (j : ℕ) → suc j < length numbers → get_or numbers j 0 < get_or numbers (suc j) 0

-- what a test of proposed numbers says
pub record ProposalSays (rules : ℕ) (numbers : List ℕ) (r : Bool) : Type 0 where
  pub yes : r ≡ true → Proposal rules numbers
  pub never : r ≡ false → Proposal rules numbers → ⊥
