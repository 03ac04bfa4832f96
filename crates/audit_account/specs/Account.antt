-- The account of a log: what document 02's order 2 reports of the whole of a monitor's recorded states held against a sheet. Nothing here
-- knows of pieces. "Moments are numbered by order of arrival and never by the clock": the state at moment i is the log's i-th, from 0.
-- Promises are not judged on a log. Assumes nothing.
use Rattle.std.specs.Prelude.{◌≡◌, ◌⊎◌, Bool, cond, not, ◌&&◌, List, [], ◌∷◌, ◌++◌, map, ℕ, zero, suc, ◌-◌, ◌<◌, eqb, length, get_or, replicate}
use Rattle.meaning.specs.Sheet.{Sheet, StepRule}
use Rattle.meaning.specs.Rules.{lawful, first_state, all_literals_true, some_literal_true, step_holds}
use Rattle.rules.specs.Book.{how_many}

-- "One tally is kept for each of 255 step rules"
abbrev pub most_tallies : ℕ
most_tallies = 255

-- "whether the state was unlawful, broke a first rule, or broke a step rule": the numbers of an account's `what`
abbrev pub nothing : ℕ
nothing = 0

abbrev pub unlawful : ℕ
unlawful = 1

abbrev pub broke_first : ℕ
broke_first = 2

abbrev pub broke_step : ℕ
broke_step = 3

-- An account: how many moments, the last state (0 while there is none), the first breach (what it was, its moment, its step rule; 0 where
-- there is none), and for each step rule how often its left side led to a kept move and how often to a broken one.
pub record Account : Type 0 where
  pub count : ℕ
  pub last : ℕ
  pub what : ℕ
  pub moment : ℕ
  pub rule : ℕ
  pub kept : List ℕ
  pub broken : List ℕ

-- ---- one state

-- The first step rule that the step from s to t breaks, the first of `rules` being rule i; 0 if it breaks none. Rules are numbered from 1.
-- The letters of s and t decide, also where one of them is unlawful: "a move out of or into an unlawful state is judged on its letters all
-- the same", and "bits above n are ignored", for no literal names them.
unfoldable pub first_broken : (s t i : ℕ) → List StepRule → ℕ
first_broken s t i [] = 0
first_broken s t i (rule ∷ rules) = cond (step_holds s t rule) (first_broken s t (suc i) rules) i

-- what the state at moment 0 is: "unlawful, broke a first rule .. in that order"; a number of 2^n or more is unlawful
unfoldable pub first_is : Sheet → ℕ → ℕ
first_is sheet t = cond (lawful sheet t) (cond (first_state sheet t) nothing broke_first) unlawful

-- what a state t after s is: "unlawful, .. or broke a step rule"; first rules ask the first state alone
unfoldable pub next_is : Sheet → (s t : ℕ) → ℕ
unfolding first_broken
next_is sheet s t = cond (lawful sheet t) (cond (eqb (first_broken s t 1 sheet.steps) 0) nothing broke_step) unlawful

-- "and which (the first in the sheet)": the step rule that a breach is of; 0 for the other kinds
unfoldable pub rule_is : Sheet → (s t : ℕ) → ℕ
unfolding next_is first_broken
rule_is sheet s t = cond (eqb (next_is sheet s t) broke_step) (first_broken s t 1 sheet.steps) 0

-- ---- the whole log

-- the state at a moment
unfoldable pub state_at : List ℕ → ℕ → ℕ
state_at log i = get_or log i 0

-- what the state at a moment is, and the step rule that it breaks
unfoldable pub what_at : Sheet → List ℕ → ℕ → ℕ
unfolding first_is next_is state_at
what_at sheet log zero = first_is sheet (state_at log zero)
what_at sheet log (suc i) = next_is sheet (state_at log i) (state_at log (suc i))

unfoldable pub rule_at : Sheet → List ℕ → ℕ → ℕ
unfolding rule_is state_at
rule_at sheet log zero = 0
rule_at sheet log (suc i) = rule_is sheet (state_at log i) (state_at log (suc i))

-- "Report the first breach: its moment, and whether the state was .."
pub record Breach (sheet : Sheet) (log : List ℕ) (what moment rule : ℕ) : Type 0 where
  pub within : moment < length log
  pub some_breach : (what ≡ nothing) → ⊥
  pub what_is : what ≡ what_at sheet log moment
  pub rule-is : rule ≡ rule_at sheet log moment
  pub first : (i : ℕ) → i < moment → what_at sheet log i ≡ nothing

-- no state of the log is a breach, and none is told
pub record NoBreach (sheet : Sheet) (log : List ℕ) (what moment rule : ℕ) : Type 0 where
  pub clean : (i : ℕ) → i < length log → what_at sheet log i ≡ nothing
  pub no_what : what ≡ nothing
  pub no_moment : moment ≡ 0
  pub no_rule : rule ≡ 0

-- the move from moment i on: its earlier state made the rule's left side true; "and it was kept", "and it was broken"
unfoldable pub asks : StepRule → List ℕ → ℕ → Bool
unfolding state_at
asks rule log i = all_literals_true (state_at log i) rule.left

unfoldable pub keeps : StepRule → List ℕ → ℕ → Bool
unfolding asks state_at
keeps rule log i = asks rule log i && some_literal_true (state_at log (suc i)) rule.right

unfoldable pub breaks : StepRule → List ℕ → ℕ → Bool
unfolding asks state_at
breaks rule log i = asks rule log i && not (some_literal_true (state_at log (suc i)) rule.right)

-- how many moves a log has; how many of them pass a rule's test
unfoldable pub moves_of : List ℕ → ℕ
moves_of log = length log - 1

unfoldable pub tally_of : (StepRule → List ℕ → ℕ → Bool) → List ℕ → StepRule → ℕ
unfolding moves_of
tally_of test log rule = how_many (test rule log) (moves_of log)

-- one tally for each step rule of the sheet, in order, then zeros: 255 in all
unfoldable pub tallies_of : (StepRule → List ℕ → ℕ → Bool) → Sheet → List ℕ → List ℕ
unfolding tally_of
tallies_of test sheet log = map (tally_of test log) sheet.steps ++ replicate (most_tallies - length sheet.steps) 0

-- the last state; 0 where there is none
unfoldable pub last_of : List ℕ → ℕ
unfolding state_at
last_of log = state_at log (length log - 1)

-- the account of a whole log
pub record AccountOf (sheet : Sheet) (log : List ℕ) (account : Account) : Type 0 where
  pub count-is : account.count ≡ length log
  pub last-is : account.last ≡ last_of log
  pub breach_is : Breach sheet log account.what account.moment account.rule
      ⊎ NoBreach sheet log account.what account.moment account.rule
  pub kept-is : account.kept ≡ tallies_of keeps sheet log
  pub broken-is : account.broken ≡ tallies_of breaks sheet log
