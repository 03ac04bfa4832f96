-- What the audit's call promises. A log is "handed over some at a time": the call carries an account on by one piece. Any numbers may be
-- handed in as an account, also such as no audit made, and each has one outcome. proofs/ show that carrying on from the empty account,
-- however the log is cut, gives the account of the whole log (Account.antt). Of an account that no audit made a cut can show, by a refusal:
-- one whose tally stands at 1,000,000 while it counts fewer moments may be carried on by a piece whose halves would be refused. Assumes
-- nothing.
use Rattle.std.specs.Prelude.{◌≡◌, ◌⊎◌, Bool, cond, not, ◌&&◌, List, [], ◌∷◌, ◌++◌, ℕ, zero, suc, ◌+◌, ◌<◌, eqb, length, get_or, replicate}
use Rattle.std.proofs.Math.Option.{none, some}
use Rattle.meaning.specs.Sheet.{Sheet, StepRule, Fault, number_of, first_fault, decode}
use Rattle.meaning.specs.Rules.{all_literals_true, some_literal_true}
use Rattle.answers.specs.Answers.{past_the_most_moments}
use Rattle.audit_account.specs.Account.{Account, most_tallies, nothing, first_is, next_is, rule_is}

-- ---- one more state

-- what the next state t is, and the step rule that it breaks: with count 0 it is a log's first, and the last state is not looked at
unfoldable pub is_next : Sheet → Account → ℕ → ℕ
unfolding first_is next_is
is_next sheet account t = cond (eqb account.count 0) (first_is sheet t) (next_is sheet account.last t)

unfoldable pub breaks_next : Sheet → Account → ℕ → ℕ
unfolding rule_is
breaks_next sheet account t = cond (eqb account.count 0) 0 (rule_is sheet account.last t)

-- the state is the first breach: none was told before, and it is one
unfoldable pub is_breach : Sheet → Account → ℕ → Bool
unfolding is_next
is_breach sheet account t = eqb account.what nothing && not (eqb (is_next sheet account t) nothing)

-- one more for each rule that passes the test; tallies past the sheet's rules are carried on unchanged
unfoldable pub one_more_of : (StepRule → Bool) → List StepRule → List ℕ → List ℕ
one_more_of test [] tallies = tallies
one_more_of test (rule ∷ rules) [] = []
one_more_of test (rule ∷ rules) (n ∷ tallies) = (n + cond (test rule) 1 0) ∷ one_more_of test rules tallies

-- the move into t keeps a rule, or breaks it, its left side having been true; a log's first state is no move
unfoldable pub keeps_next : Account → ℕ → StepRule → Bool
keeps_next account t rule = not (eqb account.count 0) && (all_literals_true account.last rule.left && some_literal_true t rule.right)

unfoldable pub breaks_rule : Account → ℕ → StepRule → Bool
breaks_rule account t rule = not (eqb account.count 0) && (all_literals_true account.last rule.left && not (some_literal_true t rule.right))

-- The account with one more state. "The breach is the first ever and is never replaced; tallies go on after it."
unfoldable pub noted : Sheet → Account → ℕ → Account
unfolding is_next breaks_next is_breach one_more_of keeps_next breaks_rule
noted sheet account t = record {
  count = suc account.count;
  last = t;
  what = cond (is_breach sheet account t) (is_next sheet account t) account.what;
  moment = cond (is_breach sheet account t) account.count account.moment;
  rule = cond (is_breach sheet account t) (breaks_next sheet account t) account.rule;
  kept = one_more_of (keeps_next account t) sheet.steps account.kept;
  broken = one_more_of (breaks_rule account t) sheet.steps account.broken;
}

-- the account carried on by a piece; an empty piece changes nothing
unfoldable pub carried : Sheet → Account → List ℕ → Account
unfolding noted
carried sheet account [] = account
carried sheet account (t ∷ piece) = carried sheet (noted sheet account t) piece

-- the account of nothing yet
unfoldable pub empty : Account
empty = record {
  count = 0;
  last = 0;
  what = nothing;
  moment = 0;
  rule = 0;
  kept = replicate most_tallies 0;
  broken = replicate most_tallies 0;
}

-- ---- the call

-- "At most 1,000,000 moments"
abbrev pub most_moments : ℕ
most_moments = 1000000

-- some tally is past that
pub record SomePast (tallies : List ℕ) : Type 0 where
  pub at : ℕ
  pub within : at < most_tallies
  pub past : most_moments < get_or tallies at 0

-- "a piece that would pass that, or an account whose count or any tally is past it, is refused whole with 15"
abbrev pub PastCount : (count more : ℕ) → Type 0
PastCount count more = (most_moments < count) ⊎ (most_moments < count + more)

abbrev pub PastBy : Account → ℕ → Type 0
PastBy account more = PastCount account.count more ⊎ (SomePast account.kept ⊎ SomePast account.broken)

abbrev pub Past : Account → List ℕ → Type 0
Past account piece = PastBy account (length piece)

-- The call's promise: its number, its place, and the account handed back. A bad sheet's 1 to 10 come first; a refusal hands the account
-- back unchanged.
pub data Audited (sheet : List ℕ) (account : Account) (piece : List ℕ) (n place : ℕ) (back : Account) : Type 0 where
  faulty : (f : Fault) → first_fault sheet ≡ some f → n ≡ number_of f.why → place ≡ f.at → back ≡ account
      → Audited sheet account piece n place back
  past : first_fault sheet ≡ none → Past account piece → n ≡ past_the_most_moments → place ≡ 0 → back ≡ account
      → Audited sheet account piece n place back
  done : first_fault sheet ≡ none → (Past account piece → ⊥) → n ≡ 0 → place ≡ 0 → back ≡ carried (decode sheet) account piece
      → Audited sheet account piece n place back

-- ---- the C form: an account as 515 numbers

-- the n numbers of a list from place `at` on; past the list's end they are 0
unfoldable pub numbers_at : (n : ℕ) → List ℕ → (at : ℕ) → List ℕ
numbers_at zero l at = []
numbers_at (suc n) l at = get_or l at 0 ∷ numbers_at n l (suc at)

-- "[0] count, [1] last state, [2] what the first breach was, [3] its moment, [4] its step rule or 0, [5] on kept, [260] on broken"
unfoldable pub read_account : List ℕ → Account
read_account l = record {
  count = get_or l 0 0;
  last = get_or l 1 0;
  what = get_or l 2 0;
  moment = get_or l 3 0;
  rule = get_or l 4 0;
  kept = numbers_at most_tallies l 5;
  broken = numbers_at most_tallies l 260;
}

unfoldable pub write_account : Account → List ℕ
write_account account =
    account.count ∷ account.last ∷ account.what ∷ account.moment ∷ account.rule
    ∷ (numbers_at most_tallies account.kept 0 ++ numbers_at most_tallies account.broken 0)

-- the same promise without the place, of the 515 numbers before and after
pub record AuditedOut (sheet before piece : List ℕ) (n : ℕ) (after : List ℕ) : Type 0 where
  pub place : ℕ
  pub back : Account
  pub promise : Audited sheet (read_account before) piece n place back
  pub written : after ≡ write_account back
