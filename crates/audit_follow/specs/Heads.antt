-- The numbers of breaches, and the five numbers that the code carries on, as an account with its tallies. Assumes nothing.
use Rattle.std.specs.Prelude.{Bool, cond, Option, Some, None, List, ℕ, ◌+◌}
use Rattle.audit_account.specs.Account.{Account, nothing, unlawful, broke_first, broke_step}
use Rattle.audit_account.specs.Book.{book_is, book_broke, is_first, rule_told}
use Rattle.audit_follow.specs.declared.Breach.{Breach}
use Rattle.audit_follow.specs.declared.Breach.TheVariants.{Unlawful, FirstRule, StepRule}
use Rattle.audit_follow.specs.declared.Head as Head

-- the number of each breach, and of none
abbrev pub breach_number : Breach → ℕ
breach_number Unlawful = unlawful
breach_number FirstRule = broke_first
breach_number StepRule = broke_step

abbrev pub number_of : Option Breach → ℕ
number_of None = nothing
number_of (Some breach) = breach_number breach

-- its five numbers, with the tallies beside them
abbrev pub with_tallies : Head.Head → (kept broken : List ℕ) → Account
with_tallies head kept broken = record {
  count = head.count;
  last = head.last;
  what = head.what;
  moment = head.moment;
  rule = head.rule;
  kept = kept;
  broken = broken;
}

-- the five numbers with `times` more states t, all by the same move, which broke a step rule or did not
unfoldable pub head_noted : List ℕ → Head.Head → (broke : Bool) (t times : ℕ) → Head.Head
unfolding book_is book_broke is_first rule_told
head_noted book head broke t times =
    let is = book_is book head.count broke t in
    record {
      count = head.count + times;
      last = t;
      what = cond (is_first head.what is) is head.what;
      moment = cond (is_first head.what is) head.count head.moment;
      rule = cond (is_first head.what is) (rule_told is (book_broke book head.last t)) head.rule;
    }
