-- An account as the code hands it over. Assumes nothing.
use Rattle.audit_account.specs.Account.{Account}
use Rattle.audit.specs.declared.Account as Given

-- an account as the code hands it over
abbrev pub account_of : Given.Account → Account
account_of a = record {
  count = a.count;
  last = a.last;
  what = a.what;
  moment = a.moment;
  rule = a.rule;
  kept = a.kept;
  broken = a.broken;
}
