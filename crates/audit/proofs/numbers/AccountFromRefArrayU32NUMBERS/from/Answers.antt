-- The account is read: the five numbers and the tallies, each from its place. Assumes nothing.
use Rattle.audit_account.proofs.Written.{account-read}
use Rattle.audit.proofs.numbers.AccountFromRefArrayU32NUMBERS.from.Goals as goal

pub returns : goal.returns
returns c = account-read _ _ _ c.tallies_at-kept.ensures c.tallies_at-broken.ensures
