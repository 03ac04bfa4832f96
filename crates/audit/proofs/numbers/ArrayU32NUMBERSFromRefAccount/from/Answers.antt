-- The account is written: the five numbers, then the tallies, each at its place. Assumes nothing.
use Rattle.std.proofs.Common.{refl}
use Rattle.audit_account.proofs.Written.{numbers-written}
use Rattle.audit.proofs.numbers.ArrayU32NUMBERSFromRefAccount.from.Goals as goal

pub returns : goal.returns
returns c = numbers-written _ _ _ _ refl refl refl refl refl refl c.put_tallies.ensures c.put_tallies-2.ensures
