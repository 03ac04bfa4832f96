-- The sheet first; a good one is carried on. Assumes nothing.
use Rattle.std.proofs.Common.{refl}
use Rattle.reader.proofs.Good.{told}
use Rattle.audit_account.specs.Carry.{faulty}
use Rattle.audit.proofs.audit.Goals as goal

pub audit_good-requires : goal.audit_good-requires
audit_good-requires c = told _ c.read_in_numbers.ensures c.in-Ok.is

pub returns-in-Err : goal.returns-in-Err
returns-in-Err c =
    let bad = told _ c.read_in_numbers.ensures c.in-Err.is in
    faulty bad.fault bad.first bad.number bad.place refl
