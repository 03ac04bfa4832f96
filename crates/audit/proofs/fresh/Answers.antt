-- `fresh` meets its contract. Assumes nothing.
use Rattle.std.proofs.Common.{refl}
use Rattle.audit_account.specs.Carry.{empty}
use Rattle.audit.proofs.fresh.Goals as goal

pub returns : goal.returns
unfolding empty
returns c = refl
