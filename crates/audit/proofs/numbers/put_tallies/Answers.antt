-- `put_tallies` meets its contract. Assumes nothing.
use Rattle.std.proofs.Common.{arith}
use Rattle.audit_account.proofs.Written.{copied-put}
use Rattle.audit.proofs.numbers.put_tallies.Goals as goal

pub returns : goal.returns
returns c =
    rw c.copy_from_slice.ensures.after
    (copied-put 255 c.args.tallies.now c.args.numbers.now c.args.from c.told-tallies (omega arith))
