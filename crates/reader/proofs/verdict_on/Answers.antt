-- `reader::verdict_on`: what `read_in_numbers` tells, with 0 and 0 for a good sheet. Assumes nothing.
use Rattle.reader.proofs.Good.{told, placed-good, placed-refused}
use Rattle.reader.proofs.verdict_on.Goals as goal

pub returns-in-Ok : goal.returns-in-Ok
returns-in-Ok c = placed-good _ (told _ c.read_in_numbers.ensures c.in-Ok.is)

pub returns-in-Err : goal.returns-in-Err
returns-in-Err c = placed-refused _ (told _ c.read_in_numbers.ensures c.in-Err.is)
