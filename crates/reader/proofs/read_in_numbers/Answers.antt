-- `reader::read_in_numbers`: a fault's place is within the sheet. Assumes nothing.
use Rattle.reader.proofs.Good.{reads-faulty}
use Rattle.reader.proofs.read_in_numbers.Goals as goal

pub map_err-requires : goal.map_err-requires
map_err-requires c = λ e q. (reads-faulty _ c.read.ensures q).small
