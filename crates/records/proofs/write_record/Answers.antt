-- `records::write_record`: the length byte, then the record's own bytes. Assumes nothing.
use Rattle.records.proofs.Writing.{record-written}
use Rattle.records.proofs.write_record.Goals as goal

pub returns : goal.returns
returns c = record-written c.write.ensures c.write-2.ensures
