-- `reader::parts::limit_parts`: the places are within the record, by its length byte; `limit-read` ties them to the meaning. Assumes
-- nothing.
use Rattle.reader.proofs.Bodies.{limit-read}
use Rattle.reader.proofs.parts.limit_parts.Goals as goal

pub returns : goal.returns
returns c = limit-read c.args.s.now c.args.at c.requires
