-- `reader::parts::step_parts`: the places are within the record, by its length byte and its count; `step-read` ties them to the meaning.
-- Assumes nothing.
use Rattle.std.proofs.Common.{ap, add-one, arith}
use Rattle.meaning.specs.Sheet.{byte, next_at}
use Rattle.reader.proofs.Bodies.{step-read}
use Rattle.reader.proofs.parts.step_parts.Goals as goal

pub overflow_add-result : goal.overflow_add-result
unfolding byte next_at
overflow_add-result c = let a = c.args in omega (arith, add-one a.at, ap (byte a.s.now) (add-one a.at))

pub returns : goal.returns
returns c = step-read c.args.s.now c.args.at c.requires
