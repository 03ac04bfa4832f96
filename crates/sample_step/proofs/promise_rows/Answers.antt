-- `sample_step::promise_rows` meets its contract: one more row is measured. Assumes nothing.
use Rattle.std.proofs.Common.{◌∙◌, arith}
use Rattle.rules.proofs.Facts.{promises-are}
use Rattle.sample_step.proofs.Distances.{one-more-row, rowed-of-rows}
use Rattle.sample_step.proofs.promise_rows.Goals as goal

pub loop-q-preserved : goal.loop-q-preserved
loop-q-preserved c = record {
  long = c.distances.ensures.0.long ∙ c.loop-q.invariant.long;
  rows = one-more-row c.requires.0 c.loop-q.q c.loop-q.dist _ (omega arith) c.distances.ensures.0 c.loop-q.invariant.rows;
  queue_long = c.distances.ensures.1 ∙ c.loop-q.invariant.queue_long;
}

pub returns : goal.returns
returns c = record {
  rowed = rowed-of-rows c.loop-q.q (omega (arith, promises-are c.args.book.now)) (omega arith) c.loop-q.invariant.rows;
  long = c.loop-q.invariant.long;
}
