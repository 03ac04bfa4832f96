-- `sample_walk::walk` meets its contract: what the second walk writes is the paper. Assumes nothing.
use Rattle.std.proofs.Common.{◌∙◌, arith}
use Rattle.std.proofs.lemmas.Grind.{common_steps}
use Rattle.sample_walk.proofs.Papers.{steered-short, steered-written}
use Rattle.sample_walk.proofs.walk.Goals as goal

pub returns-then-end-run : goal.returns-then-end-run
returns-then-end-run c = record {
  steered = steered-written _ _ _ c.write_run-a.ensures (omega arith);
  long = c.find_end-end.ensures.long ∙ grind (arith, common_steps);
}

pub returns : goal.returns
returns c = record {
  steered = steered-short _ 0 c.find_end-end.ensures.cut (omega arith);
  long = c.find_end-end.ensures.long ∙ grind (arith, common_steps);
}
