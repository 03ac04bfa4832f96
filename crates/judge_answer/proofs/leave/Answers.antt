-- `leave` meets its contract. Assumes nothing.
use Rattle.ground.proofs.Wiping.{filled-from}
use Rattle.judge_answer.proofs.Wiping.{filled-whole}
use Rattle.judge_answer.proofs.leave.Goals as goal

pub returns : goal.returns
returns c = record {
  table_is = filled-from c.args.t c.args.table.now _ c.requires.0 (c.fill.ensures.after (λ y e. e));
  words_is = filled-from c.args.w c.args.words.now _ c.requires.1 (c.fill-2.ensures.after (λ y e. e));
  scratch_is = filled-whole c.args.scratch.now _ (c.fill-3.ensures.after (λ y e. e));
}
