-- `left_out` meets its contract: the rule's mark is put back. Assumes nothing.
use Rattle.clash_choice.proofs.Marks.{put_back}
use Rattle.clash_trials.proofs.left_out.Goals as goal

pub returns : goal.returns
returns c = (c.trial-found.ensures, put_back c.args.marks.now c.args.i)
