-- `sample_step::seek` meets its contract: the first next state at one less than the state's own distance is the best; where there is none,
-- it is the first of the nearest of all. Assumes nothing.
use Rattle.sample_step.proofs.Nexts.{best-hit, best-tested}
use Rattle.sample_step.proofs.seek.Goals as goal

pub returns-in-Some : goal.returns-in-Some
returns-in-Some c =
    best-hit c.requires.0 c.args.place c.args.aim c.requires.1 c.requires.2 _ _ c.saturating_sub-wanted.ensures c.in-Some.ensures.1
    c.in-Some.ensures.0

pub returns-in-None : goal.returns-in-None
returns-in-None c = best-tested c.requires.0 c.args.place c.args.aim c.requires.1 c.requires.2 c.nearest.result c.nearest.ensures
