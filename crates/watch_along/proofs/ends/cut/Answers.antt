-- `watch_along::ends::cut`, by the lemmas of `Ending`.
use Rattle.watch_along.proofs.Ending.{cutting-none, cutting-ask, cutting-more, cutting-done}
use Rattle.watch_along.proofs.ends.cut.Goals as goal

pub loop-h-init : goal.loop-h-init
loop-h-init c = cutting-none c.requires.0

pub redirect-tail-requires : goal.redirect-tail-requires
redirect-tail-requires c = cutting-ask c.requires.0 c.loop-h.invariant c.loop-h-test.true c.requires.1

pub loop-h-preserved : goal.loop-h-preserved
loop-h-preserved c = cutting-more c.requires.0 c.loop-h.invariant c.loop-h-test.true c.redirect-tail.ensures

pub returns : goal.returns
returns c = cutting-done c.requires.0 c.loop-h.invariant c.loop-h-test.false
