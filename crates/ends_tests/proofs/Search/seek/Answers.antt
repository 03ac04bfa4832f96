-- `ends_tests::Search::seek`, by the lemmas of `Answers`.
use Rattle.ends_tests.proofs.Answers.{passed_none, passed-more, sought-found, sought-none}
use Rattle.ends_tests.proofs.Search.seek.Goals as goal

pub loop-j-init : goal.loop-j-init
loop-j-init c = passed_none _ _ _ _ _ _

pub returns-then-goes : goal.returns-then-goes
returns-then-goes c = sought-found _ _ _ _ _ _ _ _ c.loop-j.invariant c.loop-j-test.true (c.goes.ensures.yes c.if-goes.true)

pub loop-j-preserved : goal.loop-j-preserved
loop-j-preserved c = passed-more _ _ _ _ _ _ _ c.loop-j.invariant (c.goes.ensures.never c.if-goes.false)

pub returns : goal.returns
returns c = sought-none _ _ _ _ _ _ _ _ c.loop-j.invariant c.loop-j-test.false
