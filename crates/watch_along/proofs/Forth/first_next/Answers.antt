-- `watch_along::Forth::first_next`, by the lemmas of `Seeking`.
use Rattle.std.proofs.Common.{arith}
use Rattle.watch_along.proofs.Seeking.{passed-all, passed-found, passed-more}
use Rattle.watch_along.proofs.Forth.first_next.Given as given
use Rattle.watch_along.proofs.Forth.first_next.Goals as goal

pub loop-e-init : goal.loop-e-init
loop-e-init g c d h k = absurd (omega arith)

pub loop-e-preserved : goal.loop-e-preserved
loop-e-preserved g c = passed-more _ c.args.r _ (given.F-post g c.args.test) _ _ c.cell-j.ensures c.loop-e.invariant c.if-test.ensures

pub returns : goal.returns
returns g c = passed-all _ c.args.r _ (given.F-post g c.args.test) _ c.loop-e.invariant (omega arith)

-- The place in cell e passes.
pub returns-then-test : goal.returns-then-test
returns-then-test g c = let pre = c.requires.readable in
    passed-found _ _ _ (given.F-post g c.args.test) _ _ c.cell-j.ensures pre.0 pre.1 (omega arith) (omega arith) c.if-test.ensures
