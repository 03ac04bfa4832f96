-- `watch_tests::Pairs::seek_helper`, by the lemmas of `Testing`.
use Rattle.rules.specs.Table.{To}
use Rattle.watch_tests.proofs.Testing.{seek-more, seek_found, seek-all}
use Rattle.watch_tests.proofs.PairsMoves.seek_helper.Goals as goal

pub returns-then-helps : goal.returns-then-helps
returns-then-helps c = seek_found _ _ _ _ _ c.loop-j-test.true c.helps.ensures c.if-helps.true

pub loop-j-preserved : goal.loop-j-preserved
loop-j-preserved c = seek-more _ _ _ _ _ c.loop-j.invariant c.helps.ensures c.if-helps.false

pub returns : goal.returns
returns c = seek-all _ _ (To c.args.self.now.book.now c.args.self.now.table.now) _ c.loop-j.j c.loop-j.invariant c.loop-j-test.false
