-- A state that keeps the promise is one from a on; one that does not is one more. Assumes nothing.
use Rattle.std.proofs.Common.{arith}
use Rattle.ground.proofs.Saying.{says-yes}
use Rattle.rules.specs.Book.{book_system}
use Rattle.rules.proofs.Saying.{kept-says}
use Rattle.runcheck.proofs.Running.{missed_more}
use Rattle.runcheck.proofs.keeps.Goals as goal

pub returns-then-kept : goal.returns-then-kept
returns-then-kept g c =
    says-yes (
      c.loop-i.i,
      omega arith,
      omega (arith, c.len-i-end.ensures, c.loop-i-test.true),
      (kept-says _ _ c.at.ensures c.kept.ensures).yes c.if-kept.true,
    )

pub loop-i-preserved : goal.loop-i-preserved
loop-i-preserved g c =
    missed_more (book_system c.args.book.now) (g.S.Part.items c.args.states) c.args.a c.args.k c.loop-i.i c.loop-i.invariant
    ((kept-says _ _ c.at.ensures c.kept.ensures).never c.if-kept.false)
