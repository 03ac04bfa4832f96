-- A promise that is not kept, one that is, and the last one. Assumes nothing.
use Rattle.std.proofs.Common.{arith, below_more}
use Rattle.ground.proofs.Saying.{says-yes, says-no}
use Rattle.rules.specs.Book.{book_system}
use Rattle.runcheck.proofs.keeps_all.Goals as goal

pub returns-then-not-keeps : goal.returns-then-not-keeps
unfolding book_system
returns-then-not-keeps g c =
    says-no (λ all. c.keeps.ensures.never c.if-not-keeps.true
    (all c.loop-k.k (omega (arith, c.promises-k-end.ensures.number, c.loop-k-test.true))))

pub loop-k-preserved : goal.loop-k-preserved
loop-k-preserved g c = below_more _ _ c.loop-k.invariant (c.keeps.ensures.yes c.if-not-keeps.false)

pub returns : goal.returns
unfolding book_system
returns g c = says-yes (λ j h. c.loop-k.invariant j (omega (arith, c.promises-k-end.ensures.number, c.loop-k-test.false)))
