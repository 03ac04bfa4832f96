-- A reason above the number of promises, and one that fits. Assumes nothing.
use Rattle.std.proofs.Common.{◌%◌, ◌≤◌, get_or, arith, below_more}
use Rattle.ground.proofs.Saying.{says-no}
use Rattle.rules.specs.Book.{book_system}
use Rattle.strikecheck.proofs.Conditions.{reason-fits, reason-above}
use Rattle.strikecheck.proofs.reasons_fit.Goals as goal

pub returns-then-promises-reason : goal.returns-then-promises-reason
returns-then-promises-reason g c =
    says-no (λ all. reason-above c.args.book.now c.at.ensures c.promises-promises.ensures.number c.if-promises-reason.true
    (all c.loop-i.i (omega (arith, c.len-i-end.ensures, c.loop-i-test.true))))

pub loop-i-preserved : goal.loop-i-preserved
loop-i-preserved g c =
    below_more (λ j. get_or (g.W.Part.items c.args.words) j 0 % 32 ≤ (book_system c.args.book.now).promises) c.loop-i.i
    c.loop-i.invariant (reason-fits c.args.book.now c.at.ensures c.promises-promises.ensures.number c.if-promises-reason.false)
