-- A state that is not lawful, and one that is. Assumes nothing.
use Rattle.std.proofs.Common.{get_or, arith, below_more}
use Rattle.ground.proofs.Saying.{says-no}
use Rattle.rules.specs.Book.{book_system}
use Rattle.rules.proofs.Saying.{lawful-says}
use Rattle.strikecheck.proofs.all_lawful.Goals as goal

pub returns-then-not-lawful : goal.returns-then-not-lawful
returns-then-not-lawful g c =
    says-no (λ all. (lawful-says c.args.book.now c.at.ensures c.lawful.ensures).never c.if-not-lawful.true
    (all c.loop-i.i (omega (arith, c.len-i-end.ensures, c.loop-i-test.true))))

pub loop-i-preserved : goal.loop-i-preserved
loop-i-preserved g c =
    below_more (λ j. (book_system c.args.book.now).Lawful (get_or (g.S.Part.items c.args.states) j 0)) c.loop-i.i c.loop-i.invariant
    ((lawful-says c.args.book.now c.at.ensures c.lawful.ensures).yes c.if-not-lawful.false)
