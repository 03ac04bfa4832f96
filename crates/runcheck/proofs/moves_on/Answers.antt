-- A state that does not move to the following one, and one that does. Assumes nothing.
use Rattle.std.proofs.Common.{arith}
use Rattle.ground.proofs.Saying.{says-no}
use Rattle.rules.specs.Book.{book_system}
use Rattle.rules.proofs.Saying.{move-says}
use Rattle.runcheck.proofs.Running.{Moves, steps-more, step-at}
use Rattle.runcheck.proofs.moves_on.Goals as goal

pub returns-then-not-moves : goal.returns-then-not-moves
returns-then-not-moves g c =
    let step = Moves (book_system c.args.book.now) (g.S.Part.items c.args.states) in
    says-no (λ all. (move-says _ c.at.ensures c.at-in-loop-i.ensures c.moves.ensures).never c.if-not-moves.true
    (step-at step c.loop-i.i c.loop-i.auto.i (omega (arith, c.len-i-end.ensures, c.loop-i-test.true)) all))

pub loop-i-preserved : goal.loop-i-preserved
loop-i-preserved g c =
    let step = Moves (book_system c.args.book.now) (g.S.Part.items c.args.states) in
    steps-more step c.loop-i.i c.loop-i.auto.i c.loop-i.invariant
    ((move-says _ c.at.ensures c.at-in-loop-i.ensures c.moves.ensures).yes c.if-not-moves.false)
