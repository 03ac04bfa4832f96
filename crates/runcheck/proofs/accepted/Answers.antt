-- Each refusal names the condition that fails, and the promises decide the rest. Assumes nothing.
use Rattle.std.proofs.Common.{arith}
use Rattle.ground.proofs.Saying.{says-no}
use Rattle.rules.proofs.Saying.{first_says, move-says}
use Rattle.runcheck.proofs.Running.{promises-decide}
use Rattle.runcheck.proofs.accepted.Goals as goal

pub returns-then-not-first_state : goal.returns-then-not-first_state
returns-then-not-first_state g c =
    says-no (λ h. (first_says _ c.at.ensures c.first_state.ensures).never c.if-not-first_state.true h.first)

pub returns-then-not-moves : goal.returns-then-not-moves
returns-then-not-moves g c =
    says-no (λ h. (move-says _ c.at-last.ensures c.at-back.ensures c.moves.ensures).never c.if-not-moves.true
    (h.closes _ (omega (arith, c.len-count.ensures, c.if-count-a.false))))

pub returns : goal.returns
returns g c =
    promises-decide (omega (arith, c.len-count.ensures, c.if-count-a.false))
    (omega (arith, c.len-count.ensures, c.if-count-a.false))
    ((first_says _ c.at.ensures c.first_state.ensures).yes c.if-not-first_state.false)
    (c.moves_on.ensures.yes c.if-not-moves_on.false)
    ((move-says _ c.at-last.ensures c.at-back.ensures c.moves.ensures).yes c.if-not-moves.false)
    c.keeps_all.ensures
