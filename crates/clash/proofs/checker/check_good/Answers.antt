-- `check_good` meets its contract. Assumes nothing.
use Rattle.std.proofs.Common.{arith}
use Rattle.clash_trials.specs.Trials.{lent_three}
use Rattle.clash_choice.proofs.Proposing.{proposal-wider}
use Rattle.clash.proofs.Answers.{has-count, checked-misnumbered, checked-weighed}
use Rattle.clash.proofs.checker.check_good.Goals as goal

pub bounds-sheet-6 : goal.bounds-sheet-6
bounds-sheet-6 c = has-count c.args.sheet.now c.requires

pub returns-then-not-is_proposal : goal.returns-then-not-is_proposal
returns-then-not-is_proposal c =
    let a = c.args in
    checked-misnumbered (lent_three a.table.now a.words.now a.scratch.now) c.requires c.is_proposal.ensures c.if-not-is_proposal.true

pub mark-marks-requires : goal.mark-marks-requires
mark-marks-requires c = proposal-wider (omega (arith, c.type_inv.sheet 6)) (c.is_proposal.ensures.yes c.if-not-is_proposal.false)

pub returns-in-Ok : goal.returns-in-Ok
returns-in-Ok c =
    checked-weighed c.requires (c.is_proposal.ensures.yes c.if-not-is_proposal.false) c.mark-marks.ensures c.in-Ok.ensures c.clear.ensures

pub returns-in-Err : goal.returns-in-Err
returns-in-Err c =
    rw c.from.ensures (checked-weighed c.requires (c.is_proposal.ensures.yes c.if-not-is_proposal.false) c.mark-marks.ensures
    c.in-Err.ensures c.clear.ensures)
