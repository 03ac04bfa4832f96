-- `mark` meets its contract. Assumes nothing.
use Rattle.std.proofs.Common.{arith, ℕ, ◌-◌, List, get_or, set, refl, ap, ◌∙◌}
use Rattle.clash_choice.specs.Proposals.{marks_of}
use Rattle.clash_choice.proofs.Marks.{marks-next}
use Rattle.clash_choice.proofs.proposals.mark.Goals as goal

pub loop-number-init : goal.loop-number-init
unfolding marks_of
loop-number-init c = refl

pub loop-number-preserved : goal.loop-number-preserved
loop-number-preserved c =
    let numbers = c.args.rules.now in
    let i = c.loop-number.number-index in
    ap (λ (m : List ℕ). set m (get_or numbers i 0 - 1) 1) c.loop-number.invariant ∙ marks-next numbers i (omega arith)
