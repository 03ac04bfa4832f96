-- `clear` meets its contract. Assumes nothing.
use Rattle.clash.proofs.Answers.{cleared-three}
use Rattle.clash.proofs.slices.clear.Goals as goal

pub returns : goal.returns
returns c =
    let a = c.args in
    cleared-three a.table.now a.words.now a.scratch.now
    (c.fill.ensures.after (λ y e. e)) (c.fill-2.ensures.after (λ y e. e)) (c.fill-3.ensures.after (λ y e. e))
