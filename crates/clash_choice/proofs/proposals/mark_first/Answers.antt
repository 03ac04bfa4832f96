-- `mark_first` meets its contract: what stands behind the filled part was unmarked. Assumes nothing.
use Rattle.std.proofs.Common.{arith, ◌≡◌, ℕ, List, ◌++◌, length, take, drop, replicate, ap, ap₂, ◌∙◌}
use Rattle.std.proofs.lemmas.List.{drop-replicate}
use Rattle.clash_choice.proofs.proposals.mark_first.Goals as goal

pub returns : goal.returns
returns c =
    let marks = c.args.marks.now in
    let count = c.args.count in
    let many : length (take count marks) ≡ count = omega arith in
    ap₂ (λ (a b : List ℕ). a ++ b) (c.fill.ensures.after (λ y e. e) ∙ ap (λ (n : ℕ). replicate n 1) many)
    (ap (drop count) c.requires.1 ∙ drop-replicate count 255 0)
