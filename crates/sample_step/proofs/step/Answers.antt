-- `sample_step::step` meets its contract: the aim passes, and what the row or the scan gives is the best next state. Assumes nothing.
use Rattle.std.proofs.Common.{◌≡◌, length, arith}
use Rattle.std.proofs.lemmas.Grind.{common_steps}
use Rattle.sample_step.proofs.Nexts.{row-lookable, best-in-row}
use Rattle.sample_step.proofs.step.Goals as goal

pub nearest_in_row-place-requires : goal.nearest_in_row-place-requires
nearest_in_row-place-requires c =
    let some : length c.args.forth.now ≡ 0 → ⊥ = grind (arith, common_steps) in
    row-lookable c.requires.0 c.args.at.place c.passed-aim.result c.requires.1 c.passed-aim.ensures.1 (c.requires.3.stored some)

pub returns : goal.returns
returns c =
    let some : length c.args.forth.now ≡ 0 → ⊥ = grind (arith, common_steps) in
    record {
      passes = c.passed-aim.ensures.0;
      aimed = c.passed-aim.ensures.1;
      best = best-in-row c.requires.0 c.args.at.place c.passed-aim.result c.requires.1 c.passed-aim.ensures.1 (c.requires.3.stored some)
          c.nearest_in_row-place.result c.nearest_in_row-place.ensures;
    }
