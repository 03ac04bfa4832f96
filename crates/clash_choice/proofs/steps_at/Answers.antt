-- `steps_at` meets its contract: the limits passed, then the first rules. Assumes nothing.
use Rattle.std.proofs.Common.{arith, ℕ, ◌∙◌, ap}
use Rattle.meaning.specs.Sheet.{byte, after_at, firsts_at, steps_at}
use Rattle.reader.specs.Header.{firsts_in}
use Rattle.reader.proofs.Good.{good-header}
use Rattle.clash_choice.proofs.Places.{limits-in, firsts-in}
use Rattle.clash_choice.proofs.steps_at.Goals as goal

pub bounds-sheet-4 : goal.bounds-sheet-4
bounds-sheet-4 c = omega (arith, (good-header _ c.requires).least)

pub skip-at-requires : goal.skip-at-requires
unfolding byte
skip-at-requires c = limits-in _ c.requires

pub bounds-sheet-5 : goal.bounds-sheet-5
bounds-sheet-5 c = omega (arith, (good-header _ c.requires).least)

pub skip-requires : goal.skip-requires
unfolding byte firsts_at
skip-requires c = rw c.skip-at.ensures (firsts-in _ c.requires)

pub returns : goal.returns
unfolding byte firsts_at steps_at
returns c =
    let sheet = c.args.sheet.now in
    c.skip.ensures ∙ ap (λ (n : ℕ). after_at sheet (firsts_in sheet) n) c.skip-at.ensures
