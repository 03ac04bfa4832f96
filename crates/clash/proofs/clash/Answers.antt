-- `clash` meets its contract: the number and the place of a bad sheet's fault, or what `plan_good` found. Assumes nothing.
use Rattle.reader.proofs.Good.{told}
use Rattle.clash_trials.specs.Trials.{lent_three}
use Rattle.clash.proofs.Answers.{planned-bad}
use Rattle.clash.proofs.clash.Goals as goal

pub plan_good-requires : goal.plan_good-requires
plan_good-requires c = told _ c.read_in_numbers.ensures c.in-Ok.is

pub returns-in-Err : goal.returns-in-Err
returns-in-Err c =
    let a = c.args in
    planned-bad (lent_three a.table.now a.words.now a.scratch.now) (told _ c.read_in_numbers.ensures c.in-Err.is)
