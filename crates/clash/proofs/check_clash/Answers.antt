-- `check_clash` meets its contract: the number and the place of a bad sheet's fault, or what `check_good` found. Assumes nothing.
use Rattle.reader.proofs.Good.{told}
use Rattle.clash_trials.specs.Trials.{lent_three}
use Rattle.clash.proofs.Answers.{checked-bad}
use Rattle.clash.proofs.check_clash.Goals as goal

pub check_good-answer-requires : goal.check_good-answer-requires
check_good-answer-requires c = told _ c.read_in_numbers.ensures c.in-Ok.is

pub returns-in-Err : goal.returns-in-Err
returns-in-Err c =
    let a = c.args in
    checked-bad a.rules.now (lent_three a.table.now a.words.now a.scratch.now) (told _ c.read_in_numbers.ensures c.in-Err.is)
