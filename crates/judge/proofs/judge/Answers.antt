-- `judge` meets its contract: the number and the place of a bad sheet's fault, or what `judge_good` found. Assumes nothing.
use Rattle.reader.proofs.Good.{told}
use Rattle.judge_answer.specs.Judging.{lent_of}
use Rattle.judge.proofs.Sheets.{bad-judged}
use Rattle.judge.proofs.judge.Goals as goal

pub judge_good-requires : goal.judge_good-requires
judge_good-requires c = told _ c.read_in_numbers.ensures c.in-Ok.is

pub returns-in-Err : goal.returns-in-Err
returns-in-Err c =
    let a = c.args in
    bad-judged (lent_of a.table.now a.words.now a.scratch.now a.run.now) (told _ c.read_in_numbers.ensures c.in-Err.is) c.refusal.ensures
