-- A bad sheet's number and place, else what is said of the paper and no place. Assumes nothing.
use Rattle.reader.proofs.Good.{told}
use Rattle.papers.proofs.Verdict.{placed-refused, placed-paper}
use Rattle.runcheck.specs.Run.{PaperChecked}
use Rattle.runcheck.proofs.check.Goals as goal

pub paper_accepted-requires : goal.paper_accepted-requires
paper_accepted-requires g c = told _ c.read_in_numbers.ensures c.in-Ok.is

pub returns-in-Ok : goal.returns-in-Ok
unfolding PaperChecked
returns-in-Ok g c = placed-paper _ (told _ c.read_in_numbers.ensures c.in-Ok.is) c.paper_accepted.ensures c.on_paper.ensures

pub returns-in-Err : goal.returns-in-Err
unfolding PaperChecked
returns-in-Err g c = placed-refused _ (told _ c.read_in_numbers.ensures c.in-Err.is)
