-- What `judge_book` found over the sheet's book is so of the sheet. Assumes nothing.
use Rattle.judge.proofs.Sheets.{good-judged}
use Rattle.judge.proofs.judge_good.Goals as goal

pub returns : goal.returns
returns c = good-judged c.requires c.compile.ensures c.judge_book.ensures
