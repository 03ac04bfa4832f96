-- Whether the part is whole first, then the run in the book's system, which is the sheet's. Assumes nothing.
use Rattle.runcheck.proofs.Answers.{not-whole, by-the-run}
use Rattle.runcheck.proofs.paper_accepted.Goals as goal

pub returns-then-not-is_whole : goal.returns-then-not-is_whole
returns-then-not-is_whole g c = not-whole _ _ _ _ (c.is_whole.ensures.never c.if-not-is_whole.true)

pub returns : goal.returns
returns g c = by-the-run _ _ _ _ (c.is_whole.ensures.yes c.if-not-is_whole.false) c.compile.ensures c.accepted.ensures
