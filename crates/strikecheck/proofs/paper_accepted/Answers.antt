-- Whether the parts are whole first, then the list in the book's system, which is the sheet's. Assumes nothing.
use Rattle.strikecheck.proofs.Answers.{states-not-whole, words-not-whole, by-the-list}
use Rattle.strikecheck.proofs.paper_accepted.Goals as goal
use Rattle.strikecheck.proofs.paper_accepted.Goals.{then-not-is_whole-via-then-not-is_whole}
use Rattle.strikecheck.proofs.paper_accepted.Goals.{then-not-is_whole-via-else-not-is_whole+then-not-is_whole-2}

pub returns-then-not-is_whole : goal.returns-then-not-is_whole
returns-then-not-is_whole g c =
    elim c.then-not-is_whole.branch [
      | then-not-is_whole-via-then-not-is_whole w ↦ states-not-whole _ _ _ _ _ (c.is_whole.ensures.never w.if-not-is_whole.true)
      | then-not-is_whole-via-else-not-is_whole+then-not-is_whole-2 w ↦
          words-not-whole _ _ _ _ _ (w.is_whole-else-not-is_whole.ensures.never w.if-not-is_whole-2.true)
    ]

pub returns : goal.returns
returns g c =
    by-the-list _ _ _ _ _ (c.is_whole.ensures.yes c.if-not-is_whole.false)
    (c.is_whole-else-not-is_whole.ensures.yes c.if-not-is_whole-2.false) c.compile.ensures c.accepted.ensures
