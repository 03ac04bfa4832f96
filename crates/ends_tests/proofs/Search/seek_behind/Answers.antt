-- `ends_tests::Search::seek_behind`, by the lemmas of `Answers`.
use Rattle.std.proofs.Common.{arith}
use Rattle.ends_tests.proofs.Answers.{sought-from, sought-front, sought-passed}
use Rattle.ends_tests.proofs.Search.seek_behind.Goals as goal

pub returns : goal.returns
returns c = rw c.in_default.is
    (sought-from _ _ _ _ _ _ _ _ _ (sought-passed _ _ _ _ _ _ _ c.in_default-seek.ensures) c.seek_listed.ensures)

pub returns-in-Some-seek : goal.returns-in-Some-seek
returns-in-Some-seek c = rw c.in_default.is (sought-front _ _ _ _ _ _ _ _ _ (omega arith) c.in-Some-seek.ensures)
