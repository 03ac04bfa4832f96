-- `ends_tests::Search::seek_listed`, by the lemmas of `Least`.
use Rattle.std.proofs.Common.{refl}
use Rattle.ends_tests.proofs.Answers.{passed-max, sought-from}
use Rattle.ends_tests.proofs.Least.{listed-least, least-passed, least-found}
use Rattle.ends_tests.proofs.Search.seek_listed.Goals as goal

pub returns : goal.returns
returns c = sought-from _ _ _ _ _ _ _ _ _
    (passed-max _ _ _ _ _ _ _ _ c.max.ensures
    (least-passed _ _ _ _ _ _ _ _ _ (listed-least _ _ _ c.next_states.ensures refl c.if-next_states-eq0.false) c.place-p.ensures))
    c.seek.ensures

pub returns-then-still_stands : goal.returns-then-still_stands
returns-then-still_stands c =
    let at = c.still_stands.ensures.yes c.if-still_stands.true in
    least-found _ _ _ _ _ _ _ _ _ (listed-least _ _ _ c.next_states.ensures refl c.if-next_states-eq0.false) c.place-p.ensures
    at.0 at.1
