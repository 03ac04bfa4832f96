-- `watch_tests::rehang_lost`, by the lemmas of `Testing`.
use Rattle.std.proofs.Common.{arith}
use Rattle.watch_tests.proofs.Ranking.{copied-ranked}
use Rattle.watch_tests.proofs.Testing.{copied-testable, hangable-hangs}
use Rattle.watch_tests.proofs.rehang_lost.Goals as goal

pub ask-n-requires : goal.ask-n-requires
ask-n-requires c =
    let C = c.copy-k.ensures in
    let pre = c.requires in
    (copied-testable pre.0 (omega (arith, pre.2)) C, hangable-hangs pre.1, copied-ranked pre.1 (λ s h. absurd (omega arith)) C)
