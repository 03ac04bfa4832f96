-- `rounds_tests::phase` meets its contract: one row is lent to the phase, and put back. Assumes nothing.
use Rattle.std.proofs.Common.{refl, arith}
use Rattle.rounds.proofs.Lending.{first-turned, promise-turned}
use Rattle.rounds_tests.proofs.Pointing.{turn-striking, turn-watching}
use Rattle.rounds_tests.proofs.phase.Goals as goal

pub dead_ends-requires : goal.dead_ends-requires
dead_ends-requires c = turn-striking c.requires

pub returns-then-reason-eq0 : goal.returns-then-reason-eq0
returns-then-reason-eq0 c =
    (first-turned c.requires.lent.room _ c.if-reason-eq0.true c.dead_ends.ensures.row-long c.dead_ends.ensures, refl)

pub phase-requires : goal.phase-requires
phase-requires c = turn-watching c.requires (omega arith)

pub returns : goal.returns
returns c = (promise-turned c.requires.lent.room _ (omega arith) c.phase.ensures.0, c.phase.ensures.1)
