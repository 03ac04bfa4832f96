-- `rounds_along::phase` meets its contract: one row is lent to the phase, and put back. Assumes nothing.
use Rattle.std.proofs.Common.{refl, arith}
use Rattle.rounds.proofs.Lending.{first-turned, promise-turned}
use Rattle.rounds_along.proofs.WaysOn.{turn-endable, turn-watching}
use Rattle.rounds_along.proofs.phase.Goals as goal

pub phase-requires : goal.phase-requires
phase-requires c = turn-endable c.requires c.if-reason-eq0.true

pub returns-then-reason-eq0 : goal.returns-then-reason-eq0
returns-then-reason-eq0 c =
    (first-turned c.requires.lent.room _ c.if-reason-eq0.true c.phase.ensures.long c.phase.ensures, refl)

pub phase-requires-2 : goal.phase-requires-2
phase-requires-2 c = turn-watching c.requires (omega arith)

pub returns : goal.returns
returns c = (promise-turned c.requires.lent.room _ (omega arith) c.phase-2.ensures.0, c.phase-2.ensures.1)
