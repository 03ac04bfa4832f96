-- The rule asks nothing after the states before. Assumes nothing.
use Rattle.std.proofs.Common.{ℕ, ◌<◌}
use Rattle.rules_signs.specs.Live.{AsksAfter}
use Rattle.rules_signs.proofs.live.asks_somewhere.Given as goal

abbrev pub invariant-loop-s : goal.invariant-loop-s
invariant-loop-s l = (q : ℕ) → q < l.s-index → AsksAfter l.book l.table l.i q → ⊥
