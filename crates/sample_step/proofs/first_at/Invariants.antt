-- The loop of `sample_step::first_at`: none of the first x places is a next place at just that distance. Assumes nothing.
use Rattle.std.proofs.Common.{◌≡◌, ℕ, ◌<◌}
use Rattle.rules.specs.Table.{To}
use Rattle.sample_step.specs.Step.{row_at}
use Rattle.sample_step.proofs.first_at.Given as goal

abbrev pub invariant-loop-x : goal.invariant-loop-x
invariant-loop-x l = (y : ℕ) → y < l.x → (row_at l.dist l.from y ≡ l.wanted) × To l.book l.table l.place y → ⊥
