-- `at` is where the records passed end. Assumes nothing.
use Rattle.std.proofs.Common.{◌≡◌}
use Rattle.meaning.specs.Sheet.{after_at}
use Rattle.clash_choice.proofs.skip.Given as goal

abbrev pub invariant-loop-record : goal.invariant-loop-record
invariant-loop-record l = l.at ≡ after_at l.sheet l._record l.from
