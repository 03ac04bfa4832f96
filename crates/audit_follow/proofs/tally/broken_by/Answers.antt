-- `broken_by` meets its contract. Assumes nothing.
use Rattle.std.proofs.Common.{ap₂, Bool, not, ◌&&◌}
use Rattle.audit_account.specs.Book.{broken_by}
use Rattle.audit_follow.proofs.tally.broken_by.Goals as goal

pub returns : goal.returns
unfolding broken_by
returns c = ap₂ (λ (x y : Bool). x && not y) c.step_asks-asks.ensures c.step_allows-allows.ensures
