-- Nothing is asked, or the right side's masks decide. Assumes nothing.
use Rattle.std.proofs.Common.{ℕ, List, subst, rules}
use Rattle.rules.specs.Book.{MasksRead}
use Rattle.rules.proofs.Binding.{binds-not, binds-if}
use Rattle.rules.proofs.book.Book.binds.Goals as goal

pub returns-then-not-step_asks : goal.returns-then-not-step_asks
returns-then-not-step_asks c = binds-not _ _ _ c.step_asks.ensures (search rules)

pub returns : goal.returns
returns c =
    let right = subst (λ (book : List ℕ). MasksRead book c.right_at.result c.masks_at-right.result) c.self.view_is
    c.masks_at-right.ensures in
    binds-if _ _ _ c.step_asks.ensures (search rules) c.right_at.ensures right
