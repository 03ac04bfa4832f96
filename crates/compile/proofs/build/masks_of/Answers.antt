-- One literal more is summed, and at the end the sums are the masks. Assumes nothing.
use Rattle.std.proofs.Common.{ℕ, ◌+◌, sym, ◌∙◌, subst₂, arith}
use Rattle.compile.proofs.Summing.{Summed, held_more, unheld-more, sums-fit, all-summed}
use Rattle.compile.proofs.build.masks_of.Goals.{then-is_positive, else-is_positive}
use Rattle.compile.proofs.build.masks_of.Goals as goal

pub overflow_add-held : goal.overflow_add-held
overflow_add-held c =
    let so = held_more _ c.requires _ _ _ c.loop-b.invariant (omega arith) (sym c.is_positive.ensures ∙ c.if-is_positive.true)
    c.named_bit-bit.ensures in
    omega (arith, (sums-fit _ c.requires _ _ _ so).0)

pub overflow_add-unheld : goal.overflow_add-unheld
overflow_add-unheld c =
    let so = unheld-more _ c.requires _ _ _ c.loop-b.invariant (omega arith) (sym c.is_positive.ensures ∙ c.if-is_positive.false)
    c.named_bit-bit.ensures in
    omega (arith, (sums-fit _ c.requires _ _ _ so).1)

pub loop-b-preserved : goal.loop-b-preserved
loop-b-preserved c =
    let l = c.loop-b in
    let Next : ℕ → ℕ → Type 0 = Summed c.args.literals.now (l.b-index + 1) in
    elim c.if-is_positive.branch [
      | then-is_positive w ↦
          subst₂ Next (sym w.held-is) (sym w.unheld-is)
          (held_more _ c.requires _ _ _ l.invariant (omega arith) (sym c.is_positive.ensures ∙ w.if-is_positive.true)
          c.named_bit-bit.ensures)
      | else-is_positive w ↦
          subst₂ Next (sym w.held-is) (sym w.unheld-is)
          (unheld-more _ c.requires _ _ _ l.invariant (omega arith) (sym c.is_positive.ensures ∙ w.if-is_positive.false)
          c.named_bit-bit.ensures)
    ]

pub returns-clause-held : goal.returns-clause-held
returns-clause-held c = (all-summed _ c.requires _ _ _ c.loop-b.invariant (omega arith)).0

pub returns-clause-unheld : goal.returns-clause-unheld
returns-clause-unheld c = (all-summed _ c.requires _ _ _ c.loop-b.invariant (omega arith)).1
