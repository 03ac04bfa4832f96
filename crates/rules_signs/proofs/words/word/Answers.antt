-- A bit is set for a rule that passes, and left out for one that does not. Assumes nothing.
use Rattle.std.proofs.Common.{ℕ, ◌+◌, ◌-◌, sym, subst, ◌∙◌, arith}
use Rattle.rules_signs.specs.Live.{sign_test}
use Rattle.rules_signs.proofs.Marking.{Marked, marked-none, marked-set, marked-past}
use Rattle.rules_signs.proofs.words.word.Goals.{then-asks, else-asks}
use Rattle.rules_signs.proofs.words.word.Goals as goal

pub loop-c-init : goal.loop-c-init
loop-c-init c = marked-none _ _ _

pub loop-c-preserved : goal.loop-c-preserved
loop-c-preserved c =
    let a = c.args in
    let l = c.loop-c in
    let Next : ℕ → Type 0 = Marked (sign_test a.ahead a.book.now a.live.now a.s) a.from a.n (l.c + 1) in
    elim c.if-asks.branch [
      | then-asks w ↦
          subst Next (sym w.x-is)
          (marked-set (l.c - a.from) _ l.invariant (omega arith) (omega (arith, c.min-end.ensures)) (sym c.asks.ensures ∙ w.if-asks.true)
          w.mark-x.ensures)
      | else-asks w ↦ subst Next (sym w.x-is) (marked-past l.invariant (sym c.asks.ensures ∙ w.if-asks.false))
    ]
