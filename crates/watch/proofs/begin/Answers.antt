-- `watch::begin`, by the lemmas of `Beginning`.
use Rattle.std.proofs.Common.{refl, sym, ◌∙◌, ◌<◌, length, arith}
use Rattle.watch.proofs.Beginning.{beginning-none, beginning-more, beginning-done, no_both}
use Rattle.watch.proofs.begin.Goals as goal
use Rattle.watch.proofs.begin.Goals.{then-kept, else-kept}

pub loop-i-init : goal.loop-i-init
loop-i-init c = beginning-none _ _ _ _

-- Whether the promise is kept decides what the place begins with.
pub loop-i-preserved : goal.loop-i-preserved
loop-i-preserved c =
    let inside : c.loop-i.i < length c.loop-i.row = omega arith in
    elim c.if-kept.branch [
      | then-kept w ↦ let held = sym c.kept.ensures ∙ w.if-kept.true in
          rw w.number-is (beginning-more c.loop-i.invariant _ inside (λ _. refl) (λ n. absurd (n held)))
      | else-kept w ↦ rw w.number-is (beginning-more c.loop-i.invariant _ inside
          (λ e. absurd (no_both e (sym c.kept.ensures ∙ w.if-kept.false))) (λ _. refl))
    ]

pub returns : goal.returns
returns c = beginning-done c.loop-i.invariant (omega arith)
