-- A place with the value is put behind those before it, and any other is passed by.
use Rattle.std.proofs.Common.{◌≤◌, ◌<◌, ◌∙◌, sym, get_or, arith}
use Rattle.std.proofs.lemmas.List.{get_or-take, length-take-le}
use Rattle.distances.specs.Far.{far}
use Rattle.distances.proofs.Lining.{lined-past, lined-more}
use Rattle.distances.proofs.line_up.Goals as goal
use Rattle.distances.proofs.line_up.Goals.{then-x-v, else-x-v}

pub loop-i-preserved : goal.loop-i-preserved
loop-i-preserved c =
    let inside : c.loop-i.i < c.args.r = omega (arith, length-take-le c.args.r c.args.near.now c.requires.0) in
    let same = get_or-take c.args.r c.args.near.now c.loop-i.i 0 inside in
    let most : get_or c.args.near.now c.loop-i.i 0 ≤ far = omega (arith, c.type_inv.near c.loop-i.i) in
    elim c.if-x-v.branch [
      | then-x-v w ↦ rw (w.list-is, w.tail-is) (lined-more _ _ _ _ _ c.loop-i.invariant (sym same ∙ w.if-x-v.true) (omega arith))
      | else-x-v w ↦ rw (w.list-is, w.tail-is) (lined-past _ _ _ _ _ c.loop-i.invariant most (λ e. w.if-x-v.false (same ∙ e)))
    ]
