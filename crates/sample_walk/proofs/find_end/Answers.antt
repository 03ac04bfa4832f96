-- `sample_walk::find_end` meets its contract. Assumes nothing.
use Rattle.std.proofs.Common.{◌≡◌, ℕ, subst, sym, get_or, arith}
use Rattle.std.proofs.lemmas.Grind.{common_steps}
use Rattle.ground.specs.Bits.{bit}
use Rattle.ground.proofs.Marking.{marked-of, unmarked-of}
use Rattle.sample_walk.proofs.Trails.{Walking, walking-begins, walking-aim, walking-asks, walking-ends, walking-room, walking-few, walking-goes}
use Rattle.sample_walk.proofs.find_end.Goals as goal

pub loop-next-init : goal.loop-next-init
loop-next-init c =
    let first = c.first_moment-at in
    let a = c.args in
    let P : ℕ → Type 0
    = λ aim. Walking a.book.now a.table.now a.dist.now a.forth.now a.signs.now a.words.now a.words.now a.r 0 first.result.place aim in
    subst P (sym first.ensures.1) (walking-begins c.requires.0 c.requires.3 c.requires.1 c.requires.2 _ first.ensures.0)

pub met-requires : goal.met-requires
met-requires c = omega (arith, walking-aim c.loop-next.invariant)

pub step-next-requires : goal.step-next-requires
step-next-requires c = walking-asks c.loop-next.invariant

pub mark-requires : goal.mark-requires
mark-requires c = omega (arith, walking-aim c.loop-next.invariant)

pub overflow_add-b : goal.overflow_add-b
overflow_add-b c =
    let unmet : bit c.loop-next.at.aim (get_or c.loop-next.words c.loop-next.at.place 0) ≡ 1 → ⊥
    = unmarked-of _ c.met.result c.met.ensures (grind (arith, common_steps)) in
    omega (arith, walking-few c.loop-next.invariant unmet)

pub loop-next-smaller : goal.loop-next-smaller
loop-next-smaller c =
    let unmet : bit c.loop-next.at.aim (get_or c.loop-next.words c.loop-next.at.place 0) ≡ 1 → ⊥
    = unmarked-of _ c.met.result c.met.ensures (grind (arith, common_steps)) in
    omega (arith, walking-room c.loop-next.invariant unmet)

pub loop-next-preserved : goal.loop-next-preserved
loop-next-preserved c =
    let unmet : bit c.loop-next.at.aim (get_or c.loop-next.words c.loop-next.at.place 0) ≡ 1 → ⊥
    = unmarked-of _ c.met.result c.met.ensures (grind (arith, common_steps)) in
    walking-goes c.loop-next.invariant unmet _ _ _ c.mark.ensures c.step-next.ensures

pub returns : goal.returns
returns c = walking-ends c.loop-next.invariant (marked-of _ c.met.result c.met.ensures (grind (arith, common_steps)))
