-- `follow` meets its contract. Assumes nothing.
use Rattle.std.proofs.Common.{arith}
use Rattle.audit_follow.proofs.Following.{following-none, following-fits, following-next, following-all}
use Rattle.audit_follow.proofs.follow.Goals as goal

pub loop-i-init : goal.loop-i-init
loop-i-init c = following-none _ _ _ c.requires

pub overflow_cast-times : goal.overflow_cast-times
overflow_cast-times c = omega (arith, c.same_moves-same.ensures.within, c.loop-i.invariant.fits)

pub move_into-broke-requires : goal.move_into-broke-requires
move_into-broke-requires c =
    let fits = following-fits _ c.loop-i.invariant c.same_moves-same.ensures.within in
    (omega (arith, c.same_moves-same.ensures.within, c.loop-i.invariant.fits), fits.0, fits.1)

pub note-last-requires : goal.note-last-requires
note-last-requires c = (following-fits _ c.loop-i.invariant c.same_moves-same.ensures.within).2

pub loop-i-smaller : goal.loop-i-smaller
loop-i-smaller c = omega (arith, c.same_moves-same.ensures.some, c.same_moves-same.ensures.within)

pub loop-i-preserved : goal.loop-i-preserved
loop-i-preserved c =
    following-next _ _ _ _ _ _ _ _ _ _ _ _ c.loop-i.invariant c.same_moves-same.ensures c.move_into-broke.ensures c.note-last.ensures

pub returns : goal.returns
returns c = following-all c.loop-i.invariant c.loop-i-test.false
