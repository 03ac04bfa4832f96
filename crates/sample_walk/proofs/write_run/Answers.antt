-- `sample_walk::write_run` meets its contract. Assumes nothing.
use Rattle.std.proofs.Common.{ℕ, subst, sym, arith}
use Rattle.rules.specs.Book.{book_system}
use Rattle.sample_walk.proofs.Trails.{moment-aim}
use Rattle.sample_walk.proofs.Writings.{Writing, writing-ends, writing-goes, writing-starts}
use Rattle.sample_walk.proofs.write_run.Goals as goal

pub loop-i-init : goal.loop-i-init
loop-i-init c =
    let first = c.first_moment-at in
    let a = c.args in
    let known = c.requires.0 in
    let P : ℕ → Type 0
    = λ aim. Writing (book_system a.book.now) a.table.now a.end.b a.end.at.place a.end.at.aim a.run.now a.run.now a.r 0 first.result.place
    aim 0 in
    subst P (sym first.ensures.1) (writing-starts a.run.now known.walkable.states _ first.ensures.0 known.cut)

pub step-at-requires : goal.step-at-requires
step-at-requires c =
    let at = c.loop-i.invariant.at in
    (c.requires.0.walkable, at.inside, moment-aim at, c.requires.1)

pub loop-i-preserved : goal.loop-i-preserved
loop-i-preserved c =
    let inv = c.loop-i.invariant in
    let known = c.requires.0 in
    writing-goes known.walkable.states.livables inv known.inside (omega (arith, inv.long, known.fits)) _ _ _ c.back_from-a.ensures
    c.step-at.ensures

pub returns : goal.returns
returns c = writing-ends c.requires.0.walkable.states.livables c.loop-i.invariant (omega arith)
