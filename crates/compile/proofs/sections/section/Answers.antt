-- One row more, behind those that stand. Assumes nothing.
use Rattle.std.proofs.Common.{◌≡◌, ◌+◌, ◌<◌, ◌≤◌, ℕ, length, sym, ◌∙◌, subst, arith}
use Rattle.reader.specs.Answer.{kind_of}
use Rattle.rules.specs.Book.{book_size, row_at, width_of}
use Rattle.compile.specs.Compile.{Sound, RowWritten, records_of}
use Rattle.compile.proofs.SectionLaws.{sound, row_within, none_written, row_more}
use Rattle.compile.proofs.sections.section.Goals as goal

pub loop-i-init : goal.loop-i-init
loop-i-init c = none_written _ _ _ _ c.requires.begins

pub compile-at-requires : goal.compile-at-requires
compile-at-requires c =
    let l = c.loop-i in
    let s = c.args.sheet.now in
    let kind = kind_of c.args.kind in
    let all = c.requires.all in
    let h : l.i < records_of kind s = omega arith in
    let long : length l.book ≡ book_size = l.invariant.keeps.long ∙ c.requires.long in
    let room = row_within s c.requires.good kind l.i h (omega arith) in
    let within : row_at kind l.i + width_of kind ≤ length l.book = omega arith in (
      subst (Sound kind s) (sym l.invariant.there) (sound s c.requires.good kind l.i h),
      subst (λ (row : ℕ). row + width_of kind ≤ length l.book) (sym c.row_at.ensures) within,
    )

pub loop-i-preserved : goal.loop-i-preserved
loop-i-preserved c =
    let w = c.compile-at in
    let a = c.args in
    let l = c.loop-i in
    let kind = kind_of a.kind in
    let written = subst (λ (row : ℕ). RowWritten kind a.sheet.now l.at l.book row w.new.book w.result) c.row_at.ensures w.ensures in
    row_more kind _ _ _ _ l.i l.at w.result l.invariant written
