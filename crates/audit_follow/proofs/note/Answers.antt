-- `note` meets its contract: the first breach stays, there is none, or this is it. Assumes nothing.
use Rattle.std.proofs.Common.{false, refl, sym}
use Rattle.audit_follow.proofs.Heads.{noted-by, noted-breach-numbers, some-breach, told-before, none-now, first-now}
use Rattle.audit_follow.proofs.note.Goals as goal

pub returns-then-head-ne-NOTHING : goal.returns-then-head-ne-NOTHING
returns-then-head-ne-NOTHING c =
    let h = c.args.head in
    sym (noted-by c.args.book.now h _ _ _ _ false refl (told-before h.what _ c.if-head-ne-NOTHING.true))

pub returns-in-None : goal.returns-in-None
returns-in-None c =
    let h = c.args.head in
    sym (noted-by c.args.book.now h _ _ _ _ false refl (none-now h.what _ (sym c.in-None.ensures)))

pub returns-in-Some : goal.returns-in-Some
returns-in-Some c =
    rw c.from.ensures (noted-breach-numbers _ _ _ _ _ _ _ c.in-Some.ensures
    (first-now _ _ c.if-head-ne-NOTHING.false (some-breach c.in-Some.breach)) c.rule_told.ensures)
