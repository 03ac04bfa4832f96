-- Carried on by the compiled sheet. Assumes nothing.
use Rattle.std.proofs.Common.{refl, ◌∙◌}
use Rattle.audit_account.specs.Carry.{done}
use Rattle.audit_account.proofs.Compiled.{book-carried}
use Rattle.audit.proofs.audit_good.Goals as goal

pub returns : goal.returns
returns c =
    done c.requires (c.past.ensures.never c.if-past.false) refl refl
    (c.carry-back.ensures ∙ book-carried c.compile.ensures _ _)
