-- `sample_step::passed` meets its contract, return by return. Assumes nothing.
use Rattle.std.proofs.Common.{sym, ◌∙◌, arith}
use Rattle.rules.specs.Book.{book_system}
use Rattle.rules.proofs.Facts.{promises-are}
use Rattle.sample_step.proofs.Nexts.{passed-back, passed_none, passed-not, passed_on}
use Rattle.sample_step.proofs.passed.Goals as goal

pub returns-then-p-eq0 : goal.returns-then-p-eq0
returns-then-p-eq0 c = passed_none (book_system c.args.book.now) c.args.aim c.args.s (omega (arith, promises-are c.args.book.now))

pub overflow_add-next : goal.overflow_add-next
overflow_add-next c = omega (arith, promises-are c.args.book.now, c.promises-p.ensures.few)

pub returns-then-next-p : goal.returns-then-next-p
returns-then-next-p c = passed_on _ _ _ (sym c.kept.ensures ∙ c.if-kept.true) (omega (arith, promises-are c.args.book.now))

pub returns-then-kept : goal.returns-then-kept
returns-then-kept c = passed-back _ _ _ (sym c.kept.ensures ∙ c.if-kept.true) (omega (arith, promises-are c.args.book.now))

pub returns : goal.returns
returns c =
    passed-not _ _ _ (sym c.kept.ensures ∙ c.if-kept.false) (omega (arith, promises-are c.args.book.now)) c.requires
