-- Reason k + 1 has promise k. Assumes nothing.
use Rattle.std.proofs.Common.{refl}
use Rattle.rules.specs.Book.{book_system}
use Rattle.rules.proofs.Saying.{kept-says}
use Rattle.strikes_entries.proofs.Entries.{kept-by-says}
use Rattle.strikes_entries.proofs.kept_by.Goals as goal

pub returns : goal.returns
returns c = kept-by-says (book_system c.args.book.now) _ _ c.if-reason-eq0.false (kept-says c.args.book.now _ refl c.kept.ensures)
