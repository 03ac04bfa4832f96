-- `reader::cursor::Cursor::records`: what is left of the section has the fault of the whole. Assumes nothing.
use Rattle.std.proofs.Common.{◌≡◌, ℕ, ◌+◌, ◌-◌, sym, subst, arith}
use Rattle.std.proofs.lemmas.Result.{err_from_is_err_and}
use Rattle.reader.specs.Answer.{kind_of}
use Rattle.reader.proofs.Sections.{Section, section-done, section-refused, section-goes-on}
use Rattle.reader.proofs.cursor.Cursor.records.Goals as goal

pub returns-in_err-c : goal.returns-in_err-c
returns-in_err-c c =
    let p = err_from_is_err_and c.from_residual.result c.from_residual.ensures.1 in
    rw (p.1, p.2) (section-refused _ _ _ _ _ _ _ c.loop.invariant (omega arith) (sym c.in_err-c.ensures))

pub loop-preserved : goal.loop-preserved
loop-preserved c =
    let a = c.args in
    let one : (a.count - c.loop.counter) - 1 ≡ a.count - (c.loop.counter + 1) = omega arith in
    subst (λ (left : ℕ). Section (kind_of a.kind) a.n a.s.now a.count a.self.at left c.in_ok-c.c.at) one
    (section-goes-on _ _ _ _ _ _ _ c.loop.invariant (omega arith) (sym c.in_ok-c.ensures))

pub returns : goal.returns
returns c = section-done _ _ _ _ _ _ _ c.loop.invariant (omega arith)
