-- One first rule more is copied behind those that stand, and after the last one all are gathered. Assumes nothing.
use Rattle.std.proofs.Common.{◌≡◌, ℕ, List, sym, subst, subst₂, arith}
use Rattle.rules.specs.Book.{FirstClauses, Shaped, gathered_at}
use Rattle.rules.specs.Rows.{Copied}
use Rattle.rules.proofs.Gathering.{first-copied, first-gathered}
use Rattle.rules.proofs.book.Book.gather_first.Goals as goal

pub loop-i-preserved : goal.loop-i-preserved
loop-i-preserved c =
    let l = c.loop-i in
    let to : c.at-in-loop-i.result ≡ gathered_at l.i = omega arith in
    let copied = subst (λ (book : List ℕ). Copied book c.at.result l.clauses c.at-in-loop-i.result c.copy.new.l) c.self.view_is
    c.copy.ensures in
    let row = subst₂ (λ (from to : ℕ). Copied c.args.self.now from l.clauses to c.copy.new.l) c.at.ensures to copied in
    let shaped = subst Shaped c.self.view_is c.self.invariant in
    record {
      long = omega (arith, row.keeps.long, l.invariant.long);
      gathered = first-copied _ shaped _ _ _ (omega (arith, c.firsts-count.ensures.number)) l.invariant.gathered row;
    }

pub returns : goal.returns
returns c =
    let l = c.loop-i in
    let e = c.firsts-count.ensures.number in
    let shaped = subst Shaped c.self.view_is c.self.invariant in
    let all = first-gathered _ shaped _ l.i (omega arith) (omega arith) l.invariant.gathered in
    (subst (FirstClauses c.args.self.now l.clauses) (sym e) all, l.invariant.long)
