-- One step rule more is copied, or allows every move; after the last one all are gathered. Assumes nothing.
use Rattle.std.proofs.Common.{◌≡◌, ℕ, ◌+◌, ◌<◌, List, length, sym, ap, subst, subst₂, arith}
use Rattle.rules.specs.Book.{Shaped, gathered_at, steps_of}
use Rattle.rules.specs.Rows.{Copied}
use Rattle.rules.proofs.Gathering.{StepSofar, step-copied, step-free, steps-gathered}
use Rattle.rules.proofs.book.Book.gather_next.Goals.{then-binds, else-binds}
use Rattle.rules.proofs.book.Book.gather_next.Goals as goal

pub loop-i-preserved : goal.loop-i-preserved
loop-i-preserved c =
    let l = c.loop-i in
    let book = c.args.self.now in
    let shaped = subst Shaped c.self.view_is c.self.invariant in
    let rule : l.i < steps_of book = omega (arith, c.steps-i-end.ensures.number) in
    record {
      long = elim c.if-binds.branch [
        | then-binds w ↦ omega (arith, ap length w.clauses-is, w.copy.ensures.keeps.long, l.invariant.long)
        | else-binds w ↦ omega (arith, ap length w.clauses-is, l.invariant.long)
      ];
      gathered = elim c.if-binds.branch [
        | then-binds w ↦
            let to : w.at.result ≡ gathered_at l.n = omega arith in
            let copied = subst (λ (b : List ℕ). Copied b w.right_at.result l.clauses w.at.result w.copy.new.l) c.self.view_is
            w.copy.ensures in
            let row = subst₂ (λ (from to : ℕ). Copied book from l.clauses to w.copy.new.l) w.right_at.ensures to copied in
            subst₂ (λ (clauses : List ℕ) (n : ℕ). StepSofar book c.args.s clauses n (l.i + 1)) (sym w.clauses-is) (sym w.n-is)
            (step-copied book shaped c.args.s _ _ l.n l.i rule l.invariant.gathered (c.binds.ensures.asks w.if-binds.true) row)
        | else-binds w ↦
            subst₂ (λ (clauses : List ℕ) (n : ℕ). StepSofar book c.args.s clauses n (l.i + 1)) (sym w.clauses-is) (sym w.n-is)
            (step-free book shaped c.args.s _ l.n l.i l.invariant.gathered c.binds.ensures w.if-binds.false)
      ];
    }

pub returns : goal.returns
returns c =
    let l = c.loop-i in
    let e = c.steps-i-end.ensures.number in
    let shaped = subst Shaped c.self.view_is c.self.invariant in
    (steps-gathered _ shaped c.args.s _ l.n l.i (omega arith) (omega arith) l.invariant.gathered, l.invariant.long)
