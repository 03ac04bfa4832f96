-- One row more: its first half, then its second. Assumes nothing.
use Rattle.std.proofs.Common.{◌≡◌, ℕ, Bool, true, false, List, get_or, take, length-take, subst, subst₂, arith}
use Rattle.std.proofs.lemmas.List.{get_or-take}
use Rattle.rules.specs.Rows.{KeptBelow}
use Rattle.rules_signs.specs.Words.{WordsOf}
use Rattle.rules_signs.specs.Live.{sign_test}
use Rattle.rules.proofs.Rows.{kept_then}
use Rattle.rules_signs.proofs.Rowing.{rows_more}
use Rattle.rules_signs.proofs.write_rows.Goals as goal

pub loop-i-preserved : goal.loop-i-preserved
loop-i-preserved c =
    let a = c.args in
    let l = c.loop-i in
    let here : get_or (take a.r a.table.now) l.i 0 ≡ get_or a.table.now l.i 0 =
    get_or-take a.r a.table.now l.i 0 (omega (arith, length-take a.r a.table.now)) in
    let Half : Bool → List ℕ → ℕ → ℕ → Type 0 =
    λ ahead signs s at. WordsOf (sign_test ahead a.book.now a.live.now s) a.n a.w signs at in
    let one = subst₂ (Half true c.write.new.signs) here c.asked_at.ensures c.write.ensures.0 in
    let first = subst (λ (at : ℕ). KeptBelow at l.signs c.write.new.signs) c.asked_at.ensures c.write.ensures.1 in
    let two = subst₂ (Half false c.write-in-loop-i.new.signs) here c.unmet_at.ensures c.write-in-loop-i.ensures.0 in
    let second = subst (λ (at : ℕ). KeptBelow at c.write.new.signs c.write-in-loop-i.new.signs) c.unmet_at.ensures
    c.write-in-loop-i.ensures.1 in
    record {
      rows = rows_more a.book.now a.table.now a.live.now a.n a.w l.i _ _ _ l.invariant.rows one first two second;
      kept = kept_then (omega arith) l.invariant.kept (kept_then (omega arith) first second);
    }
