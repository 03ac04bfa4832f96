-- `write_rules` meets its contract. Assumes nothing.
use Rattle.std.proofs.Common.{arith, ℕ, subst}
use Rattle.std.proofs.lemmas.List.{get_or-take}
use Rattle.meaning.specs.Sheet.{next_at}
use Rattle.clash_choice.specs.Writing.{Added, marked}
use Rattle.clash_choice.proofs.Writes.{added_none, added_more, rule-asked}
use Rattle.clash_choice.proofs.write_rules.Goals as goal

pub loop-mark-init : goal.loop-mark-init
loop-mark-init c = added_none c.args.sheet.now c.args.marks.now _ _

pub write_rule-p-requires : goal.write_rule-p-requires
write_rule-p-requires c =
    rule-asked _ c.args.marks.now c.args.count c.loop-mark.mark-index c.args.at c.requires (omega arith) (omega arith) c.loop-mark.invariant

pub loop-mark-preserved : goal.loop-mark-preserved
loop-mark-preserved c =
    let sheet = c.args.sheet.now in
    let l = c.loop-mark in
    let same = get_or-take c.args.count c.args.marks.now l.mark-index 0 (omega arith) in
    let more = subst (λ (mark : ℕ). Added (marked sheet mark l.p.from) (next_at sheet l.p.from) l.buffer l.p c.write_rule-p.new.buffer
    c.write_rule-p.result) same c.write_rule-p.ensures in
    added_more _ _ _ _ l.invariant more
