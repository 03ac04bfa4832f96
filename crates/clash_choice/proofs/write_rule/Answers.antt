-- `write_rule` meets its contract: nothing more for the mark 0, else the record. Assumes nothing.
use Rattle.std.proofs.Common.{arith, rules}
use Rattle.meaning.specs.Sheet.{byte, next_at}
use Rattle.clash_choice.proofs.Writes.{rule-left-out, rule_fits, rule-written}
use Rattle.clash_choice.proofs.write_rule.Goals as goal

pub returns-then-mark-eq0 : goal.returns-then-mark-eq0
returns-then-mark-eq0 c = rule-left-out _ _ c.if-mark-eq0.true c.next-end.ensures

pub overflow_add-rule : goal.overflow_add-rule
unfolding next_at
overflow_add-rule c = omega (arith, c.next-end.ensures)

pub slice_bounds-rule-count : goal.slice_bounds-rule-count
unfolding next_at
slice_bounds-rule-count c = omega (arith, c.next-end.ensures)

pub slice_bounds-rule-start : goal.slice_bounds-rule-start
unfolding next_at
slice_bounds-rule-start c = omega (arith, c.next-end.ensures)

pub write_record-to-requires : goal.write_record-to-requires
unfolding byte
write_record-to-requires c =
    rule_fits _ _ c.requires (omega (arith, c.type_inv.sheet c.args.p.from)) c.next-end.ensures (search rules)

pub returns : goal.returns
returns c = rule-written _ _ c.if-mark-eq0.false c.next-end.ensures c.write_record-to.ensures
