-- The rows of the first i places are written, and the head is kept. Assumes nothing.
use Rattle.rules.specs.Rows.{KeptBelow}
use Rattle.rules_signs.specs.Signs.{RowsTo, head_size}
use Rattle.rules_signs.proofs.write_rows.Given as goal

abbrev pub invariant-loop-i : goal.invariant-loop-i
invariant-loop-i l = record {
  rows : RowsTo l.book l.table l.live l.n l.w l.signs l.i;
  kept : KeptBelow head_size l.initial.signs l.signs;
}
