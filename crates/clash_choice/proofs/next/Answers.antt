-- `next` meets its contract: one length byte, and as many bytes as it says. Assumes nothing.
use Rattle.std.proofs.Common.{arith}
use Rattle.meaning.specs.Sheet.{next_at}
use Rattle.clash_choice.proofs.next.Goals as goal

pub overflow_add-result : goal.overflow_add-result
unfolding next_at
overflow_add-result c = omega arith

pub bounds-sheet-at : goal.bounds-sheet-at
unfolding next_at
bounds-sheet-at c = omega arith

pub overflow_add-result-2 : goal.overflow_add-result-2
unfolding next_at
overflow_add-result-2 c = omega arith

pub returns : goal.returns
unfolding next_at
returns c = omega arith
