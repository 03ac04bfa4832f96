-- A mark for each number of a window. Assumes nothing.
use Rattle.std.specs.Prelude.{List, ℕ, ◌/◌, ◌%◌, get_or}
use Rattle.ground.specs.Bits.{bit, word_marks}

-- the mark of the window's k-th number
abbrev pub mark_at : List ℕ → ℕ → ℕ
mark_at marks k = bit (k % word_marks) (get_or marks (k / word_marks) 0)
