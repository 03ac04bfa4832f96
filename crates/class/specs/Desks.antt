-- The desk of a call: the slices that it was lent. Assumes nothing.
use Rattle.std.specs.Prelude.{List, ℕ}
use Rattle.judge_answer.specs.Judging.{lent_of}
use Rattle.class_ends.specs.Class.{Desk}

-- the four lent slices and the slice for the numbers
abbrev pub desk_of : (table words scratch run numbers : List ℕ) → Desk
desk_of table words scratch run numbers = record { lent = lent_of table words scratch run; numbers = numbers }
