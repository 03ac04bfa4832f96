-- A bit of a number, and how many a word of marks has. Assumes nothing.
use Rattle.std.specs.Prelude.{ℕ, zero, suc, ◌/◌, ◌%◌}

-- bit k of x: 0 or 1
abbrev pub bit : ℕ → ℕ → ℕ
bit zero x = x % 2
bit (suc k) x = bit k (x / 2)

-- how many marks a word holds, a bit for each
abbrev pub word_marks : ℕ
word_marks = 32
