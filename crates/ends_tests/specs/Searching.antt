-- What the methods of a search promise. Assumes nothing.
use Rattle.std.specs.Prelude.{ℕ, ◌+◌, Option, Some, None, get_or}
use Rattle.rules.specs.Table.{To}
use Rattle.ends_tests.specs.declared.Search.{Search}
use Rattle.ends_tests.specs.Phases.{Counts, Seekable, Sought}

-- it may be made
abbrev pub Searchable : Search → Type 0
Searchable s = Seekable s.book.now s.table.now s.words.now s.r s.signs.now s.i

-- place j will do: it counts, and place i moves to it
abbrev pub Goes : (s : Search) (j : ℕ) → Type 0
Goes s j = Counts s.word (get_or s.words.now j 0) × To s.book.now s.table.now s.i j

-- the first place from `lo` on and below `hi` that will do, if there is one
abbrev pub Finds : (s : Search) (hi lo : ℕ) (q : Option ℕ) → Type 0
Finds s hi lo q = Sought s.book.now s.table.now s.words.now s.word hi (get_or s.table.now s.i 0) lo q

-- the place after a known one, or the first of all
abbrev pub place_behind : Option ℕ → ℕ
place_behind None = 0
place_behind (Some j) = j + 1
