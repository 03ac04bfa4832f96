-- Sizes of tables, and the room that is lent for the signs of each. Assumes nothing.
use Rattle.std.specs.Prelude.{ℕ, ◌+◌, ◌*◌}
use Rattle.meaning.specs.Promises.{most_states}
use Rattle.rules_signs.specs.Words.{most_words}
use Rattle.rules_signs.specs.Signs.{head_size}

-- up to so many states need next to no room
abbrev pub tiny_states : ℕ
tiny_states = 32

-- up to so many states moves are not stored
abbrev pub few_states : ℕ
few_states = 512

-- up to so many states whose moves are not stored need room of a middle size
abbrev pub some_states : ℕ
some_states = 2048

-- how long a row is that has a bit of each step rule in either half
abbrev pub row_size : ℕ
row_size = 2 * most_words

-- room for the signs of tables of these sizes
abbrev pub tiny_signs : ℕ
tiny_signs = head_size + row_size * tiny_states

abbrev pub few_signs : ℕ
few_signs = head_size + row_size * few_states

abbrev pub some_signs : ℕ
some_signs = head_size + row_size * some_states

-- and of any table: at least one word of either kind for each place
abbrev pub most_signs : ℕ
most_signs = head_size + 2 * most_states
