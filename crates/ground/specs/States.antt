-- How many bits a state has, and the numbers that follow from that and from the most letters. Assumes nothing.
use Rattle.std.specs.Prelude.{ℕ, ◌-◌, ◌^◌}
use Rattle.meaning.specs.Sheet.{most_letters}

-- how many bits a state has
abbrev pub state_bits : ℕ
state_bits = 32

-- past every number that has so many bits
abbrev pub past_bits : ℕ
past_bits = 2 ^ state_bits

-- every bit
abbrev pub every_bit : ℕ
every_bit = past_bits - 1

-- how many states the most letters make
abbrev pub all_states : ℕ
all_states = 2 ^ most_letters
