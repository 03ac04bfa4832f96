-- The numbers that the public calls answer, by name: 0 and 11 to 14 are document 01's, "Numbers returned"; 15 to 18 those of document 02's
-- orders 2, 4, 5 and 6. The meaning says its own in place; that they are these is in proofs/Answers.antt. Assumes nothing.
use Rattle.std.specs.Prelude.{ℕ}

-- "can be kept / accepted / good sheet", and "accepted or done is 0"
abbrev pub done : ℕ
done = 0

-- "R above C, and only then"
abbrev pub too_many_states : ℕ
too_many_states = 11

-- "can be kept, but b above the run's length"
abbrev pub short_run : ℕ
short_run = 12

-- "cannot be kept"
abbrev pub cannot_be_kept : ℕ
cannot_be_kept = 13

-- "paper not accepted"
abbrev pub not_accepted : ℕ
not_accepted = 14

-- "a piece that would pass that .. is refused whole with 15"
abbrev pub past_the_most_moments : ℕ
past_the_most_moments = 15

-- "16 before any sheet"
abbrev pub class_refused : ℕ
class_refused = 16

-- "if any of these sheets gives 11 the proposal gets 17"
abbrev pub trial_without_room : ℕ
trial_without_room = 17

-- "a piece or a second closing after closing is refused with 18"
abbrev pub lead_closed : ℕ
lead_closed = 18
