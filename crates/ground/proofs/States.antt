-- What follows from a state's width and from the most letters: there is a bit for every letter (letter-fits) and one above, so a number of
-- letters is below all states (state-small) and fits (state-fits); every bit is set in `every_bit`. Here alone the two numbers meet.
-- Assumes nothing.
use mathlib.Core.Path.{◌≡◌}
use Prim.Native.Nat.{ℕ, ◌^◌, ◌≤◌, ◌<◌}
use native.Mathlib.Omega.{arith}
use lib.Dec.{lit<}
use lib.Pow.{pow_mono}
use Rattle.meaning.specs.Sheet.{most_letters}
use Rattle.ground.specs.Bits.{bit}
use Rattle.ground.specs.States.{state_bits, past_bits, every_bit, all_states}
use Rattle.ground.proofs.Bits.{bit-full}

-- There is a bit for every letter, and one above.
letters-fit : most_letters < state_bits
letters-fit = lit< tt

-- So a letter's number is a bit's.
pub letter-fits : {u : ℕ} → u ≤ most_letters → u < state_bits
letter-fits h = omega (arith, letters-fit)

-- A number of u letters is below all states, and fits.
pub state-small : {n s : ℕ} → n ≤ most_letters → s < 2 ^ n → s < all_states
state-small h l = omega (arith, pow_mono h, l)

pub state-fits : {s : ℕ} → s ≤ all_states → s < past_bits
state-fits h = omega (arith, h)

-- Every bit is set in `every_bit`.
pub every-bit : (v : ℕ) → v < state_bits → bit v every_bit ≡ 0 → ⊥
every-bit v h e = omega (arith, bit-full state_bits v h)
