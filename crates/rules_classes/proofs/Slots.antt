-- Slots of two numbers each in a table: a remainder by the number of slots is one of them. Assumes nothing.
use Prim.Native.Nat.{ℕ, ◌+◌, ◌≤◌, ◌<◌, ◌/◌, ◌%◌}
use native.Mathlib.Nat.{mod-lt}
use native.Mathlib.Omega.{arith}

-- Both numbers of the slot stand in the table.
pub slot-inside : (sign long : ℕ) → 2 ≤ long → sign % (long / 2) + sign % (long / 2) + 1 < long
slot-inside sign long some =
    let some_slot : 0 < long / 2 = omega arith in
    let below : sign % (long / 2) < long / 2 = mod-lt sign some_slot in
    twice (sign % (long / 2)) (long / 2) long below (omega arith)
  where
    twice : (slot slots long : ℕ) → slot < slots → slots + slots ≤ long → slot + slot + 1 < long
    twice slot slots long a b = omega arith
