-- A sheet's tests taken apart: what a lawful state, a first state, a move and a kept promise consist of. Assumes nothing.
use mathlib.Core.Bool.{Bool, true, false, ◌&&◌}
use mathlib.Core.Logic.{◌↔◌}
use Prim.Native.Nat.{ℕ, ◌^◌, ◌<◌}
use lib.Dec.{T, ltb, ltb→lt}
use lib.ListN.{length, get_or}
use Rattle.meaning.specs.Sheet.{Sheet}
use Rattle.meaning.specs.Rules.{true_in, some_literal_true, limit_holds, every, lawful, first_state, step_holds, moves, kept}

-- A test can be made.
pub T? : (b : Bool) → Dec (T b)
T? true = yes tt
T? false = no (λ t. t)

-- Two tests pass together exactly if each passes.
pub and_parts : (a b : Bool) → T (a && b) ↔ (T a × T b)
and_parts true b = (λ t. (tt, t), λ t. t.1)
and_parts false b = (λ t. absurd t, λ t. t.0)

-- A lawful state is a number below 2 to the power of the letters, and every limit holds in it.
pub lawful-parts : (sheet : Sheet) (s : ℕ) → T (lawful sheet s) ↔ (T (ltb s (2 ^ sheet.letters))
    × T (every (limit_holds s) sheet.limits))
unfolding lawful
lawful-parts sheet s = and_parts (ltb s (2 ^ sheet.letters)) (every (limit_holds s) sheet.limits)

pub lawful-below : (sheet : Sheet) (s : ℕ) → T (lawful sheet s) → s < 2 ^ sheet.letters
lawful-below sheet s t = ltb→lt s (2 ^ sheet.letters) ((lawful-parts sheet s).0 t).0

-- A first state is lawful, and every first rule is true in it.
pub first-parts : (sheet : Sheet) (s : ℕ) → T (first_state sheet s) ↔ (T (lawful sheet s) × T (every (some_literal_true s) sheet.firsts))
unfolding first_state
first-parts sheet s = and_parts (lawful sheet s) (every (some_literal_true s) sheet.firsts)

-- A move is two lawful states, and every step rule holds from the one to the other.
pub move-parts : (sheet : Sheet) (s t : ℕ) → T (moves sheet s t) ↔ (T (lawful sheet s) × T (lawful sheet t)
    × T (every (step_holds s t) sheet.steps))
unfolding moves
move-parts sheet s t =
    let outer = and_parts (lawful sheet s && lawful sheet t) (every (step_holds s t) sheet.steps) in
    let inner = and_parts (lawful sheet s) (lawful sheet t) in
    (λ m. ((inner.0 (outer.0 m).0).0, (inner.0 (outer.0 m).0).1, (outer.0 m).1), λ p. outer.1 (inner.1 (p.0, p.1), p.2))

-- A kept promise is one of the sheet's, and its literal is true.
pub kept-parts : (sheet : Sheet) (k s : ℕ) → T (kept sheet k s) ↔ (T (ltb k (length sheet.promises))
    × T (true_in s (get_or sheet.promises k 0)))
unfolding kept
kept-parts sheet k s = and_parts (ltb k (length sheet.promises)) (true_in s (get_or sheet.promises k 0))
