-- What asking for a mark shows. The laws of bits stand in `ground`. Assumes nothing.
use mathlib.Core.Path.{◌≡◌, sym, ◌∙◌}
use mathlib.Core.Bool.{Bool, true, false, not}
use Prim.Native.Nat.{ℕ}
use borrow.Author.Tests.{eqb-true, eqb-false, not-true, not-false}
use lib.Dec.{eqb}

-- A test that says no shows an unmarked bit.
pub unmarked-of : (x : ℕ) (r : Bool) → r ≡ eqb x 1 → not r ≡ true → x ≡ 1 → ⊥
unmarked-of x r e h = eqb-false x 1 (sym e ∙ not-true r h)

-- One that says yes shows a marked bit.
pub marked-of : (x : ℕ) (r : Bool) → r ≡ eqb x 1 → not r ≡ false → x ≡ 1
marked-of x r e h = eqb-true x 1 (sym e ∙ not-false r h)
