-- What `rehang` is handed and hands on: the places may be asked, and after that the witnesses may be spread. Assumes nothing.
use mathlib.Core.Path.{sym, subst}
use mathlib.Core.List.{List}
use Prim.Native.Nat.{ℕ}
use native.Mathlib.Omega.{arith}
use lib.ListN.{length}
use Rattle.moves.specs.Layout.{Backed}
use Rattle.watch.specs.Witness.{Hangable}
use Rattle.watch.specs.Turns.{Line}
use Rattle.watch_along.specs.Along.{Woven, Walkable, Hanging, Asked}
use Rattle.watch_along.proofs.Spreading.{Spreadable}

module _ (words old forth back log : List ℕ) (m tail : ℕ) (before : List ℕ) (w : Woven (length old) forth back)
    (h : Hangable words old (Backed back) log m tail) (l : Line old before) where
  -- Once they were asked, the witnesses may be spread.
  pub rehang-spreadable : (row line : List ℕ) (n : ℕ) → Asked words old row forth log m tail before line n
      → Spreadable words row back line n
  rehang-spreadable row line n a =
      let e = a.long in
      let f = a.line_long in
      let g = h.in_words in
      let i = l.in_line in
      let j = l.line_few in
      let s : Hanging words old row (Backed back) line 0 n = a.hanging back w h in
      let k = s.room in (
        subst (λ (x : ℕ). Walkable back x) (sym a.long) w.backward,
        omega arith,
        record { in_line = omega arith; line_few = omega arith },
        omega arith,
        s.in_line,
        s.room,
      )
