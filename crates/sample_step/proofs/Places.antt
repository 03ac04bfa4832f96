-- The livable states by their places in the table: each has one place. Assumes nothing.
use mathlib.Core.Path.{◌≡◌, sym, subst, ◌∙◌}
use mathlib.Core.List.{List}
use Prim.Native.Nat.{ℕ, ◌≤◌, ◌<◌}
use native.Mathlib.Decide.{dec_lt}
use native.Mathlib.Omega.{arith}
use lib.ListN.{length, get_or, take}
use lib.Seq.{get_or-take, length-take-le}
use Rattle.meaning.specs.System.{System, Livable, Lists}
use Rattle.meaning.proofs.Lists.{rising-apart}
use Rattle.sample_step.specs.Rows.{Livables}

-- The list of the livable states, place by place.
pub livables-of : {S : System} (table : List ℕ) (r : ℕ) → r ≤ length table → Lists (Livable S) (take r table) → Livables S table r
livables-of {S} table r h L = record { rises = rises; sound = sound; whole = whole }
  where
    size : length (take r table) ≡ r
    size = length-take-le r table h

    at : (x : ℕ) → x < r → get_or (take r table) x 0 ≡ get_or table x 0
    at x p = get_or-take r table x 0 p

    rises : (x y : ℕ) → x < y → y < r → get_or table x 0 < get_or table y 0
    rises x y p q =
        let up = rising-apart ◌<◌ (λ a b c u v. omega arith) (λ a u. omega arith) {f = λ i. get_or (take r table) i 0}
        {n = length (take r table)}
        L.rises x y p (omega (arith, size)) in
        omega (arith, up, at x (omega arith), at y q)

    sound : (x : ℕ) → x < r → Livable S (get_or table x 0)
    sound x p = subst (Livable S) (at x p) (L.sound x (omega (arith, size)))

    whole : (s : ℕ) → Livable S s → (x : ℕ) × (x < r) × (get_or table x 0 ≡ s)
    whole s l = let w = L.whole s l in let p : w.0 < r = omega (arith, size, w.1) in (w.0, p, sym (at w.0 p) ∙ w.2)

module _ {S : System} {table : List ℕ} {r : ℕ} (L : Livables S table r) where
  -- Two places with the same state are one place.
  pub same_place : (x y : ℕ) → x < r → y < r → get_or table x 0 ≡ get_or table y 0 → x ≡ y
  same_place x y p q e = by (dec_lt x y) (dec_lt y x)
    where
      by : Dec (x < y) → Dec (y < x) → x ≡ y
      by (yes h) d = absurd (omega (arith, L.rises x y h q))
      by (no h) (yes g) = absurd (omega (arith, L.rises y x g p))
      by (no h) (no g) = omega arith

  -- A place not after another holds no larger state.
  pub places-rise : (x y : ℕ) → x ≤ y → y < r → get_or table x 0 ≤ get_or table y 0
  places-rise x y p q = by (dec_lt x y)
    where
      by : Dec (x < y) → get_or table x 0 ≤ get_or table y 0
      by (yes h) = omega (arith, L.rises x y h q)
      by (no h) = let e : x ≡ y = omega arith in subst (λ (z : ℕ). get_or table x 0 ≤ get_or table z 0) e (omega arith)
