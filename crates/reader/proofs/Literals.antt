-- Signed bytes: what the machine computes with an i8, in the meaning's terms. A signed local holds bits, so its facts speak of
-- `to_z w8 (of_z w8 x)`; these laws turn them into facts of the byte. Assumes nothing.
use mathlib.Core.Path.{◌≡◌, sym, ◌∙◌, ap}
use mathlib.Core.Bool.{cond, ◌&&◌}
use Prim.Native.Nat.{ℕ, suc, ◌+◌, ◌-◌, ◌%◌, ◌≤◌, ◌<◌}
use native.Mathlib.Omega.{arith}
use native.Mathlib.Decide.{dec_lt}
use lib.Dec.{ltb, leb, leb-zero}
use lib.IntN.{ℤ, pos, nat_abs}
use lib.Signed.{lt_z, le_z}
use mir.Syntax.{w8}
use mir.Val.{to_z, of_z, Fits}
use mir.Facts.{of_z-to_z}
use borrow.Author.Tests.{lt-ltb, le-ltb}
use Rattle.meaning.specs.Sheet.{names, signed_below, positive, size}

-- two tests agree where their facts do
ltb-agree : (a b c d : ℕ) → (a < b → c < d) → (b ≤ a → d ≤ c) → ltb a b ≡ ltb c d
ltb-agree a b c d f g = by (dec_lt a b)
  where
    by : Dec (a < b) → ltb a b ≡ ltb c d
    by (yes q) = lt-ltb a b q ∙ sym (lt-ltb c d (f q))
    by (no q) = let r : b ≤ a = omega arith in le-ltb a b r ∙ sym (le-ltb c d (g r))

-- ---- in the meaning's terms

pub bits_of : {x : ℤ} {b : ℕ} → x ≡ to_z w8 b → Fits w8 b → of_z w8 x ≡ b
bits_of e f = ap (of_z w8) e ∙ of_z-to_z f

pub sign-is-positive : (b : ℕ) → le_z (pos 0) (to_z w8 b) ≡ positive b
unfolding positive
sign-is-positive b = by (dec_lt b 128)
  where
    by : Dec (b < 128) → le_z (pos 0) (to_z w8 b) ≡ ltb b 128
    by (yes q) = simp (lt-ltb b 128 q) (leb-zero b)
    by (no q) = let r : 128 ≤ b = omega arith in simp (le-ltb b 128 r)

pub order-is-below : (a b : ℕ) → a < 256 → b < 256 → lt_z (to_z w8 a) (to_z w8 b) ≡ signed_below a b
unfolding signed_below
order-is-below a b f g = by (dec_lt a 128) (dec_lt b 128)
  where
    by : Dec (a < 128) → Dec (b < 128) → lt_z (to_z w8 a) (to_z w8 b) ≡ ltb ((a + 128) % 256) ((b + 128) % 256)
    by (yes p) (yes q) = simp (lt-ltb a 128 p, lt-ltb b 128 q) (ltb-agree a b ((a + 128) % 256) ((b + 128) % 256) (λ h. omega arith)
        (λ h. omega arith))
    by (yes p) (no q) =
        let r : 128 ≤ b = omega arith in
        let h : (b + 128) % 256 ≤ (a + 128) % 256 = omega arith in
        simp (lt-ltb a 128 p, le-ltb b 128 r) (sym (le-ltb _ _ h))
    by (no p) (yes q) =
        let r : 128 ≤ a = omega arith in
        let h : (a + 128) % 256 < (b + 128) % 256 = omega arith in
        simp (le-ltb a 128 r, lt-ltb b 128 q) (sym (lt-ltb _ _ h))
    by (no p) (no q) =
        let r : 128 ≤ a = omega arith in
        let t : 128 ≤ b = omega arith in
        simp (le-ltb a 128 r, le-ltb b 128 t)
        (ltb-agree (256 - suc b) (256 - suc a) ((a + 128) % 256) ((b + 128) % 256) (λ h. omega arith) (λ h. omega arith))

pub size-is-letter : (b : ℕ) → b < 256 → nat_abs (to_z w8 b) ≡ size b
unfolding size positive
size-is-letter b f = by (dec_lt b 128)
  where
    by : Dec (b < 128) → nat_abs (to_z w8 b) ≡ cond (ltb b 128) b (256 - b)
    by (yes q) = simp (lt-ltb b 128 q)
    by (no q) = let r : 128 ≤ b = omega arith in simp (le-ltb b 128 r) (omega arith)

pub names-by-size : (n b : ℕ) {k : ℕ} → k ≡ size b → leb 1 k && leb k n ≡ names n b
unfolding names
names-by-size n b e = ap (λ (j : ℕ). leb 1 j && leb j n) e
