-- A word built bit by bit: none yet (marked-none), a bit set (marked-set), a bit left out (marked-past). Assumes nothing.
use mathlib.Core.Path.{◌≡◌, sym, ◌∙◌, subst}
use mathlib.Core.Bool.{Bool, true, false}
use Prim.Native.Nat.{ℕ, ◌+◌, ◌^◌, ◌≤◌, ◌<◌}
use native.Mathlib.Decide.{ℕ_discrete, dec_lt}
use native.Mathlib.Omega.{arith}
use lib.Bits.{bit_or}
use Rattle.ground.specs.Bits.{bit}
use Rattle.ground.proofs.Bits.{bit-none, bit-marked, bit-unmarked}
use Rattle.ground.proofs.Tests.{no_both}

-- the bits of the numbers from `from` up to c are set as their test says
pub record Marked (test : ℕ → Bool) (from n c x : ℕ) : Type 0 where
  pub reached : from ≤ c
  pub sound : (b : ℕ) → bit b x ≡ 1 → (from + b < n) × (test (from + b) ≡ true)
  pub full : (b : ℕ) → from + b < c → test (from + b) ≡ true → bit b x ≡ 1

-- No bit is set yet.
pub marked-none : (test : ℕ → Bool) (from n : ℕ) → Marked test from n from 0
marked-none test from n = record {
  reached = omega arith;
  sound = λ b e. absurd (omega (arith, bit-none b));
  full = λ b h t. absurd (omega arith);
}

-- One number more passes, and its bit is set.
pub marked-set :
    {test : ℕ → Bool} {from n c x : ℕ} (b y : ℕ) → Marked test from n c x → from + b ≡ c → c < n → test c ≡ true → y ≡ bit_or x (2 ^ b)
    → Marked test from n (c + 1) y
marked-set {test} {from} {n} {c} {x} b y M here inside passes e = subst (Marked test from n (c + 1)) (sym e) set
  where
    sound : (j : ℕ) → Dec (j ≡ b) → bit j (bit_or x (2 ^ b)) ≡ 1 → (from + j < n) × (test (from + j) ≡ true)
    sound j (yes q) s = let at : c ≡ from + j = omega arith in (omega arith, subst (λ (k : ℕ). test k ≡ true) at passes)
    sound j (no q) s = M.sound j (sym (bit-unmarked b j x q) ∙ s)

    full : (j : ℕ) → Dec (j ≡ b) → from + j < c + 1 → test (from + j) ≡ true → bit j (bit_or x (2 ^ b)) ≡ 1
    full j (yes q) h t = subst (λ (k : ℕ). bit k (bit_or x (2 ^ b)) ≡ 1) (sym q) (bit-marked b x)
    full j (no q) h t = bit-unmarked b j x q ∙ M.full j (omega arith) t

    set : Marked test from n (c + 1) (bit_or x (2 ^ b))
    set = record {
      reached = omega (arith, M.reached);
      sound = λ j s. sound j (ℕ_discrete j b) s;
      full = λ j h t. full j (ℕ_discrete j b) h t;
    }

-- One number more fails.
pub marked-past : {test : ℕ → Bool} {from n c x : ℕ} → Marked test from n c x → test c ≡ false → Marked test from n (c + 1) x
marked-past {test} {from} {n} {c} {x} M fails = record {
  reached = omega (arith, M.reached);
  sound = M.sound;
  full = λ j h t. full j (dec_lt (from + j) c) h t;
}
  where
    full : (j : ℕ) → Dec (from + j < c) → from + j < c + 1 → test (from + j) ≡ true → bit j x ≡ 1
    full j (yes q) h t = M.full j q t
    full j (no q) h t = let at : from + j ≡ c = omega arith in absurd (no_both (subst (λ (k : ℕ). test k ≡ true) at t) fails)
