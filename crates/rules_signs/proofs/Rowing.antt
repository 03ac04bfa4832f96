-- Rows written one after the other: what a later write keeps (words-kept), a row more (rows_more), where rows stand (row_before), and room
-- for what stands before them (lent-signs). Assumes nothing.
use mathlib.Core.Path.{◌≡◌, sym, subst}
use mathlib.Core.Bool.{Bool, true, false}
use mathlib.Core.List.{List}
use Prim.Native.Nat.{ℕ, ◌+◌, ◌*◌, ◌≤◌, ◌<◌}
use native.Mathlib.Nat.{suc-mul, mul-le-mul_right}
use native.Mathlib.Decide.{ℕ_discrete}
use native.Mathlib.Omega.{arith}
use lib.ListN.{length, get_or, replicate, length-replicate}
use Rattle.rules.specs.Rows.{KeptBelow}
use Rattle.rules.proofs.Rows.{kept_then}
use Rattle.rules_signs.specs.Words.{WordOf, WordsOf, word_size}
use Rattle.rules_signs.specs.Live.{sign_test}
use Rattle.rules_signs.specs.Signs.{RowsTo, asked_from, unmet_from, head_size}

-- ---- room

-- A lent array of zeros has room for the signs' head. Its length comes by a law; computed, it would cost by the array's size.
pub lent-signs : (n : ℕ) → head_size ≤ n → head_size ≤ length (replicate {A = ℕ} n 0)
lent-signs n enough = subst (λ (x : ℕ). head_size ≤ x) (sym (length-replicate {A = ℕ} n 0)) enough

-- ---- where rows stand

-- A row stands before each later one.
pub row_before : (i r w : ℕ) → i < r → i * (2 * w) + 2 * w ≤ r * (2 * w)
row_before i r w h = omega (arith, suc-mul i (2 * w), mul-le-mul_right (2 * w) h)

-- ---- what stands before is kept

-- Words that stand before are kept.
pub words-kept :
    {test : ℕ → Bool} {n w m : ℕ} {l new : List ℕ} {at : ℕ} → at + w ≤ m → KeptBelow m l new → WordsOf test n w l at
    → WordsOf test n w new at
words-kept {test} {n} h K W = record {
  words = λ k s. subst (λ (y : ℕ). WordOf test (word_size * k) n y) (sym (K.same _ (omega arith))) (W.words k s);
}

-- ---- a row more

module _ (book table live : List ℕ) (n w : ℕ) where
  -- One row more: its first half, then its second.
  pub rows_more :
      (i : ℕ) (l mid new : List ℕ) → RowsTo book table live n w l i
      → WordsOf (sign_test true book live (get_or table i 0)) n w mid (asked_from w i) → KeptBelow (asked_from w i) l mid
      → WordsOf (sign_test false book live (get_or table i 0)) n w new (unmet_from w i) → KeptBelow (unmet_from w i) mid new
      → RowsTo book table live n w new (i + 1)
  rows_more i l mid new R one first two second = record {
    asked = λ p h. asked p (ℕ_discrete p i) h;
    unmet = λ p h. unmet p (ℕ_discrete p i) h;
  }
    where
      kept : KeptBelow (asked_from w i) l new
      kept = kept_then (omega arith) first second

      asked : (p : ℕ) → Dec (p ≡ i) → p < i + 1 → WordsOf (sign_test true book live (get_or table p 0)) n w new (asked_from w p)
      asked p (yes e) h =
          subst (λ (q : ℕ). WordsOf (sign_test true book live (get_or table q 0)) n w new (asked_from w q)) (sym e)
          (words-kept (omega arith) second one)
      asked p (no e) h = words-kept (omega (arith, row_before p i w (omega arith))) kept (R.asked p (omega arith))

      unmet : (p : ℕ) → Dec (p ≡ i) → p < i + 1 → WordsOf (sign_test false book live (get_or table p 0)) n w new (unmet_from w p)
      unmet p (yes e) h = subst (λ (q : ℕ). WordsOf (sign_test false book live (get_or table q 0)) n w new (unmet_from w q)) (sym e) two
      unmet p (no e) h = words-kept (omega (arith, row_before p i w (omega arith))) kept (R.unmet p (omega arith))
