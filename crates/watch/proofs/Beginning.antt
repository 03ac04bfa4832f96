-- A row as it begins, place by place; and the test of one place. Assumes nothing.
use mathlib.Core.Path.{◌≡◌, refl, sym, ap, subst, ◌∙◌}
use mathlib.Core.Bool.{Bool, true, false, cond}
use mathlib.Core.List.{List}
use Prim.Native.Nat.{ℕ, ◌+◌, ◌≤◌, ◌<◌}
use native.Mathlib.Decide.{ℕ_discrete}
use native.Mathlib.Omega.{arith}
use lib.ListN.{length, get_or, set, length-set}
use lib.Seq.{get_or-set_same, get_or-set_other}
use Rattle.distances.specs.Values.{kept_in}
use Rattle.watch.specs.Witness.{nobody, itself, BegunRow}

-- the first i places have begun
pub record Beginning (book : List ℕ) (k : ℕ) (table old row : List ℕ) (i : ℕ) : Type 0 where
  pub long : length row ≡ length old
  pub keeps : (j : ℕ) → j < i → kept_in book k (get_or table j 0) → get_or row j 0 ≡ itself
  pub lacks : (j : ℕ) → j < i → (kept_in book k (get_or table j 0) → ⊥) → get_or row j 0 ≡ nobody

-- Before the first turn none has.
pub beginning-none : (book : List ℕ) (k : ℕ) (table row : List ℕ) → Beginning book k table row row 0
beginning-none book k table row = record { long = refl; keeps = λ j h e. absurd (omega arith); lacks = λ j h e. absurd (omega arith) }

module _ {book : List ℕ} {k : ℕ} {table old row : List ℕ} {i : ℕ} (B : Beginning book k table old row i) where
  -- One more begins with v, which says what it must.
  pub beginning-more : (v : ℕ) → i < length row → (kept_in book k (get_or table i 0) → v ≡ itself)
      → ((kept_in book k (get_or table i 0) → ⊥) → v ≡ nobody)
      → Beginning book k table old (set row i v) (i + 1)
  beginning-more v h own other = record {
    long = length-set row i v ∙ B.long;
    keeps = λ j l e. own_at j l e (ℕ_discrete j i);
    lacks = λ j l e. other_at j l e (ℕ_discrete j i);
  }
    where
      here : (j : ℕ) → j ≡ i → get_or (set row i v) j 0 ≡ v
      here j q = ap (λ (x : ℕ). get_or (set row i v) x 0) q ∙ get_or-set_same row i v 0 h

      own_at : (j : ℕ) → j < i + 1 → kept_in book k (get_or table j 0) → Dec (j ≡ i) → get_or (set row i v) j 0 ≡ itself
      own_at j l e (yes q) = here j q ∙ own (subst (λ (x : ℕ). kept_in book k (get_or table x 0)) q e)
      own_at j l e (no q) = get_or-set_other row i j v 0 q ∙ B.keeps j (omega arith) e

      other_at : (j : ℕ) → j < i + 1 → (kept_in book k (get_or table j 0) → ⊥) → Dec (j ≡ i) → get_or (set row i v) j 0 ≡ nobody
      other_at j l e (yes q) = here j q ∙ other (λ z. e (subst (λ (x : ℕ). kept_in book k (get_or table x 0)) (sym q) z))
      other_at j l e (no q) = get_or-set_other row i j v 0 q ∙ B.lacks j (omega arith) e

  -- When all are passed, the row has begun.
  pub beginning-done : length row ≤ i → BegunRow book k table old row
  beginning-done over = record { long = B.long; keeps = λ j l e. B.keeps j (omega arith) e; lacks = λ j l e. B.lacks j (omega arith) e }

-- No test says both.
pub no_both : {b : Bool} → b ≡ true → b ≡ false → ⊥
no_both e f = let z : ◌≡◌ {A = ℕ} 1 0 = ap (λ (b : Bool). cond b 1 0) (sym e ∙ f) in absurd (omega arith)
