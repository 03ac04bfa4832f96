-- Setting a mark: it is set, and marks that are set stay. Assumes nothing.
use mathlib.Core.Path.{◌≡◌, sym, ◌∙◌, ap}
use mathlib.Core.List.{List}
use Prim.Native.Nat.{ℕ, ◌/◌, ◌%◌, ◌^◌, ◌<◌}
use native.Mathlib.Decide.{ℕ_discrete}
use native.Mathlib.Omega.{arith}
use lib.Bits.{bit_or}
use lib.ListN.{length, get_or, set}
use lib.Seq.{get_or-set_same, get_or-set_other}
use Rattle.ground.proofs.Bits.{bit-marked, bit-unmarked}
use Rattle.ground.specs.Bits.{bit, word_marks}
use Rattle.strikes_apart.specs.Marks.{mark_at}

-- Setting the mark of k sets it, and leaves every mark that is set.
module _ (marks : List ℕ) (k w : ℕ) (inside : k / word_marks < length marks)
    (w-is : w ≡ bit_or (get_or marks (k / word_marks) 0) (2 ^ (k % word_marks))) where
  own-word : get_or (set marks (k / word_marks) w) (k / word_marks) 0 ≡ bit_or (get_or marks (k / word_marks) 0) (2 ^ (k % word_marks))
  own-word = get_or-set_same marks (k / word_marks) w 0 inside ∙ w-is

  pub mark_set : mark_at (set marks (k / word_marks) w) k ≡ 1
  mark_set = ap (bit (k % word_marks)) own-word ∙ bit-marked (k % word_marks) (get_or marks (k / word_marks) 0)

  pub mark-stays : (n : ℕ) → mark_at marks n ≡ 1 → mark_at (set marks (k / word_marks) w) n ≡ 1
  mark-stays n e = by (ℕ_discrete (n / word_marks) (k / word_marks)) (ℕ_discrete (n % word_marks) (k % word_marks))
    where
      by : Dec (n / word_marks ≡ k / word_marks) → Dec (n % word_marks ≡ k % word_marks) → mark_at (set marks (k / word_marks) w) n ≡ 1
      by (no p) d = ap (bit (n % word_marks)) (get_or-set_other marks (k / word_marks) (n / word_marks) w 0 p) ∙ e
      by (yes p) (yes q) = let same : n ≡ k = omega arith in ap (mark_at (set marks (k / word_marks) w)) same ∙ mark_set
      by (yes p) (no q) =
          ap (λ (y : ℕ). bit (n % word_marks) (get_or (set marks (k / word_marks) w) y 0)) p ∙ ap (bit (n % word_marks)) own-word
          ∙ bit-unmarked (k % word_marks) (n % word_marks) (get_or marks (k / word_marks) 0) q
          ∙ ap (λ (y : ℕ). bit (n % word_marks) (get_or marks y 0)) (sym p) ∙ e
