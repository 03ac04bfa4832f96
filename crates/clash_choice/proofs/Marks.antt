-- Rows of marks: a rule left out and put back, how many the first marks are, and the marks of proposed numbers one by one. Assumes nothing.
use mathlib.Core.Path.{◌≡◌, refl, sym, ap, ◌∙◌}
use mathlib.Core.List.{List, [], ◌∷◌, ◌++◌}
use Prim.Native.Nat.{ℕ, ◌+◌, ◌-◌, ◌≤◌, ◌<◌}
use native.Mathlib.Decide.{dec_lt, ℕ_discrete}
use native.Mathlib.Omega.{arith}
use lib.ListN.{length, get_or, set, take, replicate, length-append, length-replicate, get_or-eq_default}
use lib.Seq.{set-set, set-get_or}
use Rattle.std.proofs.lemmas.List.{take_more, set_comm}
use Rattle.clash_choice.specs.Proposals.{most_rules, first_marks, marks_of, Chosen, left_out_of}

-- ---- one rule

-- A rule left out and marked as it was: nothing is changed.
pub put_back : (marks : List ℕ) (i : ℕ) → set (left_out_of i marks) i (get_or marks i 0) ≡ marks
put_back marks i = set-set marks i 0 (get_or marks i 0) ∙ set-get_or marks i 0

-- Only a rule that has a mark is chosen.
pub chosen-within : (marks : List ℕ) (i : ℕ) → Chosen i marks → i < length marks
chosen-within marks i chosen = by (dec_lt i (length marks))
  where
    by : Dec (i < length marks) → i < length marks
    by (yes h) = h
    by (no h) = absurd (chosen (get_or-eq_default marks 0 (omega arith)))

-- ---- the first rules

-- There are as many marks as ever.
pub length-first : (m : ℕ) → m ≤ most_rules → length (first_marks m) ≡ most_rules
length-first m h =
    omega (
      arith,
      length-append {A = ℕ} (replicate m 1) (replicate (most_rules - m) 0),
      length-replicate {A = ℕ} m 1,
      length-replicate {A = ℕ} (most_rules - m) 0,
    )

-- ---- proposed numbers

-- Two rules may be marked in either order.
mark-either : (marks : List ℕ) (i j : ℕ) → set (set marks i 1) j 1 ≡ set (set marks j 1) i 1
mark-either marks i j = by (ℕ_discrete i j)
  where
    by : Dec (i ≡ j) → set (set marks i 1) j 1 ≡ set (set marks j 1) i 1
    by (yes e) = ap (λ (k : ℕ). set (set marks i 1) k 1) (sym e) ∙ ap (λ (k : ℕ). set (set marks k 1) i 1) e
    by (no e) = set_comm marks i j 1 1 e

-- One number more behind the others.
marks-behind : (numbers : List ℕ) (k : ℕ) → marks_of (numbers ++ k ∷ []) ≡ set (marks_of numbers) (k - 1) 1
unfolding marks_of
marks-behind [] k = refl
marks-behind (x ∷ numbers) k =
    ap (λ (m : List ℕ). set m (x - 1) 1) (marks-behind numbers k) ∙ mark-either (marks_of numbers) (k - 1) (x - 1)

-- So a loop counts.
pub marks-next : (numbers : List ℕ) (i : ℕ) → i < length numbers
    → set (marks_of (take i numbers)) (get_or numbers i 0 - 1) 1 ≡ marks_of (take (i + 1) numbers)
marks-next numbers i h = sym (ap marks_of (take_more numbers i 0 h) ∙ marks-behind (take i numbers) (get_or numbers i 0))
