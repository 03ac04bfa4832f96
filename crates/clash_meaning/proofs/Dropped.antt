-- What dropping keeps: which rules its choice is among, which marks it leaves alone, that 13 stays, and that a rule it kept can be spared
-- from no later choice. Assumes nothing.
use mathlib.Core.Path.{◌≡◌, refl, sym, ◌∙◌, ap, subst}
use mathlib.Core.Option.{none, some}
use mathlib.Core.List.{List, [], ◌++◌}
use Prim.Native.Nat.{ℕ, zero, suc, ◌≤◌, ◌<◌}
use native.Mathlib.Decide.{dec_lt, ℕ_discrete}
use native.Mathlib.Omega.{arith}
use lib.ListN.{length, get_or, replicate, length-set, get_or-eq_default}
use lib.Seq.{get_or-set_same, get_or-set_other}
use Rattle.meaning.specs.System.{CanBeKept}
use Rattle.meaning.specs.Sheet.{first_fault}
use Rattle.meaning.specs.Promises.{system_in, Lent}
use Rattle.clash_choice.specs.Choice.{with_chosen}
use Rattle.clash_choice.proofs.Fewer.{Among, among-kept, left-out-among}
use Rattle.clash_choice.specs.Proposals.{Chosen, left_out_of}
use Rattle.clash_trials.specs.Trials.{Answered, ends, drops, keeps, Dropping}
use Rattle.clash_trials.proofs.Loops.{some-not-none, same_some}
use Rattle.clash_meaning.proofs.Verdicts.{kept-at-12}
use Rattle.clash_meaning.proofs.Numbers.{Plain, unmarked}

-- ---- marks with one left out

-- A mark that is left out is 0.
pub left-out-0 : (marks : List ℕ) (i : ℕ) → get_or (left_out_of i marks) i 0 ≡ 0
left-out-0 marks i = by (dec_lt i (length marks))
  where
    by : Dec (i < length marks) → get_or (left_out_of i marks) i 0 ≡ 0
    by (yes h) = get_or-set_same marks i 0 0 h
    by (no h) = get_or-eq_default (left_out_of i marks) 0 (omega (arith, length-set marks i 0))

-- Leaving the same rule out of fewer rules leaves fewer.
among-left-out : (fewer marks : List ℕ) (i : ℕ) → Among fewer marks → Among (left_out_of i fewer) (left_out_of i marks)
among-left-out fewer marks i among j e = by (ℕ_discrete j i)
  where
    by : Dec (j ≡ i) → get_or (left_out_of i fewer) j 0 ≡ 0
    by (yes same) = subst (λ (k : ℕ). get_or (left_out_of i fewer) k 0 ≡ 0) (sym same) (left-out-0 fewer i)
    by (no other) = get_or-set_other fewer i j 0 0 other ∙ among j (sym (get_or-set_other marks i j 0 0 other) ∙ e)

-- Marks that are 0 or 1 stay so.
left-out-plain : (marks : List ℕ) (i : ℕ) → Plain marks → Plain (left_out_of i marks)
left-out-plain marks i plain j = by (ℕ_discrete j i)
  where
    by : Dec (j ≡ i) → get_or (left_out_of i marks) j 0 ≤ 1
    by (yes same) = subst (λ (k : ℕ). get_or (left_out_of i marks) k 0 ≤ 1) (sym same) (omega (arith, left-out-0 marks i))
    by (no other) = omega (arith, get_or-set_other marks i j 0 0 other, plain j)

-- The first m rules: marked up to m, not past it.
pub first_past : (m k i : ℕ) → m ≤ i → ◌≡◌ {A = ℕ} (get_or (replicate m 1 ++ replicate k 0) i 0) 0
first_past zero k i h = unmarked i k
first_past (suc m) k zero h = absurd (omega arith)
first_past (suc m) k (suc i) h = first_past m k i (omega arith)

pub first-marked : (m k i : ℕ) → i < m → ◌≡◌ {A = ℕ} (get_or (replicate m 1 ++ replicate k 0) i 0) 1
first-marked zero k i h = absurd (omega arith)
first-marked (suc m) k zero h = refl
first-marked (suc m) k (suc i) h = first-marked m k i (omega arith)

pub first_plain : (m k i : ℕ) → get_or (replicate m 1 ++ replicate k 0) i 0 ≤ 1
first_plain zero k i = omega (arith, unmarked i k)
first_plain (suc m) k zero = omega arith
first_plain (suc m) k (suc i) = first_plain m k i

-- ---- what dropping keeps

module _ (sheet : List ℕ) (lent : Lent) where
  -- Dropping leaves a choice among the rules that it began with, and touches no mark past rule i; the marks stay 0 or 1, and 13 stays.
  pub dropping-among : (i : ℕ) (marks end : List ℕ) → Dropping sheet lent i marks (some end) → Among end marks
  unfolding Dropping
  dropping-among zero marks end e j m = ap (λ (l : List ℕ). get_or l j 0) (same_some e) ∙ m
  dropping-among (suc i) marks end (ends p e) j m = absurd (some-not-none (sym e))
  dropping-among (suc i) marks end (drops p next) j m = dropping-among i (left_out_of i marks) end next j (left-out-among i marks j m)
  dropping-among (suc i) marks end (keeps p next) j m = dropping-among i marks end next j m

  pub dropping-above : (i : ℕ) (marks end : List ℕ) → Dropping sheet lent i marks (some end) → (j : ℕ) → i ≤ j
      → get_or end j 0 ≡ get_or marks j 0
  unfolding Dropping
  dropping-above zero marks end e j h = ap (λ (l : List ℕ). get_or l j 0) (same_some e)
  dropping-above (suc i) marks end (ends p e) j h = absurd (some-not-none (sym e))
  dropping-above (suc i) marks end (drops p next) j h =
      dropping-above i (left_out_of i marks) end next j (omega arith) ∙ get_or-set_other marks i j 0 0 (λ e. omega (arith, e))
  dropping-above (suc i) marks end (keeps p next) j h = dropping-above i marks end next j (omega arith)

  pub dropping-plain : (i : ℕ) (marks end : List ℕ) → Dropping sheet lent i marks (some end) → Plain marks → Plain end
  unfolding Dropping
  dropping-plain zero marks end e plain j = subst (λ (l : List ℕ). get_or l j 0 ≤ 1) (sym (same_some e)) (plain j)
  dropping-plain (suc i) marks end (ends p e) plain j = absurd (some-not-none (sym e))
  dropping-plain (suc i) marks end (drops p next) plain j = dropping-plain i (left_out_of i marks) end next (left-out-plain marks i plain) j
  dropping-plain (suc i) marks end (keeps p next) plain j = dropping-plain i marks end next plain j

  pub dropping-13 : (i : ℕ) (marks end : List ℕ) → Dropping sheet lent i marks (some end) → Answered sheet lent marks 13
      → Answered sheet lent end 13
  unfolding Dropping
  dropping-13 zero marks end e p = subst (λ (l : List ℕ). Answered sheet lent l 13) (sym (same_some e)) p
  dropping-13 (suc i) marks end (ends q e) p = absurd (some-not-none (sym e))
  dropping-13 (suc i) marks end (drops q next) p = dropping-13 i (left_out_of i marks) end next q
  dropping-13 (suc i) marks end (keeps q next) p = dropping-13 i marks end next p

  -- Where dropping ends in no choice, a sheet that it tried gave 11.
  pub dropping-none : (i : ℕ) (marks : List ℕ) → Dropping sheet lent i marks none → (tried : List ℕ) × Answered sheet lent tried 11
  unfolding Dropping
  dropping-none zero marks e = absurd (some-not-none e)
  dropping-none (suc i) marks (ends p e) = (left_out_of i marks, p)
  dropping-none (suc i) marks (drops p next) = dropping-none i (left_out_of i marks) next
  dropping-none (suc i) marks (keeps p next) = dropping-none i marks next

  -- A rule that was kept can be spared from no later choice: without it a run obeys the sheet, since it did when there were more rules.
  pub kept-needed : first_fault sheet ≡ none → lent.run ≡ [] → (i : ℕ) (marks end : List ℕ) → Dropping sheet lent i marks (some end)
      → (j : ℕ) → j < i → Chosen j end → CanBeKept (system_in (with_chosen sheet (left_out_of j end)))
  unfolding Dropping
  kept-needed good no_run zero marks end e j h c = absurd (omega arith)
  kept-needed good no_run (suc i) marks end (ends p e) j h c = absurd (some-not-none (sym e))
  kept-needed good no_run (suc i) marks end (drops p next) j h c =
      by (ℕ_discrete j i) (kept-needed good no_run i (left_out_of i marks) end next j)
    where
      by : Dec (j ≡ i) → (j < i → Chosen j end → CanBeKept (system_in (with_chosen sheet (left_out_of j end))))
          → CanBeKept (system_in (with_chosen sheet (left_out_of j end)))
      by (yes same) earlier =
          let gone : get_or end i 0 ≡ 0 = dropping-above i (left_out_of i marks) end next i (omega arith) ∙ left-out-0 marks i in
          absurd (c (subst (λ (k : ℕ). get_or end k 0 ≡ 0) (sym same) gone))
      by (no other) earlier = earlier (omega (arith, h, other)) c
  kept-needed good no_run (suc i) marks end (keeps p next) j h c = by (ℕ_discrete j i) (kept-needed good no_run i marks end next j)
    where
      by : Dec (j ≡ i) → (j < i → Chosen j end → CanBeKept (system_in (with_chosen sheet (left_out_of j end))))
          → CanBeKept (system_in (with_chosen sheet (left_out_of j end)))
      by (yes same) earlier =
          subst (λ (k : ℕ). CanBeKept (system_in (with_chosen sheet (left_out_of k end)))) (sym same)
          (among-kept sheet (left_out_of i end) (left_out_of i marks) (among-left-out end marks i (dropping-among i marks end next))
          (kept-at-12 good no_run p))
      by (no other) earlier = earlier (omega (arith, h, other)) c
