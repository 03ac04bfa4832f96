-- Trials in a row: each rule of a choice left out by itself, and rules dropped from the last to the first. Assumes nothing.
use mathlib.Core.Path.{◌≡◌, refl, sym, ap, subst, ◌∙◌}
use mathlib.Core.Bool.{true, false}
use mathlib.Core.Option.{Option, none, some}
use mathlib.Core.List.{List}
use Prim.Native.Nat.{ℕ, zero, suc, ◌+◌, ◌-◌, ◌≤◌, ◌<◌}
use native.Mathlib.Omega.{arith}
use lib.ListN.{length, get_or, length-set}
use Rattle.meaning.specs.Promises.{Lent}
use Rattle.meaning.proofs.Tests.{below_next}
use Rattle.clash_choice.specs.Proposals.{most_rules, Chosen, left_out_of}
use Rattle.clash_choice.proofs.Marks.{chosen-within}
use Rattle.clash_trials.specs.Trials.{Answered, OneTried, ends, drops, keeps, Dropping}
use Rattle.clash_trials.specs.Parts.{Lengths, Trial, EachTried, more, spare, needed, EachLeftOut, Drops}
use Rattle.clash_trials.proofs.Trials.{lengths-stay, answered-apart, answered-is, trial-later}

-- ---- each rule left out by itself

-- of the first i rules each chosen one was left out by itself: all of these sheets give 12; or none gives 11 and one gives 13
pub data TriedUpTo (sheet : List ℕ) (lent : Lent) (marks : List ℕ) (i n : ℕ) : Type 0 where
  all_needed : ((j : ℕ) → j < i → Chosen j marks → Answered sheet lent (left_out_of j marks) 12) → n ≡ 12 → TriedUpTo sheet lent marks i n
  one_spare : ((j : ℕ) → j < i → Chosen j marks → Answered sheet lent (left_out_of j marks) 11 → ⊥)
      → (k : ℕ) → Chosen k marks → Answered sheet lent (left_out_of k marks) 13 → n ≡ 13 → TriedUpTo sheet lent marks i n

-- what holds of each chosen rule below i, and of rule i + 1 if it is chosen, holds below i + 1
one_further : (marks : List ℕ) (P : ℕ → Type 0) (i : ℕ) → ((j : ℕ) → j < i → Chosen j marks → P j) → (Chosen i marks → P i)
    → (j : ℕ) → j < i + 1 → Chosen j marks → P j
one_further marks P i before here j h = below_next (λ (k : ℕ). Chosen k marks → P k) i here before j (omega (arith, h))

-- without rule j + 1: 12; and not 11
abbrev Needed : (sheet : List ℕ) (lent : Lent) (marks : List ℕ) (j : ℕ) → Type 0
Needed sheet lent marks j = Answered sheet lent (left_out_of j marks) 12

abbrev Roomy : (sheet : List ℕ) (lent : Lent) (marks : List ℕ) (j : ℕ) → Type 0
Roomy sheet lent marks j = Answered sheet lent (left_out_of j marks) 11 → ⊥

module _ {sheet : List ℕ} {lent : Lent} {marks : List ℕ} where
  -- no sheet gives 11 where all give 12
  never-11 : {i n : ℕ} → TriedUpTo sheet lent marks i n → (j : ℕ) → j < i → Chosen j marks → Roomy sheet lent marks j
  never-11 (all_needed all e) j h chosen = answered-apart (all j h chosen) (λ x. omega arith)
  never-11 (one_spare never k c A e) j h chosen = never j h chosen

  -- A rule that is not chosen, or without which the sheet can be kept.
  tried-12 : {i n : ℕ} → TriedUpTo sheet lent marks i n → (Chosen i marks → Needed sheet lent marks i)
      → TriedUpTo sheet lent marks (i + 1) n
  tried-12 {i} (all_needed all e) here = all_needed (one_further marks (Needed sheet lent marks) i all here) e
  tried-12 {i} (one_spare never k c A e) here =
      one_spare (one_further marks (Roomy sheet lent marks) i never (λ chosen. answered-apart (here chosen) (λ x. omega arith))) k c A e

  -- A rule without which it still cannot be kept.
  tried-13 : {i n : ℕ} → TriedUpTo sheet lent marks i n → Chosen i marks → Answered sheet lent (left_out_of i marks) 13
      → TriedUpTo sheet lent marks (i + 1) 13
  tried-13 {i} T chosen A =
      one_spare (one_further marks (Roomy sheet lent marks) i (never-11 T) (λ _. answered-apart A (λ x. omega arith))) i chosen A refl

  -- All rules are tried when all marks are passed.
  tried-all : {i n : ℕ} → TriedUpTo sheet lent marks i n → length marks ≤ i → EachTried sheet lent marks n
  tried-all (all_needed all e) h = needed (λ j chosen. all j (omega (arith, chosen-within marks j chosen)) chosen) e
  tried-all (one_spare never k c A e) h = spare (λ j chosen. never j (omega (arith, chosen-within marks j chosen)) chosen) k c A e

-- how the pass over all rules stands before rule i + 1: what is tried so far, the marks as they were, slices of the lengths lent
pub record EachSoFar (sheet : List ℕ) (lent : Lent) (marks : List ℕ) (i n : ℕ) (marks-now : List ℕ) (now : Lent) : Type 0 where
  pub tried : TriedUpTo sheet lent marks i n
  pub unmoved : marks-now ≡ marks
  pub lengths : Lengths lent now

-- Before the first rule.
pub each_start : {sheet marks : List ℕ} {lent : Lent} → EachSoFar sheet lent marks 0 12 marks lent
each_start {lent = lent} =
    record { tried = all_needed (λ j h. absurd (omega arith)) refl; unmoved = refl; lengths = lengths-stay lent }

-- A rule that is not chosen is passed by.
pub each-unchosen : {sheet marks marks' : List ℕ} {lent now : Lent} {i n : ℕ} → EachSoFar sheet lent marks i n marks' now
    → get_or marks' i 0 ≡ 0 → EachSoFar sheet lent marks (i + 1) n marks' now
each-unchosen {i = i} E z =
    let unchosen = subst (λ (m : List ℕ). get_or m i 0 ≡ 0) E.unmoved z in
    record { tried = tried-12 E.tried (λ chosen. absurd (chosen unchosen)); unmoved = E.unmoved; lengths = E.lengths }

-- the choice is tried with rule i + 1 left out, and the marks are back
module _ {sheet marks marks' marks'' : List ℕ} {lent now later : Lent} {i n k : ℕ} (E : EachSoFar sheet lent marks i n marks' now)
    (T : Trial sheet now (left_out_of i marks') k later × (marks'' ≡ marks')) where
  -- what it says of the slices as they were lent
  each-trial : Trial sheet lent (left_out_of i marks) k later
  each-trial = subst (λ (m : List ℕ). Trial sheet lent (left_out_of i m) k later) E.unmoved (trial-later E.lengths T.0)

  -- 11 ends the pass.
  pub each-11 : Chosen i marks' → k ≡ 11 → EachLeftOut sheet lent marks 11 marks'' later
  each-11 chosen e =
      let tried = more i (subst (Chosen i) E.unmoved chosen) (answered-is e each-trial.answered) refl in
      record { tried = tried; unmoved = T.1 ∙ E.unmoved; lengths = each-trial.lengths }

  -- After 13 one rule is known to be spare.
  pub each-13 : Chosen i marks' → k ≡ 13 → EachSoFar sheet lent marks (i + 1) 13 marks'' later
  each-13 chosen e =
      let tried = tried-13 E.tried (subst (Chosen i) E.unmoved chosen) (answered-is e each-trial.answered) in
      record { tried = tried; unmoved = T.1 ∙ E.unmoved; lengths = each-trial.lengths }

  -- After 12 the rule is needed.
  pub each-12 : k ≡ 12 → EachSoFar sheet lent marks (i + 1) n marks'' later
  each-12 e =
      let tried = tried-12 E.tried (λ _. answered-is e each-trial.answered) in
      record { tried = tried; unmoved = T.1 ∙ E.unmoved; lengths = each-trial.lengths }

-- The pass is over.
pub each_all : {sheet marks marks' : List ℕ} {lent now : Lent} {i n : ℕ} → EachSoFar sheet lent marks i n marks' now
    → length marks ≡ most_rules
    → most_rules ≤ i → EachLeftOut sheet lent marks n marks' now
each_all E long h = record { tried = tried-all E.tried (omega arith); unmoved = E.unmoved; lengths = E.lengths }

-- ---- rules dropped

-- how the dropping stands with rules i, i - 1, .. 1 to try: from this choice on it ends as the whole does; slices of the lengths lent
pub record DropsSoFar (sheet : List ℕ) (lent : Lent) (count : ℕ) (start : List ℕ) (i : ℕ) (marks : List ℕ) (now : Lent) : Type 0 where
  pub inside : i ≤ count
  pub on : (end : Option (List ℕ)) → Dropping sheet lent i marks end → Dropping sheet lent count start end
  pub lengths : Lengths lent now

-- Before the last rule.
pub drop-start : {sheet start : List ℕ} {lent : Lent} {count : ℕ} → DropsSoFar sheet lent count start count start lent
drop-start {lent = lent} = record { inside = omega arith; on = λ end d. d; lengths = lengths-stay lent }

-- rule i is left out and tried, and the marks are back
module _ {sheet start marks marks' : List ℕ} {lent now later : Lent} {count i k : ℕ} (D : DropsSoFar sheet lent count start i marks now)
    (T : Trial sheet now (left_out_of (i - 1) marks) k later × (marks' ≡ marks)) (h : 0 < i) where
  -- what it says of the slices as they were lent, and that it is one rule of the dropping
  drop-trial : Trial sheet lent (left_out_of (i - 1) marks) k later
  drop-trial = trial-later D.lengths T.0

  one-tried : (end : Option (List ℕ))
      → OneTried sheet lent (i - 1) marks (λ (next : List ℕ). Dropping sheet lent (i - 1) next end) end
      → Dropping sheet lent count start end
  unfolding Dropping
  one-tried end t =
      let e : suc (i - 1) ≡ i = omega arith in
      D.on end (subst (λ (m : ℕ). Dropping sheet lent m marks end) e t)

  -- 11 ends the dropping, in no choice.
  pub drop-11 : k ≡ 11 → Drops sheet lent count start false marks' later
  drop-11 e =
      record { dropping = one-tried none (ends (answered-is e drop-trial.answered) refl); lengths = drop-trial.lengths }

  -- 13 drops the rule.
  pub drop-13 : k ≡ 13 → DropsSoFar sheet lent count start (i - 1) (left_out_of (i - 1) marks') later
  drop-13 e = record {
    inside = omega (arith, D.inside);
    on = λ end d. one-tried end (drops (answered-is e drop-trial.answered)
        (subst (λ (m : List ℕ). Dropping sheet lent (i - 1) (left_out_of (i - 1) m) end) T.1 d));
    lengths = drop-trial.lengths;
  }

  -- 12 keeps the rule.
  pub drop-12 : k ≡ 12 → DropsSoFar sheet lent count start (i - 1) marks' later
  drop-12 e = record {
    inside = omega (arith, D.inside);
    on = λ end d. one-tried end (keeps (answered-is e drop-trial.answered)
        (subst (λ (m : List ℕ). Dropping sheet lent (i - 1) m end) T.1 d));
    lengths = drop-trial.lengths;
  }

-- After the first rule the choice stands.
pub drop_all : {sheet start marks : List ℕ} {lent now : Lent} {count i : ℕ} → DropsSoFar sheet lent count start i marks now → i ≡ 0
    → Drops sheet lent count start true marks now
unfolding Dropping
drop_all {marks = marks} {i = zero} D e = record { dropping = D.on (some marks) refl; lengths = D.lengths }
drop_all {i = suc i} D e = absurd (omega arith)

-- ---- how dropping ends

-- A choice is not none, and it is one.
pub some-not-none : {A : Type 0} {x : A} → ◌≡◌ {A = Option A} none (some x) → ⊥
some-not-none e = let z : ◌≡◌ {A = ℕ} 0 1 = cc in omega arith

pub same_some : {A : Type 0} {x y : A} → ◌≡◌ {A = Option A} (some x) (some y) → x ≡ y
same_some e = cc

-- A dropped rule's mark is set to 0, so there are as many marks in the end.
pub dropping-length : (sheet : List ℕ) (lent : Lent) (i : ℕ) (marks end : List ℕ) → Dropping sheet lent i marks (some end)
    → length end ≡ length marks
unfolding Dropping
dropping-length sheet lent zero marks end e = ap length (same_some e)
dropping-length sheet lent (suc i) marks end (ends A e) = absurd (some-not-none (sym e))
dropping-length sheet lent (suc i) marks end (drops A d) = dropping-length sheet lent i (left_out_of i marks) end d ∙ length-set marks i 0
dropping-length sheet lent (suc i) marks end (keeps A d) = dropping-length sheet lent i marks end d
