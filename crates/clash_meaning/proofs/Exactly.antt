-- What each answer of the check and of the planner says, exactly, with every number written out.
--   proposals    proposal-exactly: which numbers are a proposal; rules-in-byte-6: of how many rules
--   the check    check-0-exactly, check-14-exactly, check-17-exactly; check-bad-sheet, check-bad-numbers, check-leaves-zeros: the slices;
--                not-rising-14, number-0-14, past-the-rules-14: numbers that are refused before any sheet is judged
--   the planner  planned-0-exactly, planned-12-exactly, planned-17-exactly, by the sheets that it tries; planned-bad-sheet,
--                planned-leaves-zeros: the slices; no-mark-unless-0, marks-are-255, marks-0-or-1: the marks
--   from C       check-c-unique, check-c-met, planned-c-unique, planned-c-met: one outcome without the place too
-- Assumes nothing.
use mathlib.Core.Path.{◌≡◌, refl, sym, ◌∙◌, ap, subst}
use mathlib.Core.Logic.{◌⊎◌, inl, inr, ◌↔◌}
use mathlib.Core.Option.{none, some}
use mathlib.Core.List.{List, []}
use Prim.Native.Nat.{ℕ, zero, suc, ◌-◌, ◌≤◌, ◌<◌}
use native.Mathlib.Decide.{ℕ_discrete}
use native.Mathlib.Omega.{arith}
use lib.ListN.{length, get_or, replicate, length-replicate}
use Rattle.meaning.specs.Sheet.{Fault, byte, number_of, first_fault}
use Rattle.meaning.specs.Promises.{Lent, zeros, cleared}
use Rattle.meaning.proofs.Demands.{fault-number}
use Rattle.meaning.proofs.Promised.{bad-not-good}
use Rattle.clash_choice.specs.Proposals.{most_rules, first_marks, marks_of, Chosen, left_out_of, Proposal}
use Rattle.clash_choice.proofs.Marks.{length-first}
use Rattle.clash_trials.specs.Trials.{Answered, ends, drops, keeps, Dropping}
use Rattle.clash_trials.proofs.Trials.{answered-apart}
use Rattle.clash_trials.proofs.Loops.{some-not-none, same_some, dropping-length}
use Rattle.clash_meaning.specs.Clash.{rules_in, Fighting, Crowded, together, one_less, crowded, accepted, refused}
use Rattle.clash_meaning.specs.Clash.{ClashChecked, faulty, misnumbered, weighed, MetMore, at_once, dropping, at_last}
use Rattle.clash_meaning.specs.Clash.{Plan, more, kept, found, Planned, worked, ClashCheckedC, PlannedC}
use Rattle.clash_meaning.proofs.Numbers.{unmarked}
use Rattle.clash_meaning.proofs.Dropped.{first_plain, dropping-plain}
use Rattle.clash_meaning.proofs.Outcomes.{clash-checked-unique, planned-unique, clash-checked-met, planned-met}

-- ---- proposals

-- each number from 1 to the number of rules, and any later one above any earlier one
abbrev pub RisesWithin : (rules : ℕ) (numbers : List ℕ) → Type 0
RisesWithin rules numbers =
    ((j : ℕ) → j < length numbers → (1 ≤ get_or numbers j 0) × (get_or numbers j 0 ≤ rules))
    × ((i j : ℕ) → i < j → j < length numbers → get_or numbers i 0 < get_or numbers j 0)

-- Numbers that rise from each to the next rise from any to any later one.
rises-to : (numbers : List ℕ) → ((j : ℕ) → suc j < length numbers → get_or numbers j 0 < get_or numbers (suc j) 0)
    → (i j : ℕ) → i < j → j < length numbers → get_or numbers i 0 < get_or numbers j 0
rises-to numbers up i zero h inside = absurd (omega arith)
rises-to numbers up i (suc j) h inside = by (ℕ_discrete i j) (rises-to numbers up i j)
  where
    by : Dec (i ≡ j) → (i < j → j < length numbers → get_or numbers i 0 < get_or numbers j 0) → get_or numbers i 0 < get_or numbers (suc j) 0
    by (yes same) earlier = subst (λ (k : ℕ). get_or numbers k 0 < get_or numbers (suc j) 0) (sym same) (up j inside)
    by (no other) earlier = omega (arith, up j inside, earlier (omega (arith, h, other)) (omega (arith, inside)))

-- Which numbers are a proposal.
pub proposal-exactly : (rules : ℕ) (numbers : List ℕ) → Proposal rules numbers ↔ RisesWithin rules numbers
proposal-exactly rules numbers = (
  λ p. (λ j h. (p.least j h, p.most j h), rises-to numbers p.rising),
  λ o. record { least = λ j h. (o.0 j h).0; most = λ j h. (o.0 j h).1; rising = λ j h. o.1 j (suc j) (omega arith) h },
)

-- "the sheet's step rules": byte 6 counts them.
pub rules-in-byte-6 : (sheet : List ℕ) → rules_in sheet ≡ get_or sheet 6 0
unfolding byte
rules-in-byte-6 sheet = refl

-- the numbers are a proposal for the sheet
abbrev Proposed : (sheet numbers : List ℕ) → Type 0
Proposed sheet numbers = RisesWithin (get_or sheet 6 0) numbers

proposed : (sheet : List ℕ) {numbers : List ℕ} → Proposal (rules_in sheet) numbers → Proposed sheet numbers
unfolding byte
proposed sheet {numbers} p = (proposal-exactly (rules_in sheet) numbers).0 p

proposal : (sheet : List ℕ) {numbers : List ℕ} → Proposed sheet numbers → Proposal (rules_in sheet) numbers
unfolding byte
proposal sheet {numbers} p = (proposal-exactly (rules_in sheet) numbers).1 p

-- ---- the check

-- the chosen rules together give 11, or with one of them left out
abbrev pub GivesMore : (sheet : List ℕ) (lent : Lent) (marks : List ℕ) → Type 0
GivesMore sheet lent marks = Answered sheet lent marks 11 ⊎ ((i : ℕ) × Chosen i marks × Answered sheet lent (left_out_of i marks) 11)

-- together they give 13, and with each one of them left out 12
abbrev pub Fights : (sheet : List ℕ) (lent : Lent) (marks : List ℕ) → Type 0
Fights sheet lent marks = Answered sheet lent marks 13 × ((i : ℕ) → Chosen i marks → Answered sheet lent (left_out_of i marks) 12)

gives_more : {sheet : List ℕ} {lent : Lent} {marks : List ℕ} → Crowded sheet lent marks → GivesMore sheet lent marks
gives_more (together p) = inl p
gives_more (one_less i c p) = inr (i, c, p)

is-crowded : {sheet : List ℕ} {lent : Lent} {marks : List ℕ} → GivesMore sheet lent marks → Crowded sheet lent marks
is-crowded (inl p) = together p
is-crowded (inr (i, c, p)) = one_less i c p

fighting : {sheet : List ℕ} {lent : Lent} {marks : List ℕ} → Fights sheet lent marks → Fighting sheet lent marks
fighting f = record { together = f.0; one_less = f.1 }

module _ {sheet numbers : List ℕ} {before after : Lent} {n place : ℕ} where
  -- 0 exactly if the sheet is good, the numbers are a proposal, and the rules with these numbers fight.
  pub check-0-exactly : ClashChecked sheet numbers before n place after
      → (n ≡ 0) ↔ ((first_fault sheet ≡ none) × RisesWithin (get_or sheet 6 0) numbers × Fights sheet before (marks_of numbers))
  check-0-exactly p = (
    λ e. there p e,
    λ w. (clash-checked-unique p (weighed w.0 (proposal sheet w.1) (accepted (fighting w.2) refl) refl refl)).0,
  )
    where
      there : ClashChecked sheet numbers before n place after → n ≡ 0
          → (first_fault sheet ≡ none) × Proposed sheet numbers × Fights sheet before (marks_of numbers)
      there (faulty f g a b c) e = absurd (omega (arith, a, e, fault-number f.why))
      there (misnumbered g wrong a b c) e = absurd (omega (arith, a, e))
      there (weighed g q (crowded x a) b c) e = absurd (omega (arith, a, e))
      there (weighed g q (accepted f a) b c) e = (g, proposed sheet q, (f.together, f.one_less))
      there (weighed g q (refused x y a) b c) e = absurd (omega (arith, a, e))

  -- 17 exactly if the sheet is good, the numbers are a proposal, and one of the sheets gives 11.
  pub check-17-exactly : ClashChecked sheet numbers before n place after
      → (n ≡ 17) ↔ ((first_fault sheet ≡ none) × RisesWithin (get_or sheet 6 0) numbers × GivesMore sheet before (marks_of numbers))
  check-17-exactly p = (
    λ e. there p e,
    λ w. (clash-checked-unique p (weighed w.0 (proposal sheet w.1) (crowded (is-crowded w.2) refl) refl refl)).0,
  )
    where
      there : ClashChecked sheet numbers before n place after → n ≡ 17
          → (first_fault sheet ≡ none) × Proposed sheet numbers × GivesMore sheet before (marks_of numbers)
      there (faulty f g a b c) e = absurd (omega (arith, a, e, fault-number f.why))
      there (misnumbered g wrong a b c) e = absurd (omega (arith, a, e))
      there (weighed g q (crowded x a) b c) e = (g, proposed sheet q, gives_more x)
      there (weighed g q (accepted f a) b c) e = absurd (omega (arith, a, e))
      there (weighed g q (refused x y a) b c) e = absurd (omega (arith, a, e))

  -- 14 exactly if the sheet is good and the numbers are no proposal, or none of the sheets gives 11 and the rules do not fight.
  pub check-14-exactly : ClashChecked sheet numbers before n place after
      → (n ≡ 14) ↔ ((first_fault sheet ≡ none)
      × ((RisesWithin (get_or sheet 6 0) numbers → ⊥)
      ⊎ ((GivesMore sheet before (marks_of numbers) → ⊥) × (Fights sheet before (marks_of numbers) → ⊥))))
  check-14-exactly p = (λ e. there p e, λ w. back p w.0 w.1)
    where
      Else : Type 0
      Else = (Proposed sheet numbers → ⊥)
          ⊎ ((GivesMore sheet before (marks_of numbers) → ⊥) × (Fights sheet before (marks_of numbers) → ⊥))

      there : ClashChecked sheet numbers before n place after → n ≡ 14 → (first_fault sheet ≡ none) × Else
      there (faulty f g a b c) e = absurd (omega (arith, a, e, fault-number f.why))
      there (misnumbered g wrong a b c) e = (g, inl (λ q. wrong (proposal sheet q)))
      there (weighed g q (crowded x a) b c) e = absurd (omega (arith, a, e))
      there (weighed g q (accepted f a) b c) e = absurd (omega (arith, a, e))
      there (weighed g q (refused x y a) b c) e = (g, inr (λ w. x (is-crowded w), λ w. y (fighting w)))

      back : ClashChecked sheet numbers before n place after → first_fault sheet ≡ none → Else → n ≡ 14
      back (faulty f g a b c) good w = absurd (bad-not-good g good)
      back (misnumbered g wrong a b c) good w = a
      back (weighed g q x b c) good (inl wrong) = absurd (wrong (proposed sheet q))
      back (weighed g q (crowded x a) b c) good (inr (roomy, peace)) = absurd (roomy (gives_more x))
      back (weighed g q (accepted f a) b c) good (inr (roomy, peace)) = absurd (peace (f.together, f.one_less))
      back (weighed g q (refused x y a) b c) good (inr (roomy, peace)) = a

  -- A bad sheet: its own number and place, and nothing is changed.
  pub check-bad-sheet : ClashChecked sheet numbers before n place after → (f : Fault) → first_fault sheet ≡ some f
      → (n ≡ number_of f.why) × (place ≡ f.at) × (after ≡ before)
  check-bad-sheet p f e = clash-checked-unique p (faulty f e refl refl refl)

  -- Bad numbers: 14, place 0, and nothing is changed.
  pub check-bad-numbers : ClashChecked sheet numbers before n place after → first_fault sheet ≡ none
      → (RisesWithin (get_or sheet 6 0) numbers → ⊥) → (n ≡ 14) × (place ≡ 0) × (after ≡ before)
  check-bad-numbers p good wrong = clash-checked-unique p (misnumbered good (λ q. wrong (proposed sheet q)) refl refl refl)

  -- After all else what was lent is zero over its whole length, and the place is 0.
  pub check-leaves-zeros : ClashChecked sheet numbers before n place after → first_fault sheet ≡ none → RisesWithin (get_or sheet 6 0) numbers
      → (place ≡ 0) × (after.table ≡ replicate (length before.table) 0) × (after.words ≡ replicate (length before.words) 0)
      × (after.scratch ≡ replicate (length before.scratch) 0) × (after.run ≡ before.run)
  unfolding cleared zeros
  check-leaves-zeros (faulty f g a b c) good o = absurd (bad-not-good g good)
  check-leaves-zeros (misnumbered g wrong a b c) good o = absurd (wrong (proposal sheet o))
  check-leaves-zeros (weighed g q w b c) good o = (
    b,
    ap (λ (l : Lent). l.table) c,
    ap (λ (l : Lent). l.words) c,
    ap (λ (l : Lent). l.scratch) c,
    ap (λ (l : Lent). l.run) c,
  )

  -- A number that is not above an earlier one (the same number twice, too), 0, or a number past the sheet's rules.
  pub not-rising-14 : ClashChecked sheet numbers before n place after → first_fault sheet ≡ none → (i j : ℕ) → i < j → j < length numbers
      → get_or numbers j 0 ≤ get_or numbers i 0 → (n ≡ 14) × (place ≡ 0) × (after ≡ before)
  not-rising-14 p good i j h inside falls = check-bad-numbers p good (λ o. omega (arith, o.1 i j h inside, falls))

  pub number-0-14 : ClashChecked sheet numbers before n place after → first_fault sheet ≡ none → (j : ℕ) → j < length numbers
      → get_or numbers j 0 ≡ 0 → (n ≡ 14) × (place ≡ 0) × (after ≡ before)
  number-0-14 p good j inside nil = check-bad-numbers p good (λ o. omega (arith, (o.0 j inside).0, nil))

  pub past-the-rules-14 : ClashChecked sheet numbers before n place after → first_fault sheet ≡ none → (j : ℕ) → j < length numbers
      → get_or sheet 6 0 < get_or numbers j 0 → (n ≡ 14) × (place ≡ 0) × (after ≡ before)
  past-the-rules-14 p good j inside past = check-bad-numbers p good (λ o. omega (arith, (o.0 j inside).1, past))

-- ---- the planner

-- With rules i, i - 1, .. 1 still to be dropped or kept from the choice `now`, the planner tries `tried`: the choice without rule i; what
-- it tries after dropping that rule (13) or keeping it (12); and in the end the choice with each rule left out.
unfoldable pub Tries : (sheet : List ℕ) (lent : Lent) (i : ℕ) (now tried : List ℕ) → Type 0
Tries sheet lent zero now tried = (j : ℕ) × Chosen j now × (tried ≡ left_out_of j now)
Tries sheet lent (suc i) now tried =
    (tried ≡ left_out_of i now)
    ⊎ ((Answered sheet lent (left_out_of i now) 13 × Tries sheet lent i (left_out_of i now) tried)
    ⊎ (Answered sheet lent (left_out_of i now) 12 × Tries sheet lent i now tried))

-- "a sheet it tries, the whole one included"
abbrev pub PlannerTries : (sheet : List ℕ) (lent : Lent) (tried : List ℕ) → Type 0
PlannerTries sheet lent tried =
    (tried ≡ first_marks (rules_in sheet))
    ⊎ (Answered sheet lent (first_marks (rules_in sheet)) 13 × Tries sheet lent (rules_in sheet) (first_marks (rules_in sheet)) tried)

module _ (sheet : List ℕ) (lent : Lent) where
  -- an answer for a choice by another name
  same-choice : {tried marks : List ℕ} {n : ℕ} → tried ≡ marks → Answered sheet lent tried n → Answered sheet lent marks n
  same-choice {n = n} e p = subst (λ (m : List ℕ). Answered sheet lent m n) e p

  -- Dropping that ends in no choice has tried a sheet that gives 11.
  dropping-tries : (i : ℕ) (now : List ℕ) → Dropping sheet lent i now none
      → (tried : List ℕ) × Tries sheet lent i now tried × Answered sheet lent tried 11
  unfolding Dropping Tries
  dropping-tries zero now e = absurd (some-not-none e)
  dropping-tries (suc i) now (ends p e) = (left_out_of i now, inl refl, p)
  dropping-tries (suc i) now (drops p next) = let (t, w, q) = dropping-tries i (left_out_of i now) next in (t, inr (inl (p, w)), q)
  dropping-tries (suc i) now (keeps p next) = let (t, w, q) = dropping-tries i now next in (t, inr (inr (p, w)), q)

  -- Where it ends in a choice, that choice is tried with each rule left out.
  last-tries : (i : ℕ) (now end : List ℕ) → Dropping sheet lent i now (some end) → (j : ℕ) → Chosen j end
      → Tries sheet lent i now (left_out_of j end)
  unfolding Dropping Tries
  last-tries zero now end e j c = (j, subst (Chosen j) (same_some e) c, ap (left_out_of j) (same_some e))
  last-tries (suc i) now end (ends p e) j c = absurd (some-not-none (sym e))
  last-tries (suc i) now end (drops p next) j c = inr (inl (p, last-tries i (left_out_of i now) end next j c))
  last-tries (suc i) now end (keeps p next) j c = inr (inr (p, last-tries i now end next j c))

  -- If besides none of these gives 11, no sheet that is tried does.
  tries-roomy : (i : ℕ) (now end : List ℕ) → Dropping sheet lent i now (some end)
      → ((j : ℕ) → Chosen j end → Answered sheet lent (left_out_of j end) 11 → ⊥)
      → (tried : List ℕ) → Tries sheet lent i now tried → Answered sheet lent tried 11 → ⊥
  unfolding Dropping Tries
  tries-roomy zero now end e roomy tried (j, c, t) q =
      roomy j (subst (Chosen j) (sym (same_some e)) c) (same-choice (t ∙ ap (left_out_of j) (sym (same_some e))) q)
  tries-roomy (suc i) now end (ends p e) roomy tried w q = some-not-none (sym e)
  tries-roomy (suc i) now end (drops p next) roomy tried (inl t) q = answered-apart p (λ e. omega (arith, e)) (same-choice t q)
  tries-roomy (suc i) now end (drops p next) roomy tried (inr (inl (a, w))) q = tries-roomy i (left_out_of i now) end next roomy tried w q
  tries-roomy (suc i) now end (drops p next) roomy tried (inr (inr (a, w))) q = answered-apart p (λ e. omega (arith, e)) a
  tries-roomy (suc i) now end (keeps p next) roomy tried (inl t) q = answered-apart p (λ e. omega (arith, e)) (same-choice t q)
  tries-roomy (suc i) now end (keeps p next) roomy tried (inr (inl (a, w))) q = answered-apart p (λ e. omega (arith, e)) a
  tries-roomy (suc i) now end (keeps p next) roomy tried (inr (inr (a, w))) q = tries-roomy i now end next roomy tried w q

  -- Where 11 is met, a sheet that is tried gives it.
  met-tries : MetMore sheet lent → (tried : List ℕ) × PlannerTries sheet lent tried × Answered sheet lent tried 11
  met-tries (at_once p) = (first_marks (rules_in sheet), inl refl, p)
  met-tries (dropping r) =
      let (t, w, q) = dropping-tries (rules_in sheet) (first_marks (rules_in sheet)) r.dropping in
      (t, inr (r.whole, w), q)
  met-tries (at_last marks r i c p) =
      (left_out_of i marks, inr (r.whole, last-tries (rules_in sheet) (first_marks (rules_in sheet)) marks r.dropping i c), p)

  -- Where a choice is found, none does; nor where the whole sheet gives 12.
  plan-roomy : {marks : List ℕ} → Plan sheet lent marks → (tried : List ℕ) → PlannerTries sheet lent tried
      → Answered sheet lent tried 11 → ⊥
  plan-roomy plan tried (inl t) q = answered-apart plan.reduced.whole (λ e. omega (arith, e)) (same-choice t q)
  plan-roomy {marks} plan tried (inr (a, w)) q =
      tries-roomy (rules_in sheet) (first_marks (rules_in sheet)) marks plan.reduced.dropping plan.roomy tried w q

  kept-roomy : Answered sheet lent (first_marks (rules_in sheet)) 12 → (tried : List ℕ) → PlannerTries sheet lent tried
      → Answered sheet lent tried 11 → ⊥
  kept-roomy k tried (inl t) q = answered-apart k (λ e. omega (arith, e)) (same-choice t q)
  kept-roomy k tried (inr (a, w)) q = answered-apart k (λ e. omega (arith, e)) a

module _ {sheet : List ℕ} {before after : Lent} {n place : ℕ} {marks : List ℕ} where
  -- 12 exactly if the sheet is good and the whole of it is answered 12.
  pub planned-12-exactly : Planned sheet before n place marks after
      → (n ≡ 12) ↔ ((first_fault sheet ≡ none) × Answered sheet before (first_marks (rules_in sheet)) 12)
  planned-12-exactly p =
      (λ e. there p e, λ w. (planned-unique p (worked w.0 (kept w.1 refl refl) refl refl)).0)
    where
      there : Planned sheet before n place marks after → n ≡ 12
          → (first_fault sheet ≡ none) × Answered sheet before (first_marks (rules_in sheet)) 12
      there (faulty f g a b s c) e = absurd (omega (arith, a, e, fault-number f.why))
      there (worked g (more w a s) b c) e = absurd (omega (arith, a, e))
      there (worked g (kept k a s) b c) e = (g, k)
      there (worked g (found plan a) b c) e = absurd (omega (arith, a, e))

  -- 17 exactly if the sheet is good and one that is tried gives 11.
  pub planned-17-exactly : Planned sheet before n place marks after
      → (n ≡ 17) ↔ ((first_fault sheet ≡ none) × ((tried : List ℕ) × PlannerTries sheet before tried × Answered sheet before tried 11))
  planned-17-exactly p = (λ e. there p e, λ w. back p w)
    where
      Met : Type 0
      Met = (first_fault sheet ≡ none) × ((tried : List ℕ) × PlannerTries sheet before tried × Answered sheet before tried 11)

      there : Planned sheet before n place marks after → n ≡ 17 → Met
      there (faulty f g a b s c) e = absurd (omega (arith, a, e, fault-number f.why))
      there (worked g (more w a s) b c) e = (g, met-tries sheet before w)
      there (worked g (kept k a s) b c) e = absurd (omega (arith, a, e))
      there (worked g (found plan a) b c) e = absurd (omega (arith, a, e))

      back : Planned sheet before n place marks after → Met → n ≡ 17
      back (faulty f g a b s c) (good, w) = absurd (bad-not-good g good)
      back (worked g (more w a s) b c) m = a
      back (worked g (kept k a s) b c) (good, (t, w, q)) = absurd (kept-roomy sheet before k t w q)
      back (worked g (found plan a) b c) (good, (t, w, q)) = absurd (plan-roomy sheet before plan t w q)

  -- 0 exactly if the sheet is good, the whole of it is answered 13, and none that is tried gives 11.
  pub planned-0-exactly : Planned sheet before n place marks after
      → (n ≡ 0) ↔ ((first_fault sheet ≡ none) × Answered sheet before (first_marks (rules_in sheet)) 13
      × ((tried : List ℕ) → PlannerTries sheet before tried → Answered sheet before tried 11 → ⊥))
  planned-0-exactly p = (λ e. there p e, λ w. back p w)
    where
      Done : Type 0
      Done = (first_fault sheet ≡ none) × Answered sheet before (first_marks (rules_in sheet)) 13
          × ((tried : List ℕ) → PlannerTries sheet before tried → Answered sheet before tried 11 → ⊥)

      there : Planned sheet before n place marks after → n ≡ 0 → Done
      there (faulty f g a b s c) e = absurd (omega (arith, a, e, fault-number f.why))
      there (worked g (more w a s) b c) e = absurd (omega (arith, a, e))
      there (worked g (kept k a s) b c) e = absurd (omega (arith, a, e))
      there (worked g (found plan a) b c) e = (g, plan.reduced.whole, plan-roomy sheet before plan)

      back : Planned sheet before n place marks after → Done → n ≡ 0
      back (faulty f g a b s c) w = absurd (bad-not-good g w.0)
      back (worked g (more m a s) b c) w = let (t, x, q) = met-tries sheet before m in absurd (w.2 t x q)
      back (worked g (kept k a s) b c) w = absurd (answered-apart k (λ e. omega (arith, e)) w.1)
      back (worked g (found plan a) b c) w = a

  -- A bad sheet: its own number and place, no mark, and nothing is changed.
  pub planned-bad-sheet : Planned sheet before n place marks after → (f : Fault) → first_fault sheet ≡ some f
      → (n ≡ number_of f.why) × (place ≡ f.at) × (marks ≡ replicate 255 0) × (after ≡ before)
  planned-bad-sheet p f e = planned-unique p (faulty f e refl refl refl refl)

  -- After all else what was lent is zero over its whole length, and the place is 0.
  pub planned-leaves-zeros : Planned sheet before n place marks after → first_fault sheet ≡ none
      → (place ≡ 0) × (after.table ≡ replicate (length before.table) 0) × (after.words ≡ replicate (length before.words) 0)
      × (after.scratch ≡ replicate (length before.scratch) 0) × (after.run ≡ before.run)
  unfolding cleared zeros
  planned-leaves-zeros (faulty f g a b s c) good = absurd (bad-not-good g good)
  planned-leaves-zeros (worked g w b c) good = (
    b,
    ap (λ (l : Lent). l.table) c,
    ap (λ (l : Lent). l.words) c,
    ap (λ (l : Lent). l.scratch) c,
    ap (λ (l : Lent). l.run) c,
  )

  -- "None set on a refusal."
  pub no-mark-unless-0 : Planned sheet before n place marks after → (n ≡ 0 → ⊥) → marks ≡ replicate 255 0
  no-mark-unless-0 (faulty f g a b s c) never = s
  no-mark-unless-0 (worked g (more w a s) b c) never = s
  no-mark-unless-0 (worked g (kept k a s) b c) never = s
  no-mark-unless-0 (worked g (found plan a) b c) never = absurd (never a)

  -- "Given as 255 marks": always as many, each 0 or 1. (Byte 6 is at most 255 in every sheet that can be handed in.)
  pub marks-are-255 : get_or sheet 6 0 ≤ 255 → Planned sheet before n place marks after → length marks ≡ 255
  unfolding byte
  marks-are-255 few (faulty f g a b s c) = ap length s ∙ length-replicate {A = ℕ} 255 0
  marks-are-255 few (worked g (more w a s) b c) = ap length s ∙ length-replicate {A = ℕ} 255 0
  marks-are-255 few (worked g (kept k a s) b c) = ap length s ∙ length-replicate {A = ℕ} 255 0
  marks-are-255 few (worked g (found plan a) b c) =
      dropping-length sheet before (rules_in sheet) (first_marks (rules_in sheet)) marks plan.reduced.dropping
      ∙ length-first (rules_in sheet) few

  pub marks-0-or-1 : Planned sheet before n place marks after → (i : ℕ) → get_or marks i 0 ≤ 1
  marks-0-or-1 (faulty f g a b s c) i = subst (λ (l : List ℕ). get_or l i 0 ≤ 1) (sym s) (omega (arith, unmarked i 255))
  marks-0-or-1 (worked g (more w a s) b c) i = subst (λ (l : List ℕ). get_or l i 0 ≤ 1) (sym s) (omega (arith, unmarked i 255))
  marks-0-or-1 (worked g (kept k a s) b c) i = subst (λ (l : List ℕ). get_or l i 0 ≤ 1) (sym s) (omega (arith, unmarked i 255))
  marks-0-or-1 (worked g (found plan a) b c) i =
      dropping-plain sheet before (rules_in sheet) (first_marks (rules_in sheet)) marks plan.reduced.dropping
      (first_plain (rules_in sheet) (most_rules - rules_in sheet)) i

-- ---- from C, without the place

pub check-c-unique : {sheet numbers : List ℕ} {before : Lent} {m n : ℕ} {x y : Lent} → ClashCheckedC sheet numbers before m x
    → ClashCheckedC sheet numbers before n y → (m ≡ n) × (x ≡ y)
check-c-unique p q = let (e, at, l) = clash-checked-unique p.promise q.promise in (e, l)

pub check-c-met : (sheet numbers : List ℕ) (before : Lent) → before.run ≡ []
    → (n : ℕ) × (after : Lent) × ClashCheckedC sheet numbers before n after
check-c-met sheet numbers before no_run =
    let (n, at, after, p) = clash-checked-met sheet numbers before no_run in
    (n, after, record { place = at; promise = p })

pub planned-c-unique : {sheet : List ℕ} {before : Lent} {m n : ℕ} {marks marks' : List ℕ} {x y : Lent} → PlannedC sheet before m marks x
    → PlannedC sheet before n marks' y → (m ≡ n) × (marks ≡ marks') × (x ≡ y)
planned-c-unique p q = let (e, at, s, l) = planned-unique p.promise q.promise in (e, s, l)

pub planned-c-met : (sheet : List ℕ) (before : Lent) → before.run ≡ []
    → (n : ℕ) × (marks : List ℕ) × (after : Lent) × PlannedC sheet before n marks after
planned-c-met sheet before no_run =
    let (n, at, marks, after, p) = planned-met sheet before no_run in
    (n, marks, after, record { place = at; promise = p })
