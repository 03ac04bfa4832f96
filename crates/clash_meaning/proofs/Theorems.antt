-- What the check's and the planner's promises mean. An accepted choice is a clash from which no rule can be taken away; the planner's
-- choice is accepted; with room for every state nobody says 17; a sheet that clashes without its step rules gets the empty choice. Assumes
-- nothing.
use mathlib.Core.Path.{◌≡◌, refl, sym, ◌∙◌, ap, subst}
use mathlib.Core.Logic.{◌⊎◌, inl, inr, ⊎_elim, ◌↔◌}
use mathlib.Core.Option.{none, some}
use mathlib.Core.List.{List, []}
use Prim.Native.Nat.{ℕ, zero, suc, ◌-◌, ◌≤◌, ◌<◌, ◌^◌}
use native.Mathlib.Decide.{dec_lt, ℕ_discrete}
use native.Mathlib.Omega.{arith}
use lib.ListN.{length, get_or, length-replicate}
use lib.Seq.{ext_get_or}
use Rattle.meaning.specs.System.{CanBeKept, Reachable, Number}
use Rattle.meaning.specs.Sheet.{first_fault, decode, letters_in}
use Rattle.meaning.specs.Rules.{system_of}
use Rattle.meaning.specs.Promises.{system_in, Lent, capacity, cleared}
use Rattle.meaning.proofs.Demands as D
use Rattle.meaning.proofs.Lists.{number-mono, number-below, number-unique}
use Rattle.meaning.proofs.SheetSystem.{finite-in, reachable-lawful-in}
use Rattle.meaning.proofs.Judging.{number-of-reachable}
use Rattle.meaning.proofs.Promised.{bad-not-good}
use Rattle.meaning.proofs.Parts.{lawful-below}
use Rattle.reader.specs.Header.{low_in}
use Rattle.clash_choice.specs.Choice.{with_chosen, only_chosen}
use Rattle.clash_choice.proofs.Chosen.{chosen-good, chosen-decoded, chosen-letters, all-chosen}
use Rattle.clash_choice.proofs.Fewer.{among-kept}
use Rattle.clash_choice.specs.Proposals.{most_rules, no_marks, first_marks, marks_of, Chosen, left_out_of, Proposal}
use Rattle.clash_choice.proofs.Marks.{length-first}
use Rattle.clash_trials.specs.Trials.{Answered, ends, drops, keeps, Dropping}
use Rattle.clash_meaning.specs.Clash.{rules_in, Fighting, together, one_less, crowded, accepted, refused}
use Rattle.clash_meaning.specs.Clash.{ClashChecked, faulty, misnumbered, weighed}
use Rattle.clash_meaning.specs.Clash.{at_once, dropping, at_last, Plan, more, kept, found, Planned, worked}
use Rattle.clash_trials.proofs.Trials.{answered-apart, Verdict, is_11, is_12, is_13, verdict}
use Rattle.clash_trials.proofs.Loops.{some-not-none, dropping-length}
use Rattle.clash_meaning.proofs.Verdicts.{answered-met, kept-at-12, never-at-13}
use Rattle.clash_meaning.proofs.Numbers.{numbers_of, unmarked, marks-back, numbers-proposed}
use Rattle.clash_meaning.proofs.Dropped.{left-out-0, first_past, first-marked, first_plain, dropping-above, dropping-plain}
use Rattle.clash_meaning.proofs.Dropped.{dropping-13, dropping-none, kept-needed}

-- ---- by the meaning

-- the sheet with only these step rules, as it is meant
abbrev pub Keepable : (sheet marks : List ℕ) → Type 0
Keepable sheet marks = CanBeKept (system_of (only_chosen marks (decode sheet)))

-- "no endless run obeys the sheet with these rules; with any one of them left out some run does"
pub record AClash (sheet marks : List ℕ) : Type 0 where
  pub none_obeys : Keepable sheet marks → ⊥
  pub one_less_obeyed : (i : ℕ) → Chosen i marks → Keepable sheet (left_out_of i marks)

-- It is the same whether it is asked of the bytes or of what the sheet says.
pub meant : (sheet marks : List ℕ) → CanBeKept (system_in (with_chosen sheet marks)) ≡ Keepable sheet marks
unfolding system_in
meant sheet marks = ap (λ s. CanBeKept (system_of s)) (chosen-decoded sheet marks)

-- With all its rules chosen it is the sheet itself, byte for byte. (Only the length's low byte is asked about, which is below 256 in every
-- sheet that can be handed in.)
pub whole-sheet : (sheet : List ℕ) → first_fault sheet ≡ none → low_in sheet < 256
    → with_chosen sheet (first_marks (rules_in sheet)) ≡ sheet
whole-sheet sheet good small =
    all-chosen sheet good small (first_marks (rules_in sheet))
    (λ i h e. let one : get_or (first_marks (rules_in sheet)) i 0 ≡ 1 = first-marked (rules_in sheet) (most_rules - rules_in sheet) i h in
    omega (arith, one, e))

-- A choice that fights is a clash.
fighting-is-a-clash : {sheet : List ℕ} {lent : Lent} {marks : List ℕ} → first_fault sheet ≡ none → lent.run ≡ [] → Fighting sheet lent marks
    → AClash sheet marks
fighting-is-a-clash {sheet} {lent} {marks} good no_run f = record {
  none_obeys = λ k. never-at-13 good no_run f.together (subst (λ T. T) (sym (meant sheet marks)) k);
  one_less_obeyed = λ i c. subst (λ T. T) (meant sheet (left_out_of i marks)) (kept-at-12 good no_run (f.one_less i c));
}

-- What 0 of the check means.
pub accepted-is-a-clash : {sheet numbers : List ℕ} {before after : Lent} {place : ℕ} → before.run ≡ []
    → ClashChecked sheet numbers before 0 place after → Proposal (rules_in sheet) numbers × AClash sheet (marks_of numbers)
accepted-is-a-clash no_run (faulty f e a b c) = absurd (omega (arith, a, D.fault-number f.why))
accepted-is-a-clash no_run (misnumbered e wrong a b c) = absurd (omega (arith, a))
accepted-is-a-clash no_run (weighed e p (crowded x a) b c) = absurd (omega (arith, a))
accepted-is-a-clash no_run (weighed e p (accepted f a) b c) = (p, fighting-is-a-clash e no_run f)
accepted-is-a-clash no_run (weighed e p (refused x y a) b c) = absurd (omega (arith, a))

-- ---- the planner's choice is accepted

-- A rule that the planner chooses is one of the sheet's.
pub plan-within : {sheet : List ℕ} {lent : Lent} {marks : List ℕ} → Plan sheet lent marks → (i : ℕ) → Chosen i marks → i < rules_in sheet
plan-within {sheet} {lent} {marks} plan i c = by (dec_lt i (rules_in sheet))
  where
    by : Dec (i < rules_in sheet) → i < rules_in sheet
    by (yes h) = h
    by (no h) =
        let same = dropping-above sheet lent (rules_in sheet) (first_marks (rules_in sheet)) marks plan.reduced.dropping i (omega arith) in
        absurd (c (same ∙ first_past (rules_in sheet) (most_rules - rules_in sheet) i (omega arith)))

plan-fights : {sheet : List ℕ} {lent : Lent} {marks : List ℕ} → first_fault sheet ≡ none → lent.run ≡ [] → Plan sheet lent marks
    → Fighting sheet lent marks
plan-fights {sheet} {lent} {marks} good no_run plan = record {
  together = dropping-13 sheet lent m (first_marks m) marks plan.reduced.dropping plan.reduced.whole;
  one_less = λ i c. by i c (verdict good no_run (left_out_of i marks));
}
  where
    m : ℕ
    m = rules_in sheet

    by : (i : ℕ) → Chosen i marks → Verdict sheet lent (left_out_of i marks) → Answered sheet lent (left_out_of i marks) 12
    by i c (is_11 p) = absurd (plan.roomy i c p)
    by i c (is_12 p k) = p
    by i c (is_13 p never) =
        absurd (never (kept-needed sheet lent good no_run m (first_marks m) marks plan.reduced.dropping i (plan-within plan i c) c))

-- The planner's choice is a proposal, and it is that of its numbers.
module _ {sheet : List ℕ} {lent : Lent} {marks : List ℕ} (few : rules_in sheet ≤ most_rules) (plan : Plan sheet lent marks) where
  plan-length : length marks ≡ most_rules
  plan-length =
      dropping-length sheet lent (rules_in sheet) (first_marks (rules_in sheet)) marks plan.reduced.dropping
      ∙ length-first (rules_in sheet) few

  plan-back : marks_of (numbers_of marks) ≡ marks
  plan-back =
      marks-back marks plan-length
      (dropping-plain sheet lent (rules_in sheet) (first_marks (rules_in sheet)) marks plan.reduced.dropping
      (first_plain (rules_in sheet) (most_rules - rules_in sheet)))

-- the choice that the planner hands over with 0
pub handed : {sheet : List ℕ} {before after : Lent} {place : ℕ} {marks : List ℕ} → Planned sheet before 0 place marks after
    → (first_fault sheet ≡ none) × Plan sheet before marks
handed (faulty f e a b s c) = absurd (omega (arith, a, D.fault-number f.why))
handed (worked e (more w a s) b c) = absurd (omega (arith, a))
handed (worked e (kept k a s) b c) = absurd (omega (arith, a))
handed (worked e (found plan a) b c) = (e, plan)

-- What the planner hands over with 0 the check accepts: the numbers of its marks are answered 0. (Byte 6 counts the step rules, so they are
-- at most 255 in every sheet that can be handed in.)
pub plan-accepted : {sheet : List ℕ} {before after : Lent} {place : ℕ} {marks : List ℕ} → before.run ≡ [] → rules_in sheet ≤ most_rules
    → Planned sheet before 0 place marks after
    → (marks_of (numbers_of marks) ≡ marks) × ClashChecked sheet (numbers_of marks) before 0 0 (cleared before)
plan-accepted {sheet} {before} {marks = marks} no_run few p =
    let (good, plan) = handed p in
    let back = plan-back few plan in
    let fights : Fighting sheet before (marks_of (numbers_of marks)) = subst (Fighting sheet before) (sym back)
    (plan-fights good no_run plan) in
    (back, weighed good (numbers-proposed (rules_in sheet) marks (plan-within plan)) (accepted fights refl) refl refl)

-- So it is a clash from which no rule can be taken away.
pub plan-is-a-clash : {sheet : List ℕ} {before after : Lent} {place : ℕ} {marks : List ℕ} → before.run ≡ []
    → Planned sheet before 0 place marks after → AClash sheet marks
plan-is-a-clash no_run p =
    let (good, plan) = handed p in
    fighting-is-a-clash good no_run (plan-fights good no_run plan)

-- ---- what the answers mean

-- A choice is answered 11 exactly if its sheet has more reachable states than there is room for.
pub answers-11-exactly : {sheet : List ℕ} {lent : Lent} → first_fault sheet ≡ none → (marks : List ℕ)
    → Answered sheet lent marks 11 ↔ ((r : ℕ) × Number (Reachable (system_in (with_chosen sheet marks))) r × (capacity lent < r))
answers-11-exactly {sheet} {lent} good marks = (
  λ p. (D.answers-11-exactly p.promise (chosen-good sheet good marks)).0 (sym p.number),
  λ above.
      let (n, p) = answered-met sheet lent marks in
      subst (Answered sheet lent marks) (p.number ∙ (D.answers-11-exactly p.promise (chosen-good sheet good marks)).1 above) p,
)

-- room for all that can be reached with these rules
pub record RoomFor (sheet : List ℕ) (lent : Lent) (marks : List ℕ) : Type 0 where
  pub reached : ℕ
  pub number : Number (Reachable (system_in (with_chosen sheet marks))) reached
  pub room : reached ≤ capacity lent

-- It is answered 12 exactly if there is that room and a run obeys the sheet with these rules, 13 exactly if there is that room and none
-- does.
module _ {sheet : List ℕ} {lent : Lent} (good : first_fault sheet ≡ none) (no_run : lent.run ≡ []) (marks : List ℕ) where
  room-unless-11 : (Answered sheet lent marks 11 → ⊥) → RoomFor sheet lent marks
  room-unless-11 never =
      let (r, number) = number-of-reachable (finite-in (with_chosen sheet marks)) in
      record { reached = r; number = number; room = by r number (dec_lt (capacity lent) r) }
    where
      by : (r : ℕ) → Number (Reachable (system_in (with_chosen sheet marks))) r → Dec (capacity lent < r) → r ≤ capacity lent
      by r number (yes above) = absurd (never ((answers-11-exactly good marks).1 (r, number, above)))
      by r number (no above) = omega arith

  never-11-with-room-for : RoomFor sheet lent marks → Answered sheet lent marks 11 → ⊥
  never-11-with-room-for roomy p =
      let (r, number, above) = (answers-11-exactly good marks).0 p in
      omega (arith, above, roomy.room, number-unique number roomy.number)

  pub answers-12-exactly : Answered sheet lent marks 12 ↔ (RoomFor sheet lent marks × Keepable sheet marks)
  answers-12-exactly = (
    λ p. (
      room-unless-11 (λ q. answered-apart p (λ e. omega (arith, e)) q),
      subst (λ T. T) (meant sheet marks) (kept-at-12 good no_run p),
    ),
    λ w. by w (verdict good no_run marks),
  )
    where
      by : RoomFor sheet lent marks × Keepable sheet marks → Verdict sheet lent marks → Answered sheet lent marks 12
      by w (is_11 p) = absurd (never-11-with-room-for w.0 p)
      by w (is_12 p k) = p
      by w (is_13 p never) = absurd (never (subst (λ T. T) (sym (meant sheet marks)) w.1))

  pub answers-13-exactly : Answered sheet lent marks 13 ↔ (RoomFor sheet lent marks × (Keepable sheet marks → ⊥))
  answers-13-exactly = (
    λ p. (
      room-unless-11 (λ q. answered-apart p (λ e. omega (arith, e)) q),
      λ k. never-at-13 good no_run p (subst (λ T. T) (sym (meant sheet marks)) k),
    ),
    λ w. by w (verdict good no_run marks),
  )
    where
      by : RoomFor sheet lent marks × (Keepable sheet marks → ⊥) → Verdict sheet lent marks → Answered sheet lent marks 13
      by w (is_11 p) = absurd (never-11-with-room-for w.0 p)
      by w (is_12 p k) = absurd (w.1 (subst (λ T. T) (meant sheet marks) k))
      by w (is_13 p never) = p

-- ---- room for every state

-- With room for as many states as n letters have, no choice is answered 11.
never-11 : {sheet : List ℕ} {lent : Lent} {marks : List ℕ} → first_fault sheet ≡ none → 2 ^ letters_in sheet ≤ capacity lent
    → Answered sheet lent marks 11 → ⊥
unfolding system_in decode only_chosen
never-11 {sheet} {lent} {marks} good room p =
    let (r, number, above) = (answers-11-exactly good marks).0 p in
    let below : (s : ℕ) → Reachable (system_in (with_chosen sheet marks)) s → s < 2 ^ letters_in sheet =
    λ s reach.
    subst (λ (n : ℕ). s < 2 ^ n) (chosen-letters sheet marks)
    (lawful-below (decode (with_chosen sheet marks)) s (reachable-lawful-in (with_chosen sheet marks) s reach)) in
    omega (arith, above, room, number-mono below number (number-below (2 ^ letters_in sheet)))

-- With that room neither call says 17.
pub never-17-with-room : {sheet : List ℕ} {before after : Lent} {n place : ℕ} {marks : List ℕ} → 2 ^ letters_in sheet ≤ capacity before
    → Planned sheet before n place marks after → n ≡ 17 → ⊥
never-17-with-room room (faulty f e a b s c) q = omega (arith, a, q, D.fault-number f.why)
never-17-with-room room (worked e (kept k a s) b c) q = omega (arith, a, q)
never-17-with-room room (worked e (found plan a) b c) q = omega (arith, a, q)
never-17-with-room room (worked e (more (at_once p) a s) b c) q = never-11 e room p
never-17-with-room {sheet} {before} room (worked e (more (dropping r) a s) b c) q =
    never-11 e room (dropping-none sheet before (rules_in sheet) (first_marks (rules_in sheet)) r.dropping).1
never-17-with-room room (worked e (more (at_last marks r i d p) a s) b c) q = never-11 e room p

pub check-never-17-with-room : {sheet numbers : List ℕ} {before after : Lent} {n place : ℕ} → 2 ^ letters_in sheet ≤ capacity before
    → ClashChecked sheet numbers before n place after → n ≡ 17 → ⊥
check-never-17-with-room room (faulty f e a b c) q = omega (arith, a, q, D.fault-number f.why)
check-never-17-with-room room (misnumbered e wrong a b c) q = omega (arith, a, q)
check-never-17-with-room room (weighed e p (crowded (together t) a) b c) q = never-11 e room t
check-never-17-with-room room (weighed e p (crowded (one_less i d t) a) b c) q = never-11 e room t
check-never-17-with-room room (weighed e p (accepted f a) b c) q = omega (arith, a, q)
check-never-17-with-room room (weighed e p (refused x y a) b c) q = omega (arith, a, q)

-- ---- a sheet that clashes without its step rules

-- If no choice is answered 12, dropping drops every rule that it tries.
all-dropped : (sheet : List ℕ) (lent : Lent) → ((marks : List ℕ) → Answered sheet lent marks 12 → ⊥)
    → (i : ℕ) (marks end : List ℕ) → Dropping sheet lent i marks (some end) → (j : ℕ) → j < i → get_or end j 0 ≡ 0
unfolding Dropping
all-dropped sheet lent never zero marks end e j h = absurd (omega arith)
all-dropped sheet lent never (suc i) marks end (ends p e) j h = absurd (some-not-none (sym e))
all-dropped sheet lent never (suc i) marks end (keeps p next) j h = absurd (never (left_out_of i marks) p)
all-dropped sheet lent never (suc i) marks end (drops p next) j h = by (ℕ_discrete j i)
    (all-dropped sheet lent never i (left_out_of i marks) end next j)
  where
    by : Dec (j ≡ i) → (j < i → get_or end j 0 ≡ 0) → get_or end j 0 ≡ 0
    by (yes same) earlier =
        subst (λ (k : ℕ). get_or end k 0 ≡ 0) (sym same)
        (dropping-above sheet lent i (left_out_of i marks) end next i (omega arith) ∙ left-out-0 marks i)
    by (no other) earlier = earlier (omega (arith, h, other))

-- Such a sheet gets the empty choice, or 17.
pub bare-clash : {sheet : List ℕ} {before after : Lent} {n place : ℕ} {marks : List ℕ} → before.run ≡ [] → rules_in sheet ≤ most_rules
    → first_fault sheet ≡ none → (Keepable sheet no_marks → ⊥) → Planned sheet before n place marks after
    → (n ≡ 17) ⊎ ((n ≡ 0) × (marks ≡ no_marks))
bare-clash {sheet} {before} no_run few good bare = by
  where
    never : (marks : List ℕ) → Answered sheet before marks 12 → ⊥
    never marks p =
        bare (subst (λ T. T) (meant sheet no_marks) (among-kept sheet no_marks marks (λ i e. unmarked i most_rules)
        (kept-at-12 good no_run p)))

    empty : (marks : List ℕ) → Plan sheet before marks → marks ≡ no_marks
    empty marks plan =
        ext_get_or 0 marks no_marks (plan-length few plan ∙ sym (length-replicate {A = ℕ} most_rules 0))
        (λ i h. at i (dec_lt i (rules_in sheet)) ∙ sym (unmarked i most_rules))
      where
        at : (i : ℕ) → Dec (i < rules_in sheet) → get_or marks i 0 ≡ 0
        at i (yes h) = all-dropped sheet before never (rules_in sheet) (first_marks (rules_in sheet)) marks plan.reduced.dropping i h
        at i (no h) =
            dropping-above sheet before (rules_in sheet) (first_marks (rules_in sheet)) marks plan.reduced.dropping i (omega arith)
            ∙ first_past (rules_in sheet) (most_rules - rules_in sheet) i (omega arith)

    by : {after : Lent} {n place : ℕ} {marks : List ℕ} → Planned sheet before n place marks after → (n ≡ 17) ⊎ ((n ≡ 0) × (marks ≡ no_marks))
    by (faulty f e a b s c) = absurd (bad-not-good e good)
    by (worked e (more w a s) b c) = inl a
    by (worked e (kept k a s) b c) = absurd (never (first_marks (rules_in sheet)) k)
    by {marks = marks} (worked e (found plan a) b c) = inr (a, empty marks plan)

-- With room for every state it gets the empty choice.
pub bare-clash-with-room : {sheet : List ℕ} {before after : Lent} {n place : ℕ} {marks : List ℕ} → before.run ≡ []
    → rules_in sheet ≤ most_rules → first_fault sheet ≡ none → (Keepable sheet no_marks → ⊥) → 2 ^ letters_in sheet ≤ capacity before
    → Planned sheet before n place marks after → (n ≡ 0) × (marks ≡ no_marks)
bare-clash-with-room no_run few good bare room p = ⊎_elim (λ q. absurd (never-17-with-room room p q)) (λ q. q)
    (bare-clash no_run few good bare p)
