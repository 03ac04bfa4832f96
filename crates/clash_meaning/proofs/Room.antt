-- What room and the lent slices have to do with the answers.
--   a trial     no-run-room, trial-answers: no place is lent for a run, so a trial answers 11, 12 or 13 and never 0
--   the sheet   rules-said, all_said: its step rules are as many as byte 6 says, and with all of them it says what it says;
--               planned-12-means: the planner answers 12 exactly if its states have room and a run obeys it
--   the check   check-0-means, check-17-means: 0 and 17 by the runs and the reachable states of the sheets that it judges
--   with room   for 2^n states: planned-12-with-room, planned-0-with-room: the planner answers 12 or 0 exactly if a run obeys the sheet or
--               none does; check-0-with-room, check-14-with-room: the check accepts exactly the clashes from which no rule can be taken
--               away, and refuses all other proposals
--   lengths     check-by-lengths, planned-by-lengths: of what is lent only the lengths play a part; plan-accepted-after: the planner's
--               choice is accepted with the slices as it left them
-- Assumes nothing.
use mathlib.Core.Path.{◌≡◌, refl, sym, ◌∙◌, ap, subst}
use mathlib.Core.Logic.{◌⊎◌, inl, inr, ◌↔◌}
use mathlib.Core.Option.{Option, none}
use mathlib.Core.List.{List, []}
use Prim.Native.Nat.{ℕ, zero, suc, ◌-◌, ◌≤◌, ◌<◌, ◌^◌}
use native.Mathlib.Omega.{arith}
use lib.ListN.{length, get_or, replicate, length-replicate}
use Rattle.meaning.specs.System.{CanBeKept, Reachable, Number}
use Rattle.meaning.specs.Sheet.{byte, first_fault, decode, letters_in}
use Rattle.meaning.specs.Rules.{system_of}
use Rattle.meaning.specs.Promises.{system_in, Lent, Roomy, capacity, zeros, cleared}
use Rattle.meaning.proofs.Demands.{fault-number}
use Rattle.meaning.proofs.Promised.{bad-not-good}
use Rattle.reader.proofs.Good.{steps-count}
use Rattle.clash_choice.specs.Choice.{with_chosen, only_chosen}
use Rattle.clash_choice.proofs.Chosen.{picked_all, chosen-decoded}
use Rattle.clash_choice.specs.Proposals.{most_rules, first_marks, marks_of, Chosen, left_out_of, Proposal}
use Rattle.clash_trials.specs.Trials.{lent_three, Answered, ends, drops, keeps, Dropping}
use Rattle.clash_trials.specs.Parts.{Lengths}
use Rattle.clash_trials.proofs.Trials.{answered-unique, answered-same, lengths-back, Verdict, is_11, is_12, is_13, verdict}
use Rattle.clash_meaning.specs.Clash.{rules_in, Fighting, Crowded, together, one_less, Weighed, crowded, accepted, refused}
use Rattle.clash_meaning.specs.Clash.{ClashChecked, faulty, misnumbered, weighed, Reduced, MetMore, at_once, dropping, at_last}
use Rattle.clash_meaning.specs.Clash.{Worked, more, kept, found, Planned, worked}
use Rattle.clash_meaning.proofs.Verdicts.{kept-at-12, never-at-13}
use Rattle.clash_meaning.proofs.Numbers.{numbers_of}
use Rattle.clash_meaning.proofs.Dropped.{first-marked}
use Rattle.clash_meaning.proofs.Outcomes.{clash-checked-unique, planned-unique}
use Rattle.clash_meaning.proofs.Theorems.{Keepable, AClash, meant, accepted-is-a-clash, plan-accepted, RoomFor}
use Rattle.clash_meaning.proofs.Theorems.{answers-11-exactly, answers-12-exactly, answers-13-exactly}
use Rattle.clash_meaning.proofs.Theorems.{never-17-with-room, check-never-17-with-room}
use Rattle.clash_meaning.proofs.Exactly.{RisesWithin, GivesMore, check-0-exactly, check-17-exactly, planned-12-exactly}

-- ---- a trial

-- "All judged with no run room."
pub no-run-room : (table words scratch : List ℕ) → length (lent_three table words scratch).run ≡ 0
no-run-room table words scratch = refl

-- So no choice of a good sheet's rules is answered 0.
pub trial-answers : {sheet table words scratch marks : List ℕ} {n : ℕ} → first_fault sheet ≡ none
    → Answered sheet (lent_three table words scratch) marks n → (n ≡ 11) ⊎ ((n ≡ 12) ⊎ (n ≡ 13))
trial-answers {sheet} {table} {words} {scratch} {marks} {n} good p = by (verdict good refl marks)
  where
    by : Verdict sheet (lent_three table words scratch) marks → (n ≡ 11) ⊎ ((n ≡ 12) ⊎ (n ≡ 13))
    by (is_11 q) = inl (answered-unique p q)
    by (is_12 q k) = inr (inl (answered-unique p q))
    by (is_13 q never) = inr (inr (answered-unique p q))

-- ---- the sheet itself

-- It has as many step rules as byte 6 says.
pub rules-said : (sheet : List ℕ) → length (decode sheet).steps ≡ get_or sheet 6 0
unfolding byte
rules-said sheet = steps-count sheet

-- With all of them chosen it says what it says.
pub all_said : (sheet : List ℕ) → only_chosen (first_marks (rules_in sheet)) (decode sheet) ≡ decode sheet
unfolding only_chosen
all_said sheet = rw (picked_all (first_marks (rules_in sheet)) (decode sheet).steps all)
  where
    all : (i : ℕ) → i < length (decode sheet).steps → get_or (first_marks (rules_in sheet)) i 0 ≡ 0 → ⊥
    all i h z =
        let one : get_or (first_marks (rules_in sheet)) i 0 ≡ 1 =
        first-marked (rules_in sheet) (most_rules - rules_in sheet) i (omega (arith, h, steps-count sheet)) in
        omega (arith, one, z)

whole-kept : (sheet : List ℕ) → Keepable sheet (first_marks (rules_in sheet)) ≡ CanBeKept (system_of (decode sheet))
whole-kept sheet = ap (λ s. CanBeKept (system_of s)) (all_said sheet)

-- so it has the same states
whole-system : (sheet : List ℕ) → system_in (with_chosen sheet (first_marks (rules_in sheet))) ≡ system_in sheet
unfolding system_in
whole-system sheet = ap system_of (chosen-decoded sheet (first_marks (rules_in sheet)) ∙ all_said sheet)

whole-roomy : {sheet : List ℕ} {lent : Lent} → first_fault sheet ≡ none
    → RoomFor sheet lent (first_marks (rules_in sheet)) → Roomy sheet lent
whole-roomy {sheet} good r = record {
  good = good;
  reached = r.reached;
  number = subst (λ S. Number (Reachable S) r.reached) (whole-system sheet) r.number;
  room = r.room;
}

roomy-whole : {sheet : List ℕ} {lent : Lent} → Roomy sheet lent → RoomFor sheet lent (first_marks (rules_in sheet))
roomy-whole {sheet} r = record {
  reached = r.reached;
  number = subst (λ S. Number (Reachable S) r.reached) (sym (whole-system sheet)) r.number;
  room = r.room;
}

-- "12 when the whole sheet can be kept": exactly if the sheet is good, its reachable states have room, and an endless run obeys it.
pub planned-12-means : {sheet : List ℕ} {before after : Lent} {n place : ℕ} {marks : List ℕ} → before.run ≡ []
    → Planned sheet before n place marks after → (n ≡ 12) ↔ (Roomy sheet before × CanBeKept (system_of (decode sheet)))
planned-12-means {sheet} {before} no_run p = (
  λ e.
      let (good, a) = (planned-12-exactly p).0 e in
      let (room, k) = (answers-12-exactly good no_run (first_marks (rules_in sheet))).0 a in
      (whole-roomy good room, subst (λ T. T) (whole-kept sheet) k),
  λ w.
      let back = subst (λ T. T) (sym (whole-kept sheet)) w.1 in
      (planned-12-exactly p).1
      (w.0.good, (answers-12-exactly w.0.good no_run (first_marks (rules_in sheet))).1 (roomy-whole w.0, back)),
)

-- ---- by the meaning of the sheets that are judged

-- With these rules the sheet has more reachable states than there is room for.
abbrev pub TooMany : (sheet : List ℕ) (lent : Lent) (marks : List ℕ) → Type 0
TooMany sheet lent marks =
    (r : ℕ) × Number (Reachable (system_in (with_chosen sheet marks))) r × (capacity lent < r)

module _ {sheet numbers : List ℕ} {before after : Lent} {n place : ℕ} where
  -- The check says 0 exactly if the numbers are a proposal for a good sheet, the rules are a clash from which none can be taken away, and
  -- there is room for what can be reached with all of them and with each one left out.
  pub check-0-means : before.run ≡ [] → ClashChecked sheet numbers before n place after
      → (n ≡ 0) ↔ ((first_fault sheet ≡ none) × RisesWithin (get_or sheet 6 0) numbers × AClash sheet (marks_of numbers)
      × RoomFor sheet before (marks_of numbers)
      × ((i : ℕ) → Chosen i (marks_of numbers) → RoomFor sheet before (left_out_of i (marks_of numbers))))
  check-0-means no_run p = (
    λ e.
        let (good, o, fights) = (check-0-exactly p).0 e in
        let whole = (answers-13-exactly good no_run (marks_of numbers)).0 fights.0 in
        let less : (i : ℕ) → Chosen i (marks_of numbers)
        → RoomFor sheet before (left_out_of i (marks_of numbers)) × Keepable sheet (left_out_of i (marks_of numbers)) =
        λ i c. (answers-12-exactly good no_run (left_out_of i (marks_of numbers))).0 (fights.1 i c) in
        (good, o, record { none_obeys = whole.1; one_less_obeyed = λ i c. (less i c).1 }, whole.0, λ i c. (less i c).0),
    λ w.
        (check-0-exactly p).1 (
          w.0,
          w.1,
          (
            (answers-13-exactly w.0 no_run (marks_of numbers)).1 (w.3, w.2.none_obeys),
            λ i c. (answers-12-exactly w.0 no_run (left_out_of i (marks_of numbers))).1 (w.4 i c, w.2.one_less_obeyed i c),
          ),
        ),
  )

  -- It says 17 exactly if the numbers are a proposal for a good sheet, and there is no room with all of them, or with one left out.
  pub check-17-means : ClashChecked sheet numbers before n place after
      → (n ≡ 17) ↔ ((first_fault sheet ≡ none) × RisesWithin (get_or sheet 6 0) numbers
      × (TooMany sheet before (marks_of numbers)
      ⊎ ((i : ℕ) × Chosen i (marks_of numbers) × TooMany sheet before (left_out_of i (marks_of numbers)))))
  check-17-means p = (
    λ e. let (good, o, m) = (check-17-exactly p).0 e in (good, o, there good m),
    λ w. (check-17-exactly p).1 (w.0, w.1, back w.0 w.2),
  )
    where
      there : first_fault sheet ≡ none → GivesMore sheet before (marks_of numbers)
          → TooMany sheet before (marks_of numbers)
          ⊎ ((i : ℕ) × Chosen i (marks_of numbers) × TooMany sheet before (left_out_of i (marks_of numbers)))
      there good (inl q) = inl ((answers-11-exactly good (marks_of numbers)).0 q)
      there good (inr (i, c, q)) = inr (i, c, (answers-11-exactly good (left_out_of i (marks_of numbers))).0 q)

      back : first_fault sheet ≡ none → TooMany sheet before (marks_of numbers)
          ⊎ ((i : ℕ) × Chosen i (marks_of numbers) × TooMany sheet before (left_out_of i (marks_of numbers)))
          → GivesMore sheet before (marks_of numbers)
      back good (inl q) = inl ((answers-11-exactly good (marks_of numbers)).1 q)
      back good (inr (i, c, q)) = inr (i, c, (answers-11-exactly good (left_out_of i (marks_of numbers))).1 q)

-- ---- with room for every state

-- what 12 and 13 for the whole sheet mean
whole-at-12 : {sheet : List ℕ} {lent : Lent} → first_fault sheet ≡ none → lent.run ≡ []
    → Answered sheet lent (first_marks (rules_in sheet)) 12 → CanBeKept (system_of (decode sheet))
whole-at-12 {sheet} good no_run p =
    subst (λ T. T) (meant sheet (first_marks (rules_in sheet)) ∙ whole-kept sheet) (kept-at-12 good no_run p)

whole-at-13 : {sheet : List ℕ} {lent : Lent} → first_fault sheet ≡ none → lent.run ≡ []
    → Answered sheet lent (first_marks (rules_in sheet)) 13 → CanBeKept (system_of (decode sheet)) → ⊥
whole-at-13 {sheet} good no_run p k =
    never-at-13 good no_run p (subst (λ T. T) (sym (meant sheet (first_marks (rules_in sheet)) ∙ whole-kept sheet)) k)

-- With room for as many states as n letters have, a good sheet is answered 12 by the planner exactly if an endless run obeys it, and 0,
-- with its choice, exactly if none does.
module _ {sheet : List ℕ} {before after : Lent} {n place : ℕ} {marks : List ℕ} (no_run : before.run ≡ [])
    (good : first_fault sheet ≡ none) (room : 2 ^ letters_in sheet ≤ capacity before) where
  pub planned-12-with-room : Planned sheet before n place marks after → (n ≡ 12) ↔ CanBeKept (system_of (decode sheet))
  planned-12-with-room p = (λ e. whole-at-12 good no_run ((planned-12-exactly p).0 e).1, λ k. by k p)
    where
      by : CanBeKept (system_of (decode sheet)) → Planned sheet before n place marks after → n ≡ 12
      by k (faulty f e a b s c) = absurd (bad-not-good e good)
      by k (worked e (more w a s) b c) = absurd (never-17-with-room room p a)
      by k (worked e (kept t a s) b c) = a
      by k (worked e (found plan a) b c) = absurd (whole-at-13 good no_run plan.reduced.whole k)

  pub planned-0-with-room : Planned sheet before n place marks after → (n ≡ 0) ↔ (CanBeKept (system_of (decode sheet)) → ⊥)
  planned-0-with-room p = (λ e k. omega (arith, e, (planned-12-with-room p).1 k), λ never. by never p)
    where
      by : (CanBeKept (system_of (decode sheet)) → ⊥) → Planned sheet before n place marks after → n ≡ 0
      by never (faulty f e a b s c) = absurd (bad-not-good e good)
      by never (worked e (more w a s) b c) = absurd (never-17-with-room room p a)
      by never (worked e (kept t a s) b c) = absurd (never (whole-at-12 good no_run t))
      by never (worked e (found plan a) b c) = a

-- A clash that gives no 11 fights.
clash-fights : {sheet : List ℕ} {lent : Lent} {marks : List ℕ} → first_fault sheet ≡ none → lent.run ≡ []
    → (Crowded sheet lent marks → ⊥) → AClash sheet marks → Fighting sheet lent marks
clash-fights {sheet} {lent} {marks} good no_run roomy clash = record {
  together = at (verdict good no_run marks);
  one_less = λ i c. less i c (verdict good no_run (left_out_of i marks));
}
  where
    at : Verdict sheet lent marks → Answered sheet lent marks 13
    at (is_11 p) = absurd (roomy (together p))
    at (is_12 p k) = absurd (clash.none_obeys (subst (λ T. T) (meant sheet marks) k))
    at (is_13 p never) = p

    less : (i : ℕ) → Chosen i marks → Verdict sheet lent (left_out_of i marks) → Answered sheet lent (left_out_of i marks) 12
    less i c (is_11 p) = absurd (roomy (one_less i c p))
    less i c (is_12 p k) = p
    less i c (is_13 p never) = absurd (never (subst (λ T. T) (sym (meant sheet (left_out_of i marks))) (clash.one_less_obeyed i c)))

-- With that room the check accepts a proposal exactly if it is a clash by the meaning: no endless run obeys the sheet with these rules, and
-- with any one of them left out some run does.
pub check-0-with-room : {sheet numbers : List ℕ} {before after : Lent} {n place : ℕ} → before.run ≡ [] → first_fault sheet ≡ none
    → Proposal (rules_in sheet) numbers → 2 ^ letters_in sheet ≤ capacity before → ClashChecked sheet numbers before n place after
    → (n ≡ 0) ↔ AClash sheet (marks_of numbers)
check-0-with-room {sheet} {numbers} {before} {after} {n} {place} no_run good proposed room p =
    (λ e. (accepted-is-a-clash no_run (subst (λ (m : ℕ). ClashChecked sheet numbers before m place after) e p)).1, λ clash. by clash p)
  where
    by : AClash sheet (marks_of numbers) → ClashChecked sheet numbers before n place after → n ≡ 0
    by clash (faulty f e a b c) = absurd (bad-not-good e good)
    by clash (misnumbered e wrong a b c) = absurd (wrong proposed)
    by clash (weighed e q (crowded x a) b c) = absurd (check-never-17-with-room room p a)
    by clash (weighed e q (accepted f a) b c) = a
    by clash (weighed e q (refused x y a) b c) = absurd (y (clash-fights good no_run x clash))

-- All other proposals get 14.
pub check-14-with-room : {sheet numbers : List ℕ} {before after : Lent} {n place : ℕ} → before.run ≡ [] → first_fault sheet ≡ none
    → Proposal (rules_in sheet) numbers → 2 ^ letters_in sheet ≤ capacity before → ClashChecked sheet numbers before n place after
    → (n ≡ 14) ↔ (AClash sheet (marks_of numbers) → ⊥)
check-14-with-room {sheet} {numbers} {before} {after} {n} {place} no_run good proposed room p =
    (λ e clash. omega (arith, e, (check-0-with-room no_run good proposed room p).1 clash), λ never. by never p)
  where
    by : (AClash sheet (marks_of numbers) → ⊥) → ClashChecked sheet numbers before n place after → n ≡ 14
    by never (faulty f e a b c) = absurd (bad-not-good e good)
    by never (misnumbered e wrong a b c) = a
    by never (weighed e q (crowded x a) b c) = absurd (check-never-17-with-room room p a)
    by never (weighed e q (accepted f a) b c) = absurd (never ((check-0-with-room no_run good proposed room p).0 a))
    by never (weighed e q (refused x y a) b c) = a

-- ---- only the lengths of what is lent play a part

module _ (sheet : List ℕ) {x y : Lent} (L : Lengths x y) where
  fighting-same : {marks : List ℕ} → Fighting sheet x marks → Fighting sheet y marks
  fighting-same f = record { together = answered-same L f.together; one_less = λ i c. answered-same L (f.one_less i c) }

  crowded-same : {marks : List ℕ} → Crowded sheet x marks → Crowded sheet y marks
  crowded-same (together p) = together (answered-same L p)
  crowded-same (one_less i c p) = one_less i c (answered-same L p)

  dropping-same : (i : ℕ) (marks : List ℕ) (end : Option (List ℕ)) → Dropping sheet x i marks end → Dropping sheet y i marks end
  unfolding Dropping
  dropping-same zero marks end d = d
  dropping-same (suc i) marks end (ends p e) = ends (answered-same L p) e
  dropping-same (suc i) marks end (drops p d) = drops (answered-same L p) (dropping-same i (left_out_of i marks) end d)
  dropping-same (suc i) marks end (keeps p d) = keeps (answered-same L p) (dropping-same i marks end d)

  reduced-same : {end : Option (List ℕ)} → Reduced sheet x end → Reduced sheet y end
  reduced-same {end} r = record {
    whole = answered-same L r.whole;
    dropping = dropping-same (rules_in sheet) (first_marks (rules_in sheet)) end r.dropping;
  }

  met-same : MetMore sheet x → MetMore sheet y
  met-same (at_once p) = at_once (answered-same L p)
  met-same (dropping r) = dropping (reduced-same r)
  met-same (at_last marks r i c p) = at_last marks (reduced-same r) i c (answered-same L p)

module _ (sheet : List ℕ) {x y : Lent} (L : Lengths x y) where
  weighed-same : {marks : List ℕ} {n : ℕ} → Weighed sheet x marks n → Weighed sheet y marks n
  weighed-same (crowded c a) = crowded (crowded-same sheet L c) a
  weighed-same (accepted f a) = accepted (fighting-same sheet L f) a
  weighed-same (refused c f a) =
      refused (λ w. c (crowded-same sheet (lengths-back L) w)) (λ w. f (fighting-same sheet (lengths-back L) w)) a

  worked_same : {n : ℕ} {marks : List ℕ} → Worked sheet x n marks → Worked sheet y n marks
  worked_same (more m a s) = more (met-same sheet L m) a s
  worked_same (kept k a s) = kept (answered-same L k) a s
  worked_same (found plan a) =
      found (record {
        reduced = reduced-same sheet L plan.reduced;
        roomy = λ i c p. plan.roomy i c (answered-same (lengths-back L) p);
      }) a

  check-same : {numbers : List ℕ} {n place : ℕ} {after : Lent} → ClashChecked sheet numbers x n place after
      → (left : Lent) × ClashChecked sheet numbers y n place left
  check-same (faulty f e a b c) = (y, faulty f e a b refl)
  check-same (misnumbered e wrong a b c) = (y, misnumbered e wrong a b refl)
  check-same (weighed e q w b c) = (cleared y, weighed e q (weighed-same w) b refl)

  planned-same : {n place : ℕ} {marks : List ℕ} {after : Lent} → Planned sheet x n place marks after
      → (left : Lent) × Planned sheet y n place marks left
  planned-same (faulty f e a b s c) = (y, faulty f e a b s refl)
  planned-same (worked e w b c) = (cleared y, worked e (worked_same w) b refl)

-- three slices of the same lengths, and no run
three-long : {t w c t' w' c' : List ℕ} → length t ≡ length t' → length w ≡ length w' → length c ≡ length c'
    → Lengths (lent_three t w c) (lent_three t' w' c')
three-long a b c = record { table = sym a; words = sym b; scratch = sym c; run = refl }

-- The check's number and place are the same whatever the slices hold.
pub check-by-lengths : {sheet numbers t w c t' w' c' : List ℕ} {m n p q : ℕ} {after after' : Lent}
    → length t ≡ length t' → length w ≡ length w' → length c ≡ length c' → ClashChecked sheet numbers (lent_three t w c) m p after
    → ClashChecked sheet numbers (lent_three t' w' c') n q after' → (m ≡ n) × (p ≡ q)
check-by-lengths {sheet} a b d P Q =
    let (left, P') = check-same sheet (three-long a b d) P in
    let (e, at, l) = clash-checked-unique P' Q in
    (e, at)

-- So are the planner's, and its marks.
pub planned-by-lengths : {sheet t w c t' w' c' : List ℕ} {m n p q : ℕ} {marks marks' : List ℕ} {after after' : Lent}
    → length t ≡ length t' → length w ≡ length w' → length c ≡ length c' → Planned sheet (lent_three t w c) m p marks after
    → Planned sheet (lent_three t' w' c') n q marks' after' → (m ≡ n) × (p ≡ q) × (marks ≡ marks')
planned-by-lengths {sheet} a b d P Q =
    let (left, P') = planned-same sheet (three-long a b d) P in
    let (e, at, s, l) = planned-unique P' Q in
    (e, at, s)

-- ---- the planner's choice is accepted with the slices as it left them

zeros-twice : (l : List ℕ) → zeros (zeros l) ≡ zeros l
unfolding zeros
zeros-twice l = ap (λ (n : ℕ). replicate n 0) (length-replicate (length l) 0)

cleared-twice : (l : Lent) → cleared (cleared l) ≡ cleared l
unfolding cleared
cleared-twice l =
    λ i. record {
      table = zeros-twice l.table i;
      words = zeros-twice l.words i;
      scratch = zeros-twice l.scratch i;
      run = l.run;
    }

cleared-long : (l : Lent) → Lengths l (cleared l)
unfolding cleared zeros
cleared-long l = record {
  table = length-replicate (length l.table) 0;
  words = length-replicate (length l.words) 0;
  scratch = length-replicate (length l.scratch) 0;
  run = refl;
}

-- what was accepted fights
accepted-fights : {sheet numbers : List ℕ} {before : Lent} {n place : ℕ} {after : Lent} → n ≡ 0
    → ClashChecked sheet numbers before n place after
    → (first_fault sheet ≡ none) × Proposal (rules_in sheet) numbers × Fighting sheet before (marks_of numbers)
accepted-fights z (faulty f e a b c) = absurd (omega (arith, z, a, fault-number f.why))
accepted-fights z (misnumbered e wrong a b c) = absurd (omega (arith, z, a))
accepted-fights z (weighed e q (crowded x a) b c) = absurd (omega (arith, z, a))
accepted-fights z (weighed e q (accepted f a) b c) = (e, q, f)
accepted-fights z (weighed e q (refused x y a) b c) = absurd (omega (arith, z, a))

left-cleared : {sheet : List ℕ} {before after : Lent} {n place : ℕ} {marks : List ℕ} → n ≡ 0 → Planned sheet before n place marks after
    → after ≡ cleared before
left-cleared z (faulty f e a b s c) = absurd (omega (arith, z, a, fault-number f.why))
left-cleared z (worked e w b c) = c

-- Handed to the check with the zeros that the planner leaves, its choice is accepted, and zeros are left. (Byte 6 is at most 255 in every
-- sheet that can be handed in.)
pub plan-accepted-after : {sheet : List ℕ} {before after : Lent} {place : ℕ} {marks : List ℕ} → get_or sheet 6 0 ≤ 255 → before.run ≡ []
    → Planned sheet before 0 place marks after → ClashChecked sheet (numbers_of marks) after 0 0 after
unfolding byte
plan-accepted-after {sheet} {before} {after} {marks = marks} few no_run p =
    let (good, proposed, fights) = accepted-fights refl (plan-accepted no_run few p).1 in
    let still : Fighting sheet (cleared before) (marks_of (numbers_of marks)) = fighting-same sheet (cleared-long before) fights in
    subst (λ (l : Lent). ClashChecked sheet (numbers_of marks) l 0 0 l) (sym (left-cleared refl p))
    (weighed good proposed (accepted still refl) refl (sym (cleared-twice before)))
