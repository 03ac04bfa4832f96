-- The three demands of the workshop, said of the judge's promise and proved of every outcome that meets it: demand 2 (what 0 and 13 mean),
-- the exact conditions of every refusal, the part of demand 1 that speaks of values, what answers 0 and 13 hand over and that the checkers
-- accept it, and demand 3. Assumes nothing.
use mathlib.Core.Path.{◌≡◌, refl, sym, ◌∙◌, ap, subst}
use mathlib.Core.Logic.{◌↔◌, ◌⊎◌, inl, inr}
use mathlib.Core.Option.{Option, none, some}
use mathlib.Core.List.{List}
use Prim.Native.Nat.{ℕ, ◌+◌, ◌*◌, ◌≤◌, ◌<◌}
use native.Mathlib.Omega.{arith}
use lib.ListN.{length, take}
use lib.Seq.{take-append_seam}
use Rattle.meaning.specs.System.{System, Obeys, CanBeKept, Livable, Reachable, Lists, Number}
use Rattle.meaning.specs.Strike.{StrikeList}
use Rattle.meaning.specs.Sample.{RunPaper}
use Rattle.meaning.specs.Papers.{RunAccepted, StrikesAccepted, reading}
use Rattle.meaning.specs.Sheet.{
  Why,
  bad_size,
  bad_version,
  bad_length,
  bad_letters,
  too_many_records,
  record_missing,
  bad_shape,
  bad_literal,
  not_rising,
  surplus,
  Fault,
  number_of,
  first_fault,
}
use Rattle.meaning.specs.Promises.{
  system_in,
  read_number,
  ReadSays,
  place_of,
  Placed,
  ReadPlaced,
  Checked,
  faulty,
  accepted,
  refused,
  RunChecked,
  StrikesChecked,
  RunPlaced,
  StrikesPlaced,
  Lent,
  Outcome,
  capacity,
  Finding,
  bad,
  crowded,
  short,
  can,
  cannot,
  Roomy,
  Found,
  over,
  zeros,
  outcome,
  Judged,
}
use Rattle.meaning.proofs.Rounds.{strike-list-accepted}
use Rattle.meaning.proofs.SampleRun.{paper-accepted, paper-aimed-kept-soonest}
use Rattle.meaning.proofs.Bounds.{run-within-kp, kept-within-kp}
use Rattle.meaning.proofs.Strikes.{strike-list-number}
use Rattle.meaning.proofs.SheetSystem.{finite-in, reachable-lawful-in, few-promises}
use Rattle.meaning.proofs.Judging.{can-be-kept?, livable-list, lists-number}
use Rattle.meaning.proofs.Promised.{same-run-length, found-unique}
use Rattle.meaning.proofs.Meetable.{kept_run, struck-list}

-- ---- what is said

-- "Provided .. the sample run fits": whatever run paper the sheet has is no longer than the lent run slice.
abbrev pub RunFits : List ℕ → Lent → Type 0
RunFits sheet lent = (states : List ℕ) (a : ℕ) → RunPaper (system_in sheet) states a → length states ≤ length lent.run

-- What answer 0 hands over: the livable states in the table, K of them, and the sample run in the run slice, b states long.
pub record HandsOverRun (sheet : List ℕ) (lent : Lent) (o : Outcome) : Type 0 where
  pub kept : CanBeKept (system_in sheet)
  pub livable : List ℕ
  pub states : List ℕ
  pub lists : Lists (Livable (system_in sheet)) livable
  pub counted : Number (Livable (system_in sheet)) o.count
  pub paper : RunPaper (system_in sheet) states o.a
  pub length_is : o.b ≡ length states
  pub table_is : o.leaves.table ≡ over livable (zeros lent.table)
  pub words_is : o.leaves.words ≡ zeros lent.words
  pub scratch_is : o.leaves.scratch ≡ zeros lent.scratch
  pub run_is : o.leaves.run ≡ over states lent.run
  -- the first K places of the table are the livable states, the first b places of the run slice the sample run
  pub table_front : take o.count o.leaves.table ≡ livable
  pub run_front : take o.b o.leaves.run ≡ states

-- What answer 13 hands over: the strike list of all R reachable states, in the table and the words, and that its checker accepts it.
pub record HandsOverStrikes (sheet : List ℕ) (lent : Lent) (o : Outcome) : Type 0 where
  pub never : CanBeKept (system_in sheet) → ⊥
  pub states : List ℕ
  pub words : List ℕ
  pub strikes : StrikeList (system_in sheet) states words
  pub accepted : StrikesAccepted (system_in sheet) states words
  pub counted : Number (Reachable (system_in sheet)) o.count
  pub table_is : o.leaves.table ≡ over states (zeros lent.table)
  pub words_is : o.leaves.words ≡ over words (zeros lent.words)
  pub scratch_is : o.leaves.scratch ≡ zeros lent.scratch
  pub run_is : o.leaves.run ≡ lent.run
  pub table_front : take o.count o.leaves.table ≡ states
  pub words-front : take o.count o.leaves.words ≡ words

-- Demand 3 of a run paper whose system has K livable states.
pub record KeepsInTime (S : System) (states : List ℕ) (a b K : ℕ) (paper : RunPaper S states a) : Type 0 where
  -- "the sample run is written in at most K times p moments"
  pub written : b ≤ K * S.promises
  -- "from every moment of its endless reading each promise is kept fewer than K times p moves later"
  pub in_time : (k : ℕ) → k < S.promises → (i : ℕ) → (j : ℕ) × (j < K * S.promises) × S.Kept k (reading states a (i + j))
  -- "the promise aimed at on arriving at a moment is kept as soon as any obeying run could keep it from that state"
  pub soonest : (i : ℕ) → (d : ℕ) × S.Kept (paper.aim i) (reading states a (i + d))
      × ((g : ℕ → ℕ) (j e : ℕ) → Obeys S g → g j ≡ reading states a i → S.Kept (paper.aim i) (g (j + e)) → d ≤ e)

-- ---- which finding a number comes from

-- The number of a fault is 1 to 10.
pub fault-number : (why : Why) → (1 ≤ number_of why) × (number_of why ≤ 10)
fault-number bad_size = omega arith
fault-number bad_version = omega arith
fault-number bad_length = omega arith
fault-number bad_letters = omega arith
fault-number too_many_records = omega arith
fault-number record_missing = omega arith
fault-number bad_shape = omega arith
fault-number bad_literal = omega arith
fault-number not_rising = omega arith
fault-number surplus = omega arith

-- Only a kept sheet whose run fits answers 0.
can-at-0 : (lent : Lent) (x : Finding) → (outcome lent x).answer ≡ 0 → (l : List ℕ) × (states : List ℕ) × (a : ℕ) × (x ≡ can l states a)
unfolding outcome
can-at-0 lent (bad f) e = absurd (omega (arith, e, fault-number f.why))
can-at-0 lent crowded e = absurd (omega arith)
can-at-0 lent (short b) e = absurd (omega arith)
can-at-0 lent (can l states a) e = (l, states, a, refl)
can-at-0 lent (cannot states words) e = absurd (omega arith)

-- Only R above C answers 11.
crowded-at-11 : (lent : Lent) (x : Finding) → (outcome lent x).answer ≡ 11 → x ≡ crowded
unfolding outcome
crowded-at-11 lent (bad f) e = absurd (omega (arith, e, fault-number f.why))
crowded-at-11 lent crowded e = refl
crowded-at-11 lent (short b) e = absurd (omega arith)
crowded-at-11 lent (can l states a) e = absurd (omega arith)
crowded-at-11 lent (cannot states words) e = absurd (omega arith)

-- Only a kept sheet whose run doesn't fit answers 12.
short-at-12 : (lent : Lent) (x : Finding) → (outcome lent x).answer ≡ 12 → (b : ℕ) × (x ≡ short b)
unfolding outcome
short-at-12 lent (bad f) e = absurd (omega (arith, e, fault-number f.why))
short-at-12 lent crowded e = absurd (omega arith)
short-at-12 lent (short b) e = (b, refl)
short-at-12 lent (can l states a) e = absurd (omega arith)
short-at-12 lent (cannot states words) e = absurd (omega arith)

-- Only a sheet that cannot be kept answers 13.
cannot-at-13 : (lent : Lent) (x : Finding) → (outcome lent x).answer ≡ 13 → (states : List ℕ) × (words : List ℕ) × (x ≡ cannot states words)
unfolding outcome
cannot-at-13 lent (bad f) e = absurd (omega (arith, e, fault-number f.why))
cannot-at-13 lent crowded e = absurd (omega arith)
cannot-at-13 lent (short b) e = absurd (omega arith)
cannot-at-13 lent (can l states a) e = absurd (omega arith)
cannot-at-13 lent (cannot states words) e = (states, words, refl)

-- Only a fault answers 1 to 10.
bad-at-1-to-10 : (lent : Lent) (x : Finding) → 1 ≤ (outcome lent x).answer → (outcome lent x).answer ≤ 10 → (f : Fault) × (x ≡ bad f)
unfolding outcome
bad-at-1-to-10 lent (bad f) low high = (f, refl)
bad-at-1-to-10 lent crowded low high = absurd (omega arith)
bad-at-1-to-10 lent (short b) low high = absurd (omega arith)
bad-at-1-to-10 lent (can l states a) low high = absurd (omega arith)
bad-at-1-to-10 lent (cannot states words) low high = absurd (omega arith)

-- The finding behind an outcome answers what the outcome answers.
answer-of : {sheet : List ℕ} {lent : Lent} {o : Outcome} (j : Judged sheet lent o) → (outcome lent j.finding).answer ≡ o.answer
answer-of j = sym (ap (λ (o : Outcome). o.answer) j.returned)

-- The finding behind an outcome, by another name for it.
judged-as : {sheet : List ℕ} {lent : Lent} {o : Outcome} (j : Judged sheet lent o) {x : Finding} → j.finding ≡ x
    → Found sheet lent x × (o ≡ outcome lent x)
judged-as {sheet} {lent} {o} j same = subst (λ (x : Finding). Found sheet lent x × (o ≡ outcome lent x)) same (j.found, j.returned)

-- A true finding says the outcome.
judged-is : {sheet : List ℕ} {lent : Lent} {o : Outcome} → Judged sheet lent o → (x : Finding) → Found sheet lent x → o ≡ outcome lent x
judged-is {sheet} {lent} j x found = j.returned ∙ found-unique sheet lent _ x j.found found

-- A true finding says the answer.
answer-is : {sheet : List ℕ} {lent : Lent} {o : Outcome} → Judged sheet lent o → (x : Finding) → Found sheet lent x
    → o.answer ≡ (outcome lent x).answer
answer-is j x found = ap (λ (o : Outcome). o.answer) (judged-is j x found)

-- ---- what answers 0 and 13 hand over

-- what is written over a slice's front stands there
over-front : (l slice : List ℕ) → take (length l) (over l slice) ≡ l
unfolding over
over-front l slice = take-append_seam l _

-- Answer 0 hands over the livable states and the sample run.
pub kept-hands-over : {sheet : List ℕ} {lent : Lent} {o : Outcome} → Judged sheet lent o → o.answer ≡ 0 → HandsOverRun sheet lent o
unfolding outcome
kept-hands-over {sheet} {lent} {o} j zero =
    let (l, states, a, same) = can-at-0 lent j.finding (answer-of j ∙ zero) in
    let (found, is) = judged-as j same in
    subst (HandsOverRun sheet lent) (sym is) (record {
      kept = found.1;
      livable = l;
      states = states;
      lists = found.2;
      counted = lists-number found.2;
      paper = found.3;
      length_is = refl;
      table_is = refl;
      words_is = refl;
      scratch_is = refl;
      run_is = refl;
      table_front = over-front l (zeros lent.table);
      run_front = over-front states lent.run;
    })

-- The run of answer 0 is accepted by the run checker's rule.
pub kept-run-accepted : {sheet : List ℕ} {lent : Lent} {o : Outcome} (h : HandsOverRun sheet lent o)
    → RunAccepted (system_in sheet) h.states o.a
kept-run-accepted h = paper-accepted h.paper

-- Answer 13 hands over the strike list, and the strike-list checker's rule accepts it.
pub cannot-hands-over : {sheet : List ℕ} {lent : Lent} {o : Outcome} → Judged sheet lent o → o.answer ≡ 13 → HandsOverStrikes sheet lent o
unfolding outcome
cannot-hands-over {sheet} {lent} {o} j thirteen =
    let (states, words, same) = cannot-at-13 lent j.finding (answer-of j ∙ thirteen) in
    let (found, is) = judged-as j same in
    subst (HandsOverStrikes sheet lent) (sym is) (record {
      never = found.1;
      states = states;
      words = words;
      strikes = found.2;
      accepted = strike-list-accepted (reachable-lawful-in sheet) (omega (arith, few-promises sheet found.0.good)) found.2;
      counted = strike-list-number found.2;
      table_is = refl;
      words_is = refl;
      scratch_is = refl;
      run_is = refl;
      table_front = over-front states (zeros lent.table);
      words-front = subst (λ (n : ℕ). take n (over words (zeros lent.words)) ≡ words) found.2.as_many
          (over-front words (zeros lent.words));
    })

-- Whatever is not a fault and not 11 is said of a good sheet whose states have room.
pub roomy-at-0 : {sheet : List ℕ} {lent : Lent} {o : Outcome} → Judged sheet lent o → o.answer ≡ 0 → Roomy sheet lent
roomy-at-0 {lent = lent} j zero = let (l, states, a, same) = can-at-0 lent j.finding (answer-of j ∙ zero) in (judged-as j same).0.0

pub roomy-at-12 : {sheet : List ℕ} {lent : Lent} {o : Outcome} → Judged sheet lent o → o.answer ≡ 12 → Roomy sheet lent
roomy-at-12 {lent = lent} j twelve = let (b, same) = short-at-12 lent j.finding (answer-of j ∙ twelve) in (judged-as j same).0.0

pub roomy-at-13 : {sheet : List ℕ} {lent : Lent} {o : Outcome} → Judged sheet lent o → o.answer ≡ 13 → Roomy sheet lent
roomy-at-13 {lent = lent} j thirteen =
    let (states, words, same) = cannot-at-13 lent j.finding (answer-of j ∙ thirteen) in (judged-as j same).0.0

-- ---- demand 2

-- "Can be kept" exactly when an endless run obeying the sheet exists.
pub answers-0-exactly : {sheet : List ℕ} {lent : Lent} {o : Outcome} → Judged sheet lent o → Roomy sheet lent → RunFits sheet lent
    → (o.answer ≡ 0) ↔ CanBeKept (system_in sheet)
unfolding outcome
answers-0-exactly {sheet} j roomy fits = (
  λ zero. (kept-hands-over j zero).kept,
  λ kept.
      let (states, a, paper) = kept_run sheet kept in
      let (l, lists) = livable-list (finite-in sheet) in
      answer-is j (can l states a) (roomy, kept, lists, paper, fits states a paper),
)

-- "Cannot be kept" exactly when none does, whether the run slice is long or short.
pub answers-13-exactly : {sheet : List ℕ} {lent : Lent} {o : Outcome} → Judged sheet lent o → Roomy sheet lent
    → (o.answer ≡ 13) ↔ (CanBeKept (system_in sheet) → ⊥)
unfolding outcome
answers-13-exactly {sheet} j roomy = (
  λ thirteen. (cannot-hands-over j thirteen).never,
  λ never.
      let (states, words, strikes) = struck-list sheet roomy.good never in
      answer-is j (cannot states words) (roomy, never, strikes),
)

-- Demand 2: where the reachable states and the sample run fit, the answer is 0 or 13, and each exactly when it should be.
pub demand-2 : {sheet : List ℕ} {lent : Lent} {o : Outcome} → Judged sheet lent o → Roomy sheet lent → RunFits sheet lent
    → ((o.answer ≡ 0) ↔ CanBeKept (system_in sheet)) × ((o.answer ≡ 13) ↔ (CanBeKept (system_in sheet) → ⊥))
    × ((o.answer ≡ 0) ⊎ (o.answer ≡ 13))
demand-2 {sheet} {o = o} j roomy fits = (zero_is, thirteen-is, by (can-be-kept? (finite-in sheet)))
  where
    zero_is : (o.answer ≡ 0) ↔ CanBeKept (system_in sheet)
    zero_is = answers-0-exactly j roomy fits

    thirteen-is : (o.answer ≡ 13) ↔ (CanBeKept (system_in sheet) → ⊥)
    thirteen-is = answers-13-exactly j roomy

    by : Dec (CanBeKept (system_in sheet)) → (o.answer ≡ 0) ⊎ (o.answer ≡ 13)
    by (yes kept) = inl (zero_is.1 kept)
    by (no never) = inr (thirteen-is.1 never)

-- ---- the refusals

-- A bad sheet's outcome is that of its first fault, whatever is lent.
pub answers-fault : {sheet : List ℕ} {lent : Lent} {o : Outcome} → Judged sheet lent o → (f : Fault) → first_fault sheet ≡ some f
    → o ≡ outcome lent (bad f)
answers-fault j f e = judged-is j (bad f) e

-- An answer from 1 to 10 and a place are given exactly when they are the number and the place of the sheet's first fault.
pub answers-fault-exactly : {sheet : List ℕ} {lent : Lent} {o : Outcome} → Judged sheet lent o → (n q : ℕ) → 1 ≤ n → n ≤ 10
    → ((o.answer ≡ n) × (o.place ≡ q)) ↔ ((f : Fault) × (first_fault sheet ≡ some f) × (number_of f.why ≡ n) × (f.at ≡ q))
unfolding outcome
answers-fault-exactly {sheet} {lent} {o} j n q low high =
    (there, λ t. (answer-is j (bad t.0) t.1 ∙ t.2, ap (λ (o : Outcome). o.place) (answers-fault j t.0 t.1) ∙ t.3))
  where
    there : (o.answer ≡ n) × (o.place ≡ q) → (f : Fault) × (first_fault sheet ≡ some f) × (number_of f.why ≡ n) × (f.at ≡ q)
    there (e, at) =
        let number : (outcome lent j.finding).answer ≡ n = answer-of j ∙ e in
        let (f, same) = bad-at-1-to-10 lent j.finding (omega arith) (omega arith) in
        let (found, is) = judged-as j same in
        (f, found, sym (ap (λ (o : Outcome). o.answer) is) ∙ e, sym (ap (λ (o : Outcome). o.place) is) ∙ at)

-- On any answer but 1 to 10 the judge's place is 0.
pub judged-place-0 : {sheet : List ℕ} {lent : Lent} {o : Outcome} → Judged sheet lent o → (1 ≤ o.answer → o.answer ≤ 10 → ⊥)
    → o.place ≡ 0
unfolding outcome
judged-place-0 {lent = lent} {o} j elsewhere = ap (λ (o : Outcome). o.place) j.returned ∙ by j.finding (answer-of j)
  where
    by : (x : Finding) → (outcome lent x).answer ≡ o.answer → (outcome lent x).place ≡ 0
    by (bad f) e = absurd (elsewhere (omega (arith, e, fault-number f.why)) (omega (arith, e, fault-number f.why)))
    by crowded e = refl
    by (short b) e = refl
    by (can l states a) e = refl
    by (cannot states words) e = refl

-- So is the reader's, and each checker's.
pub read-place-0 : (sheet : List ℕ) {n place : ℕ} → ReadPlaced sheet n place → (1 ≤ n → n ≤ 10 → ⊥) → place ≡ 0
unfolding ReadPlaced ReadSays read_number place_of
read-place-0 sheet {n} {place} p elsewhere = p.where_met ∙ by (first_fault sheet) p.number
  where
    by : (o : Option Fault) → n ≡ read_number o → place_of o ≡ 0
    by none e = refl
    by (some f) e = absurd (elsewhere (omega (arith, e, fault-number f.why)) (omega (arith, e, fault-number f.why)))

checked-place-0 : {sheet : List ℕ} {Ok : System → Type 0} {n place : ℕ} → Placed sheet (Checked sheet Ok) n place → (1 ≤ n → n ≤ 10 → ⊥)
    → place ≡ 0
unfolding place_of
checked-place-0 {sheet} {Ok} {n} p elsewhere = p.where_met ∙ by p.number
  where
    by : Checked sheet Ok n → place_of (first_fault sheet) ≡ 0
    by (faulty f e is) = absurd (elsewhere (omega (arith, is, fault-number f.why)) (omega (arith, is, fault-number f.why)))
    by (accepted e ok is) = ap place_of e
    by (refused e never is) = ap place_of e

pub run-place-0 : (sheet states : List ℕ) (a : ℕ) {n place : ℕ} → RunPlaced sheet states a n place → (1 ≤ n → n ≤ 10 → ⊥) → place ≡ 0
unfolding RunPlaced RunChecked
run-place-0 sheet states a p elsewhere = checked-place-0 p elsewhere

pub strikes-place-0 : (sheet states words : List ℕ) {n place : ℕ} → StrikesPlaced sheet states words n place → (1 ≤ n → n ≤ 10 → ⊥)
    → place ≡ 0
unfolding StrikesPlaced StrikesChecked
strikes-place-0 sheet states words p elsewhere = checked-place-0 p elsewhere

-- A bad sheet changes nothing lent.
pub bad-sheet-changes-nothing : {sheet : List ℕ} {lent : Lent} {o : Outcome} → Judged sheet lent o → (f : Fault) → first_fault sheet ≡ some f
    → o.leaves ≡ lent
unfolding outcome
bad-sheet-changes-nothing j f e = ap (λ (o : Outcome). o.leaves) (answers-fault j f e)

-- A good sheet gets 11 exactly when R is above C.
pub answers-11-exactly : {sheet : List ℕ} {lent : Lent} {o : Outcome} → Judged sheet lent o → first_fault sheet ≡ none
    → (o.answer ≡ 11) ↔ ((r : ℕ) × Number (Reachable (system_in sheet)) r × (capacity lent < r))
unfolding outcome
answers-11-exactly {lent = lent} j good = (
  λ eleven. (judged-as j (crowded-at-11 lent j.finding (answer-of j ∙ eleven))).0.1,
  λ above. answer-is j crowded (good, above),
)

-- A good sheet with room gets 12 exactly when it can be kept and its sample run doesn't fit.
pub answers-12-exactly : {sheet : List ℕ} {lent : Lent} {o : Outcome} → Judged sheet lent o → Roomy sheet lent
    → (o.answer ≡ 12) ↔ (CanBeKept (system_in sheet) × (RunFits sheet lent → ⊥))
unfolding outcome
answers-12-exactly {sheet} {lent} {o} j roomy = (there, back)
  where
    there : o.answer ≡ 12 → CanBeKept (system_in sheet) × (RunFits sheet lent → ⊥)
    there twelve =
        let (b, same) = short-at-12 lent j.finding (answer-of j ∙ twelve) in
        let (found, is) = judged-as j same in
        let (states, a, paper, long) = found.2 in
        (found.1, λ fits. omega (arith, fits states a paper, found.3, long))

    back : CanBeKept (system_in sheet) × (RunFits sheet lent → ⊥) → o.answer ≡ 12
    back (kept, long) =
        let (states, a, paper) = kept_run sheet kept in
        let longer : length states ≤ length lent.run → ⊥ =
        λ within. long (λ states' a' paper'. omega (arith, within, same-run-length paper paper')) in
        answer-is j (short (length states)) (roomy, kept, (states, a, paper, refl), omega arith)

-- Answer 11 leaves fixed contents: zeros in table, words and scratch, the run slice as it was; all other numbers are 0.
pub no-room-leaves : {sheet : List ℕ} {lent : Lent} {o : Outcome} → Judged sheet lent o → o.answer ≡ 11 → o ≡ outcome lent crowded
no-room-leaves {lent = lent} j eleven = (judged-as j (crowded-at-11 lent j.finding (answer-of j ∙ eleven))).1

-- So does answer 12, and its b is the length of the sample run.
pub short-run-leaves : {sheet : List ℕ} {lent : Lent} {o : Outcome} → Judged sheet lent o → o.answer ≡ 12
    → (states : List ℕ) × (a : ℕ) × RunPaper (system_in sheet) states a × (o ≡ outcome lent (short (length states)))
short-run-leaves {lent = lent} j twelve =
    let (b, same) = short-at-12 lent j.finding (answer-of j ∙ twelve) in
    let (found, is) = judged-as j same in
    let (states, a, paper, long) = found.2 in
    (states, a, paper, is ∙ ap (λ (n : ℕ). outcome lent (short n)) (sym long))

-- ---- demand 3

-- Demand 3, of every outcome with answer 0 and a sheet with at least one promise.
pub demand-3 : {sheet : List ℕ} {lent : Lent} {o : Outcome} (h : HandsOverRun sheet lent o) → 1 ≤ (system_in sheet).promises
    → KeepsInTime (system_in sheet) h.states o.a o.b o.count h.paper
demand-3 {sheet} h some-promise = record {
  written = rw h.length_is (run-within-kp h.paper h.counted some-promise);
  in_time = kept-within-kp (finite-in sheet) h.paper h.counted;
  soonest = paper-aimed-kept-soonest h.paper some-promise;
}
