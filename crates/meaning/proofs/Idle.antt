-- The idle builds of document 01, "How a promise is judged", and its mistakes that look like shortcuts: each is shut out by the promises.
-- A build is any function at all; a theorem is named after the build that it excludes, and says what no build that meets the promise does.
-- The wall's sheets decide (Walled.antt), each lent slices of two places (four of scratch) filled with sevens. Assumes nothing.
use mathlib.Core.Path.{◌≡◌, refl, sym, ◌∙◌, ap, subst}
use mathlib.Core.Logic.{◌⊎◌, inl, inr}
use mathlib.Core.Option.{none}
use mathlib.Core.List.{List, [], ◌∷◌}
use Prim.Native.Nat.{ℕ, zero, suc, ◌≤◌, ◌<◌}
use native.Mathlib.Omega.{arith}
use lib.Dec.{lit≤}
use lib.ListN.{length, get_or, take}
use Rattle.meaning.specs.System.{System, Run, CanBeKept, Lists, Number, IsR, IsK}
use Rattle.meaning.specs.Strike.{Left, Struck}
use Rattle.meaning.specs.Sample.{RunPaper}
use Rattle.meaning.specs.Papers.{RunAccepted}
use Rattle.meaning.specs.Sheet.{first_fault}
use Rattle.meaning.specs.Promises.{system_in, accepted, refused, RunChecked, StrikesChecked, Lent, Outcome, capacity, can, cannot}
use Rattle.meaning.specs.Promises.{Roomy, outcome, Judged, crowded, short}
use Rattle.meaning.specs.Wall.{w1, w2, w4, w5}
use Rattle.meaning.proofs.Lists.{number-unique}
use Rattle.meaning.proofs.Rounds.{strike-list-accepted}
use Rattle.meaning.proofs.SampleRun.{paper-accepted}
use Rattle.meaning.proofs.SheetSystem.{reachable-lawful-in}
use Rattle.meaning.proofs.Judging.{lists-number, livable-kept}
use Rattle.meaning.proofs.Promised.{run-checked-unique, strikes-checked-unique, same-run-length, judged-unique}
use Rattle.meaning.proofs.Demands.{RunFits, kept-hands-over, kept-run-accepted, cannot-hands-over, answers-11-exactly}
use Rattle.meaning.proofs.Demands.{short-run-leaves, demand-2}
use Rattle.meaning.proofs.Tests.{Test, as?, same?, le?, both?, if?, each?, any?, lists?}
use Rattle.meaning.proofs.Tables.{Testable, left_below, struck?, left?}
use Rattle.meaning.proofs.Walled.{tests-in, lawful-list?, reachable-list?, w1-kept, w2-kept, w4-struck, w5-struck}

-- ---- builds, and what is lent

abbrev pub Build : Type 0
Build = List ℕ → Lent → Outcome

abbrev pub Meets : Build → Type 0
Meets build = (sheet : List ℕ) (lent : Lent) → Judged sheet lent (build sheet lent)

abbrev pub RunChecker : Type 0
RunChecker = (sheet states : List ℕ) (a : ℕ) → ℕ

abbrev pub MeetsRuns : RunChecker → Type 0
MeetsRuns check = (sheet states : List ℕ) (a : ℕ) → RunChecked sheet states a (check sheet states a)

abbrev pub StrikeChecker : Type 0
StrikeChecker = (sheet states words : List ℕ) → ℕ

abbrev pub MeetsStrikes : StrikeChecker → Type 0
MeetsStrikes check = (sheet states words : List ℕ) → StrikesChecked sheet states words (check sheet states words)

abbrev pub sevens : Lent
sevens = record { table = 7 ∷ 7 ∷ []; words = 7 ∷ 7 ∷ []; scratch = 7 ∷ 7 ∷ 7 ∷ 7 ∷ []; run = 7 ∷ 7 ∷ [] }

-- A good sheet whose reachable states and whose sample run, if it has one, have room: the condition of demand 2.
pub record Fitting (sheet : List ℕ) (lent : Lent) : Type 0 where
  pub roomy : Roomy sheet lent
  pub fits : RunFits sheet lent

-- ---- the one outcome on W1, W4 and W5, which all fit

-- Two reachable states have room in the sevens.
two-fit : (sheet : List ℕ) → first_fault sheet ≡ none → IsR (system_in sheet) 2 → Roomy sheet sevens
unfolding capacity
two-fit sheet good number = record { good = good; reached = 2; number = number; room = lit≤ tt }

-- Where nothing can be kept there is no sample run to fit.
no-run-fits : (sheet : List ℕ) (lent : Lent) → (CanBeKept (system_in sheet) → ⊥) → RunFits sheet lent
no-run-fits sheet lent never states a paper = absurd (never (livable-kept paper.sample.livable))

pub w1-fits : Fitting w1 sevens
unfolding first_fault reachable-list?
w1-fits = record {
  roomy = two-fit w1 refl (lists-number ((reachable-list? w1 (0 ∷ 1 ∷ [])).sound tt));
  fits = λ states a paper. omega (arith, same-run-length w1-kept.2 paper);
}

pub w4-fits : Fitting w4 sevens
unfolding first_fault
w4-fits = record { roomy = two-fit w4 refl w4-struck.1; fits = no-run-fits w4 sevens w4-struck.0 }

pub w5-fits : Fitting w5 sevens
unfolding first_fault
w5-fits = record { roomy = two-fit w5 refl w5-struck.1; fits = no-run-fits w5 sevens w5-struck.0 }

-- W1 can be kept: both states livable, run 0, a = 0, b = 1.
pub w1-outcome : {o : Outcome} → Judged w1 sevens o → o ≡ record {
  answer = 0;
  count = 2;
  a = 0;
  b = 1;
  place = 0;
  leaves = record { table = 0 ∷ 1 ∷ []; words = 0 ∷ 0 ∷ []; scratch = 0 ∷ 0 ∷ 0 ∷ 0 ∷ []; run = 0 ∷ 7 ∷ [] };
}
unfolding outcome
w1-outcome j = judged-unique j (record {
  finding = can (0 ∷ 1 ∷ []) (0 ∷ []) 0;
  found = (w1-fits.roomy, w1-kept.0, w1-kept.1, w1-kept.2, lit≤ tt);
  returned = refl;
})

-- W4 cannot be kept: state 0 falls in round 1 for promise 1, state 1 in round 2 for want of a move.
pub w4-outcome : {o : Outcome} → Judged w4 sevens o → o ≡ record {
  answer = 13;
  count = 2;
  a = 0;
  b = 0;
  place = 0;
  leaves = record { table = 0 ∷ 1 ∷ []; words = 33 ∷ 64 ∷ []; scratch = 0 ∷ 0 ∷ 0 ∷ 0 ∷ []; run = 7 ∷ 7 ∷ [] };
}
unfolding outcome
w4-outcome j = judged-unique j (record {
  finding = cannot (0 ∷ 1 ∷ []) (33 ∷ 64 ∷ []);
  found = (w4-fits.roomy, w4-struck.0, w4-struck.2);
  returned = refl;
})

-- W5 cannot be kept: both states fall in round 1 for want of a move.
pub w5-outcome : {o : Outcome} → Judged w5 sevens o → o ≡ record {
  answer = 13;
  count = 2;
  a = 0;
  b = 0;
  place = 0;
  leaves = record { table = 0 ∷ 1 ∷ []; words = 32 ∷ 32 ∷ []; scratch = 0 ∷ 0 ∷ 0 ∷ 0 ∷ []; run = 7 ∷ 7 ∷ [] };
}
unfolding outcome
w5-outcome j = judged-unique j (record {
  finding = cannot (0 ∷ 1 ∷ []) (32 ∷ 32 ∷ []);
  found = (w5-fits.roomy, w5-struck.0, w5-struck.2);
  returned = refl;
})

-- Whoever meets the promise says 0 on W1, 13 on W4 and 13 on W5.
pub says-0-on-w1 : (build : Build) → Meets build → (build w1 sevens).answer ≡ 0
says-0-on-w1 build meets = ap (λ (o : Outcome). o.answer) (w1-outcome (meets w1 sevens))

pub says-13-on-w4 : (build : Build) → Meets build → (build w4 sevens).answer ≡ 13
says-13-on-w4 build meets = ap (λ (o : Outcome). o.answer) (w4-outcome (meets w4 sevens))

pub says-13-on-w5 : (build : Build) → Meets build → (build w5 sevens).answer ≡ 13
says-13-on-w5 build meets = ap (λ (o : Outcome). o.answer) (w5-outcome (meets w5 sevens))

-- ---- builds that always say one number

-- No sheet that fits is refused.
pub fitting-not-refused : {sheet : List ℕ} {lent : Lent} {o : Outcome} → Judged sheet lent o → Fitting sheet lent → 1 ≤ o.answer
    → o.answer ≤ 12 → ⊥
fitting-not-refused {o = o} j fitting low high = by (demand-2 j fitting.roomy fitting.fits).2
  where
    by : (o.answer ≡ 0) ⊎ (o.answer ≡ 13) → ⊥
    by (inl e) = omega arith
    by (inr e) = omega arith

-- It says 11, or any other refusal, always; even if only where the sheet fits.
pub always-refusing : (build : Build) → Meets build → (n : ℕ) → 1 ≤ n → n ≤ 12
    → ((sheet : List ℕ) (lent : Lent) → Fitting sheet lent → (build sheet lent).answer ≡ n) → ⊥
always-refusing build meets n low high always = omega (arith, says-0-on-w1 build meets, always w1 sevens w1-fits)

-- It says 0 to every sheet that fits.
pub always-0 : (build : Build) → Meets build → ((sheet : List ℕ) (lent : Lent) → Fitting sheet lent → (build sheet lent).answer ≡ 0) → ⊥
always-0 build meets always = omega (arith, says-13-on-w5 build meets, always w5 sevens w5-fits)

-- It says 13 to every sheet that fits.
pub always-13 : (build : Build) → Meets build → ((sheet : List ℕ) (lent : Lent) → Fitting sheet lent → (build sheet lent).answer ≡ 13) → ⊥
always-13 build meets always = omega (arith, says-0-on-w1 build meets, always w1 sevens w1-fits)

-- W1's run is accepted.
pub w1-run-accepted : {n : ℕ} → RunChecked w1 (0 ∷ []) 0 n → n ≡ 0
unfolding RunChecked first_fault
w1-run-accepted c = run-checked-unique w1 (0 ∷ []) 0 c (accepted refl (paper-accepted w1-kept.2) refl)

-- W5's strike list is accepted.
pub w5-strikes-accepted : {n : ℕ} → StrikesChecked w5 (0 ∷ 1 ∷ []) (32 ∷ 32 ∷ []) n → n ≡ 0
unfolding StrikesChecked first_fault system_in
w5-strikes-accepted c = strikes-checked-unique w5 (0 ∷ 1 ∷ []) (32 ∷ 32 ∷ []) c
    (accepted refl (strike-list-accepted (reachable-lawful-in w5) (lit≤ tt) w5-struck.2) refl)

-- It refuses every run on a good sheet.
pub always-14-runs : (check : RunChecker) → MeetsRuns check
    → ((sheet states : List ℕ) (a : ℕ) → first_fault sheet ≡ none → check sheet states a ≡ 14) → ⊥
unfolding first_fault
always-14-runs check meets always = omega (arith, w1-run-accepted (meets w1 (0 ∷ []) 0), always w1 (0 ∷ []) 0 refl)

-- It refuses every strike list on a good sheet.
pub always-14-strikes : (check : StrikeChecker) → MeetsStrikes check
    → ((sheet states words : List ℕ) → first_fault sheet ≡ none → check sheet states words ≡ 14) → ⊥
unfolding first_fault
always-14-strikes check meets always =
    omega (arith, w5-strikes-accepted (meets w5 (0 ∷ 1 ∷ []) (32 ∷ 32 ∷ [])), always w5 (0 ∷ 1 ∷ []) (32 ∷ 32 ∷ []) refl)

-- W1's first states are listed by no empty strike list: it is refused.
pub w1-no-strikes-refused : {n : ℕ} → StrikesChecked w1 [] [] n → n ≡ 14
unfolding StrikesChecked first_fault system_in
w1-no-strikes-refused c = strikes-checked-unique w1 [] [] c (refused refl (λ r. let (i, h, e) = r.firsts 0 tt in omega (arith, h)) refl)

-- It accepts every strike list on a good sheet.
pub always-0-strikes : (check : StrikeChecker) → MeetsStrikes check
    → ((sheet states words : List ℕ) → first_fault sheet ≡ none → check sheet states words ≡ 0) → ⊥
unfolding first_fault
always-0-strikes check meets always = omega (arith, w1-no-strikes-refused (meets w1 [] []), always w1 [] [] refl)

-- ---- builds that touch nothing

-- a list has one first place
same-front : {l m n : List ℕ} {x y : ℕ} → l ≡ x ∷ m → l ≡ y ∷ n → x ≡ y
same-front p q = cc

-- On W1 the table and the run are written: whoever leaves one of them as lent breaks the promise.
pub leaves-w1-untouched : {o : Outcome} → Judged w1 sevens o
    → (o.leaves.table ≡ sevens.table → ⊥) × (o.leaves.run ≡ sevens.run → ⊥)
leaves-w1-untouched j = (
  (λ e. omega (arith, same-front (ap (λ (o : Outcome). o.leaves.table) (w1-outcome j)) e)),
  (λ e. omega (arith, same-front (ap (λ (o : Outcome). o.leaves.run) (w1-outcome j)) e)),
)

-- On W4 the table and the words are.
pub leaves-w4-untouched : {o : Outcome} → Judged w4 sevens o
    → (o.leaves.table ≡ sevens.table → ⊥) × (o.leaves.words ≡ sevens.words → ⊥)
leaves-w4-untouched j = (
  (λ e. omega (arith, same-front (ap (λ (o : Outcome). o.leaves.table) (w4-outcome j)) e)),
  (λ e. omega (arith, same-front (ap (λ (o : Outcome). o.leaves.words) (w4-outcome j)) e)),
)

-- It leaves all slices as lent.
pub touches-nothing : (build : Build) → Meets build → ((sheet : List ℕ) (lent : Lent) → Fitting sheet lent
    → (build sheet lent).leaves ≡ lent) → ⊥
touches-nothing build meets idle = (leaves-w1-untouched (meets w1 sevens)).0 (ap (λ (l : Lent). l.table) (idle w1 sevens w1-fits))

-- ---- builds that strike a true first round and then stop (and mistake 3, one pass of striking)

-- struck in round 1
abbrev pub StruckFirst : System → ℕ → Type 0
StruckFirst S s = (n : ℕ) × (n < suc S.promises) × Struck S n s

-- In W4 round 1 strikes state 0 and leaves state 1.
pub w4-first-round : Lists (StruckFirst (system_in w4)) (0 ∷ []) × Left (system_in w4) 2 1
unfolding tests-in lists? any? struck? left?
w4-first-round = (
  (lists? (λ s. any? (suc (system_in w4).promises) (λ n. struck? (tests-in w4) n s)) (tests-in w4).bound
      (λ s (n, h, w). left_below (tests-in w4) n s w.0) (0 ∷ [])).sound tt,
  (left? (tests-in w4) 2 1).sound tt,
)

-- It strikes a true first round, stops, and counts what that struck.
pub first-round-only : (build : Build) → Meets build
    → ((sheet : List ℕ) (lent : Lent) → Fitting sheet lent → (build sheet lent).answer ≡ 13
    → Number (StruckFirst (system_in sheet)) (build sheet lent).count) → ⊥
first-round-only build meets idle =
    let struck = idle w4 sevens w4-fits (says-13-on-w4 build meets) in
    omega (arith, number-unique struck (lists-number w4-first-round.0), ap (λ (o : Outcome). o.count) (w4-outcome (meets w4 sevens)))

-- It strikes a true first round, stops, and says "can be kept" where a state is left.
pub first-round-then-kept : (build : Build) → Meets build
    → ((sheet : List ℕ) (lent : Lent) (s : ℕ) → Fitting sheet lent → Left (system_in sheet) (suc (system_in sheet).promises) s
    → (build sheet lent).answer ≡ 0) → ⊥
unfolding system_in
first-round-then-kept build meets idle = omega (arith, idle w4 sevens 1 w4-fits w4-first-round.1, says-13-on-w4 build meets)

-- ---- run checkers that look at too little

-- A run as one sees it who tests only its first n moves, and looks for the promises from place c on.
pub record RunGlanced (S : System) (states : List ℕ) (a n c : ℕ) : Type 0 where
  pub back : a < length states
  pub first : S.First (get_or states 0 0)
  pub moves : (i : ℕ) → i < n → suc i < length states → S.Move (get_or states i 0) (get_or states (suc i) 0)
  pub closes : (i : ℕ) → suc i ≡ length states → S.Move (get_or states i 0) (get_or states a 0)
  pub keeps : (k : ℕ) → k < S.promises → (i : ℕ) × (c ≤ i) × (i < length states) × S.Kept k (get_or states i 0)

-- An accepted run is one that is seen whole, with the promises looked for from a on.
pub accepted-glanced : {S : System} {states : List ℕ} {a : ℕ} → RunAccepted S states a → RunGlanced S states a (length states) a
accepted-glanced r = record { back = r.back; first = r.first; moves = λ i h. r.moves i; closes = r.closes; keeps = r.keeps }

-- a run so seen is tested
unfoldable pub glanced? : {S : System} → Testable S → (states : List ℕ) (a n c : ℕ) → Test (RunGlanced S states a n c)
unfolding both? le? same? each? any? if? as?
glanced? {S} F states a n c = as?
    (λ w. record {
      back = w.0;
      first = w.1.0;
      moves = λ i h l. w.1.1.0 i h l;
      closes = λ i e. w.1.1.1.0 i (omega arith) e;
      keeps = λ k h. let v = w.1.1.1.1 k h in (v.0, v.2.0, v.1, v.2.1);
    })
    (λ g. (g.back, (g.first, (g.moves, ((λ i h. g.closes i), λ k h. let v = g.keeps k h in (v.0, v.2, (v.1, v.3)))))))
    (both? (le? (suc a) (length states)) (both? (F.first? (get_or states 0 0))
    (both? (each? n (λ i. if? (le? (suc (suc i)) (length states)) (F.move? (get_or states i 0) (get_or states (suc i) 0))))
    (both? (each? (length states) (λ i. if? (same? (suc i) (length states)) (F.move? (get_or states i 0) (get_or states a 0))))
    (each? S.promises (λ k. any? (length states) (λ i. both? (le? c i) (F.kept? k (get_or states i 0)))))))))

-- W4's run 1, 0, 1 with a = 1 has a right first move, and all else but its second move is right: it is refused.
pub w4-second-move : RunGlanced (system_in w4) (1 ∷ 0 ∷ 1 ∷ []) 1 1 1 × ((n : ℕ) → RunChecked w4 (1 ∷ 0 ∷ 1 ∷ []) 1 n → n ≡ 14)
unfolding RunChecked first_fault tests-in glanced?
w4-second-move = (
  (glanced? (tests-in w4) (1 ∷ 0 ∷ 1 ∷ []) 1 1 1).sound tt,
  λ n c. run-checked-unique w4 (1 ∷ 0 ∷ 1 ∷ []) 1 c
      (refused refl (λ r. (glanced? (tests-in w4) (1 ∷ 0 ∷ 1 ∷ []) 1 3 1).whole (accepted-glanced r)) refl),
)

-- W2's run 1, 0 with a = 1 has its promise true only before a, and all else is right: it is refused.
pub w2-promise-before : RunGlanced (system_in w2) (1 ∷ 0 ∷ []) 1 2 0 × ((n : ℕ) → RunChecked w2 (1 ∷ 0 ∷ []) 1 n → n ≡ 14)
unfolding RunChecked first_fault tests-in glanced?
w2-promise-before = (
  (glanced? (tests-in w2) (1 ∷ 0 ∷ []) 1 2 0).sound tt,
  λ n c. run-checked-unique w2 (1 ∷ 0 ∷ []) 1 c
      (refused refl (λ r. (glanced? (tests-in w2) (1 ∷ 0 ∷ []) 1 2 1).whole (accepted-glanced r)) refl),
)

-- It accepts whatever has a right first move, if all but the later moves is right.
pub first-move-only : (check : RunChecker) → MeetsRuns check → ((sheet states : List ℕ) (a : ℕ) → first_fault sheet ≡ none
    → RunGlanced (system_in sheet) states a 1 a → check sheet states a ≡ 0) → ⊥
unfolding first_fault
first-move-only check meets idle =
    omega (arith, idle w4 (1 ∷ 0 ∷ 1 ∷ []) 1 refl w4-second-move.0, w4-second-move.1 _ (meets w4 (1 ∷ 0 ∷ 1 ∷ []) 1))

-- It accepts every run on a good sheet.
pub always-0-runs : (check : RunChecker) → MeetsRuns check
    → ((sheet states : List ℕ) (a : ℕ) → first_fault sheet ≡ none → check sheet states a ≡ 0) → ⊥
always-0-runs check meets always = first-move-only check meets (λ sheet states a good glanced. always sheet states a good)

-- Mistake 2: it tests a promise in the whole paper and not from a on.
pub whole-paper-promise : (check : RunChecker) → MeetsRuns check → ((sheet states : List ℕ) (a : ℕ) → first_fault sheet ≡ none
    → RunGlanced (system_in sheet) states a (length states) 0 → check sheet states a ≡ 0) → ⊥
unfolding first_fault
whole-paper-promise check meets idle =
    omega (arith, idle w2 (1 ∷ 0 ∷ []) 1 refl w2-promise-before.0, w2-promise-before.1 _ (meets w2 (1 ∷ 0 ∷ []) 1))

-- ---- the other mistakes that look like shortcuts

-- Mistake 1: it stops at the first cycle found, and says "can be kept" where any endless run is. In W4 state 0 goes round for ever.
pub first-cycle-found : (build : Build) → Meets build
    → ((sheet : List ℕ) (lent : Lent) (f : ℕ → ℕ) → Fitting sheet lent → Run (system_in sheet) f → (build sheet lent).answer ≡ 0) → ⊥
unfolding system_in
first-cycle-found build meets idle = omega (arith, idle w4 sevens (elim [ zero ↦ 1 | suc i ↦ 0 ]) w4-fits round, says-13-on-w4 build meets)
  where
    round : Run (system_in w4) (elim [ zero ↦ 1 | suc i ↦ 0 ])
    round = record { starts = tt; goes = elim [ zero ↦ tt | suc i ↦ tt ] }

-- n=1, first 1, step with an empty left side to 1: of two lawful states state 1 alone is reachable
abbrev pub one_of_two : List ℕ
one_of_two = 0x01 ∷ 0x00 ∷ 0x0D ∷ 0x01 ∷ 0x00 ∷ 0x01 ∷ 0x01 ∷ 0x00 ∷ 0x01 ∷ 0x01 ∷ 0x02 ∷ 0x00 ∷ 0x01 ∷ []

-- Mistake 4: it answers 11 from the number of lawful states.
pub counts-lawful-states : (build : Build) → Meets build
    → ((sheet : List ℕ) (lent : Lent) (n : ℕ) → first_fault sheet ≡ none → Number (system_in sheet).Lawful n → capacity lent < n
    → (build sheet lent).answer ≡ 11) → ⊥
unfolding first_fault capacity reachable-list? lawful-list?
counts-lawful-states build meets idle =
    let one : Lent = record { table = 7 ∷ []; words = 7 ∷ []; scratch = 7 ∷ 7 ∷ []; run = 7 ∷ [] } in
    let eleven = idle one_of_two one 2 refl (lists-number ((lawful-list? one_of_two (0 ∷ 1 ∷ [])).sound tt)) (lit≤ tt) in
    let (r, number, above) = (answers-11-exactly (meets one_of_two one) refl).0 eleven in
    let is : r ≡ 1 = number-unique number (lists-number ((reachable-list? one_of_two (1 ∷ [])).sound tt)) in
    omega arith

-- Mistake 5: it skips W5's empty right side as nothing asked, and so takes W5 for W1.
pub empty-right-side-skipped : (build : Build) → Meets build → ((lent : Lent) → (build w5 lent).answer ≡ (build w1 lent).answer) → ⊥
empty-right-side-skipped build meets idle = omega (arith, idle sevens, says-0-on-w1 build meets, says-13-on-w5 build meets)

-- ---- builds that invent K, R, b or the run

-- K is the number of livable states.
pub invents-K : {sheet : List ℕ} {lent : Lent} {o : Outcome} → Judged sheet lent o → o.answer ≡ 0 → IsK (system_in sheet) o.count
invents-K j kept = (kept-hands-over j kept).counted

-- R is the number of reachable states.
pub invents-R : {sheet : List ℕ} {lent : Lent} {o : Outcome} → Judged sheet lent o → o.answer ≡ 13 → IsR (system_in sheet) o.count
invents-R j thirteen = (cannot-hands-over j thirteen).counted

-- b is the length of the sample run, in answers 0 and 12.
pub invents-b : {sheet : List ℕ} {lent : Lent} {o : Outcome} → Judged sheet lent o → (o.answer ≡ 0) ⊎ (o.answer ≡ 12)
    → (states : List ℕ) (a : ℕ) → RunPaper (system_in sheet) states a → o.b ≡ length states
unfolding outcome
invents-b j (inl kept) states a paper = let h = kept-hands-over j kept in h.length_is ∙ same-run-length h.paper paper
invents-b j (inr twelve) states a paper =
    let (states', a', paper', is) = short-run-leaves j twelve in ap (λ (o : Outcome). o.b) is ∙ same-run-length paper' paper

-- So outcomes that differ in the count or in b do not both meet the promise.
pub invents-nothing : {sheet : List ℕ} {lent : Lent} {o o' : Outcome} → Judged sheet lent o → Judged sheet lent o'
    → (o.count ≡ o'.count) × (o.b ≡ o'.b)
invents-nothing j j' = (ap (λ (o : Outcome). o.count) (judged-unique j j'), ap (λ (o : Outcome). o.b) (judged-unique j j'))

-- Answer 0 comes with a run that the run checker's rule accepts.
pub hands-back-no-run : {sheet : List ℕ} {lent : Lent} {o : Outcome} → Judged sheet lent o → o.answer ≡ 0
    → (1 ≤ o.b) × RunAccepted (system_in sheet) (take o.b o.leaves.run) o.a
hands-back-no-run {sheet} {o = o} j kept =
    let h = kept-hands-over j kept in
    let ok = kept-run-accepted h in
    (omega (arith, ok.back, h.length_is), subst (λ (l : List ℕ). RunAccepted (system_in sheet) l o.a) (sym h.run_front) ok)

-- ---- W16: W2 with too little room, and with a run slice one place short

abbrev one_place : Lent
one_place = record { table = 7 ∷ []; words = 7 ∷ 7 ∷ []; scratch = 7 ∷ 7 ∷ 7 ∷ 7 ∷ []; run = 7 ∷ 7 ∷ [] }

abbrev short-run : Lent
short-run = record { table = 7 ∷ 7 ∷ []; words = 7 ∷ 7 ∷ 7 ∷ []; scratch = 7 ∷ 7 ∷ 7 ∷ 7 ∷ 7 ∷ []; run = 7 ∷ [] }

w2-reached : IsR (system_in w2) 2
unfolding reachable-list?
w2-reached = lists-number ((reachable-list? w2 (0 ∷ 1 ∷ [])).sound tt)

-- "W2 with C=1: answer 11."
pub w16-no-room : {o : Outcome} → Judged w2 one_place o → o ≡ record {
  answer = 11;
  count = 0;
  a = 0;
  b = 0;
  place = 0;
  leaves = record { table = 0 ∷ []; words = 0 ∷ 0 ∷ []; scratch = 0 ∷ 0 ∷ 0 ∷ 0 ∷ []; run = 7 ∷ 7 ∷ [] };
}
unfolding outcome first_fault capacity
w16-no-room j = judged-unique j (record { finding = crowded; found = (refl, (2, w2-reached, lit≤ tt)); returned = refl })

-- "With C=2 and a run slice of 1: answer 12, b=2." Words and scratch past C are zero too.
pub w16-short-run : {o : Outcome} → Judged w2 short-run o → o ≡ record {
  answer = 12;
  count = 0;
  a = 0;
  b = 2;
  place = 0;
  leaves = record { table = 0 ∷ 0 ∷ []; words = 0 ∷ 0 ∷ 0 ∷ []; scratch = 0 ∷ 0 ∷ 0 ∷ 0 ∷ 0 ∷ []; run = 7 ∷ [] };
}
unfolding outcome first_fault capacity
w16-short-run j = judged-unique j (record {
  finding = short 2;
  found = (
    record { good = refl; reached = 2; number = w2-reached; room = lit≤ tt },
    w2-kept.0,
    (0 ∷ 1 ∷ [], 1, w2-kept.2, refl),
    lit≤ tt,
  );
  returned = refl;
})
