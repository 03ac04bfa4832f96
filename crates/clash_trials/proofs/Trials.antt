-- One sheet judged: the answer for a choice is told by the lengths of the slices, is one, and is 11, 12 or 13. Assumes nothing.
use mathlib.Core.Path.{◌≡◌, refl, sym, ap, subst, ◌∙◌}
use mathlib.Core.Option.{none}
use mathlib.Core.List.{List, []}
use Prim.Native.Nat.{ℕ}
use native.Mathlib.Omega.{arith}
use lib.ListN.{length, take}
use Rattle.meaning.specs.System.{CanBeKept}
use Rattle.meaning.specs.Sheet.{first_fault}
use Rattle.meaning.specs.Promises.{system_in, Lent, Outcome, Finding, bad, crowded, short, can, cannot, Found, outcome, Judged}
use Rattle.meaning.proofs.Promised.{judged-unique, bad-not-good}
use Rattle.meaning.proofs.Meetable.{AsLong, judged-met}
use Rattle.clash_choice.specs.Choice.{with_chosen, Wrote}
use Rattle.clash_choice.proofs.Chosen.{chosen-good}
use Rattle.judge.proofs.Neighbours.{found-same, judged-same-numbers}
use Rattle.clash_trials.specs.Trials.{Answered}
use Rattle.clash_trials.specs.Parts.{Lengths, BytesJudged, Trial}

-- ---- lengths

-- Slices of the same lengths are of the same lengths to the judge.
as_long : {x y : Lent} → Lengths x y → AsLong x y
as_long L = record { table = L.table; words = L.words; scratch = L.scratch; run = L.run }

-- Lengths that stay twice stay; they stay where nothing is done; and they may be read backwards.
pub lengths-then : {x y z : Lent} → Lengths x y → Lengths y z → Lengths x z
lengths-then L M =
    record { table = M.table ∙ L.table; words = M.words ∙ L.words; scratch = M.scratch ∙ L.scratch; run = M.run ∙ L.run }

pub lengths-stay : (x : Lent) → Lengths x x
lengths-stay x = record { table = refl; words = refl; scratch = refl; run = refl }

pub lengths-back : {x y : Lent} → Lengths x y → Lengths y x
lengths-back L = record { table = sym L.table; words = sym L.words; scratch = sym L.scratch; run = sym L.run }

-- ---- the answer for a choice

-- What is answered with some slices is answered with all of the same lengths: so what a later trial answers, with the slices as an earlier
-- one left them, is the answer with the slices as lent.
pub answered-same : {sheet marks : List ℕ} {x y : Lent} {n : ℕ} → Lengths x y → Answered sheet x marks n → Answered sheet y marks n
answered-same {sheet} {marks} {x} {y} L A =
    let f : Finding = A.promise.finding in
    let again : Judged (with_chosen sheet marks) y (outcome y f) =
    record { finding = f; found = found-same (with_chosen sheet marks) (as_long L) f A.promise.found; returned = refl } in
    record { got = outcome y f; promise = again; number = A.number ∙ (judged-same-numbers (as_long L) A.promise again).answer }

-- A choice has one answer.
pub answered-unique : {sheet marks : List ℕ} {x : Lent} {m n : ℕ} → Answered sheet x marks m → Answered sheet x marks n → m ≡ n
answered-unique A B = A.number ∙ ap (λ (o : Outcome). o.answer) (judged-unique A.promise B.promise) ∙ sym B.number

-- The same where it is known to be another.
pub answered-apart : {sheet marks : List ℕ} {x : Lent} {m n : ℕ} → Answered sheet x marks m → (m ≡ n → ⊥) → Answered sheet x marks n → ⊥
answered-apart A apart B = apart (answered-unique A B)

-- An answer by another name.
pub answered-is : {sheet marks : List ℕ} {x : Lent} {m n : ℕ} → m ≡ n → Answered sheet x marks m → Answered sheet x marks n
answered-is {sheet} {marks} {x} e A = subst (Answered sheet x marks) e A

-- With no room for a run a good sheet is answered 11, 12 or 13, and the last two say whether an endless run obeys it. A sample run is never
-- empty, so 0 never comes.
pub data Verdict (sheet : List ℕ) (lent : Lent) (marks : List ℕ) : Type 0 where
  is_11 : Answered sheet lent marks 11 → Verdict sheet lent marks
  is_12 : Answered sheet lent marks 12 → CanBeKept (system_in (with_chosen sheet marks)) → Verdict sheet lent marks
  is_13 : Answered sheet lent marks 13 → (CanBeKept (system_in (with_chosen sheet marks)) → ⊥) → Verdict sheet lent marks

pub verdict : {sheet : List ℕ} {lent : Lent} → first_fault sheet ≡ none → lent.run ≡ [] → (marks : List ℕ) → Verdict sheet lent marks
unfolding outcome
verdict {sheet} {lent} good no_run marks =
    let (o, judged) = judged-met (with_chosen sheet marks) lent in
    let says = ap (λ (x : Outcome). x.answer) judged.returned in
    by judged.finding judged.found (record { got = o; promise = judged; number = sym says })
  where
    by : (x : Finding) → Found (with_chosen sheet marks) lent x → Answered sheet lent marks (outcome lent x).answer
        → Verdict sheet lent marks
    by (bad f) p A = absurd (bad-not-good p (chosen-good sheet good marks))
    by crowded p A = is_11 A
    by (short b) p A = is_12 A p.1
    by (can l states a) p A =
        let empty : length lent.run ≡ 0 = ap length no_run in
        absurd (omega (arith, empty, p.3.back, p.4))
    by (cannot states words) p A = is_13 A p.1

-- What is neither 11 nor 12 is 13.
pub third : {sheet marks : List ℕ} {x : Lent} {n : ℕ} → first_fault sheet ≡ none → x.run ≡ [] → Answered sheet x marks n
    → (n ≡ 11 → ⊥) → (n ≡ 12 → ⊥) → n ≡ 13
third {sheet} {marks} {x} {n} good no_run A a b = by (verdict good no_run marks)
  where
    by : Verdict sheet x marks → n ≡ 13
    by (is_11 B) = absurd (a (answered-unique A B))
    by (is_12 B kept) = absurd (b (answered-unique A B))
    by (is_13 B never) = answered-unique A B

-- ---- a trial

-- The sheet written down and judged is a trial; its number may go by another name.
pub trial-judged : {sheet marks buffer : List ℕ} {before after : Lent} {n k m : ℕ} → Wrote sheet marks buffer n
    → BytesJudged (take n buffer) before k after → m ≡ k → Trial sheet before marks m after
trial-judged {before = before} W J e =
    let promise = subst (λ (s : List ℕ). Judged s before J.got) W.bytes J.promise in
    record { answered = record { got = J.got; promise = promise; number = e ∙ J.number }; lengths = J.lengths }

-- A trial after others, told of the slices as they were lent.
pub trial-later : {sheet marks : List ℕ} {x y z : Lent} {n : ℕ} → Lengths x y → Trial sheet y marks n z → Trial sheet x marks n z
trial-later L T = record { answered = answered-same (lengths-back L) T.answered; lengths = lengths-then L T.lengths }
