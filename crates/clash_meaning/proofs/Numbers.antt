-- Marks and rule numbers say the same: a rule is marked exactly if its number is proposed, a row of marks is that of its own numbers, the
-- numbers of a proposal are those of its marks, and the rules that they choose are the sheet's rules with these numbers, counted from 1 in
-- sheet order (`rules-by-number`). Assumes nothing.
use mathlib.Core.Path.{◌≡◌, refl, sym, ◌∙◌, ap, subst}
use mathlib.Core.List.{List, [], ◌∷◌, ◌++◌}
use Prim.Native.Nat.{ℕ, zero, suc, ◌+◌, ◌-◌, ◌≤◌, ◌<◌}
use native.Mathlib.Decide.{ℕ_discrete}
use native.Mathlib.Omega.{arith}
use lib.ListN.{length, get_or, set, replicate, length-set, length-replicate}
use lib.Seq.{get_or-set_same, get_or-set_other, set-append_seam}
use Rattle.meaning.specs.System.{In, Lists}
use Rattle.meaning.specs.Sheet.{StepRule, byte, decode}
use Rattle.meaning.proofs.Lists.{lists-unique}
use Rattle.reader.proofs.Good.{steps-count}
use Rattle.clash_choice.specs.Choice.{picked, only_chosen}
use Rattle.clash_choice.specs.Proposals.{most_rules, marks_of, Chosen, Proposal}
use Rattle.clash_choice.proofs.Proposing.{proposal-wider}

-- There are 255 marks, whatever the numbers.
pub length-marks : (numbers : List ℕ) → length (marks_of numbers) ≡ most_rules
unfolding marks_of
length-marks [] = length-replicate {A = ℕ} most_rules 0
length-marks (k ∷ numbers) = length-set (marks_of numbers) (k - 1) 1 ∙ length-marks numbers

-- What is left of a proposal without its first number.
later : {rules k : ℕ} {numbers : List ℕ} → Proposal rules (k ∷ numbers) → Proposal rules numbers
later p = record {
  least = λ j h. p.least (suc j) (omega arith);
  most = λ j h. p.most (suc j) (omega arith);
  rising = λ j h. p.rising (suc j) (omega arith);
}

-- Where there are only zeros no rule is marked.
pub unmarked : (i n : ℕ) → ◌≡◌ {A = ℕ} (get_or (replicate n 0) i 0) 0
unmarked i zero = refl
unmarked zero (suc n) = refl
unmarked (suc i) (suc n) = unmarked i n

-- A rule is marked exactly if its number is proposed.
pub marked-proposed : (numbers : List ℕ) → Proposal most_rules numbers → (i : ℕ) → Chosen i (marks_of numbers) → In numbers (suc i)
unfolding marks_of
marked-proposed [] p i c = absurd (c (unmarked i most_rules))
marked-proposed (k ∷ numbers) p i c = by (marked-proposed numbers (later p) i) (ℕ_discrete i (k - 1))
  where
    by : (Chosen i (marks_of numbers) → In numbers (suc i)) → Dec (i ≡ k - 1) → In (k ∷ numbers) (suc i)
    by rest (yes e) = (0, omega arith, omega (arith, e, p.least 0 (omega arith)))
    by rest (no e) =
        let (j, h, there) = rest (λ z. c (get_or-set_other (marks_of numbers) (k - 1) i 1 0 e ∙ z)) in
        (suc j, omega arith, there)

pub proposed-marked : (numbers : List ℕ) → Proposal most_rules numbers → (j : ℕ) → j < length numbers
    → get_or (marks_of numbers) (get_or numbers j 0 - 1) 0 ≡ 1
unfolding marks_of
proposed-marked [] p j h = absurd (omega arith)
proposed-marked (k ∷ numbers) p zero h =
    let low = p.least 0 (omega arith) in
    let high = p.most 0 (omega arith) in
    get_or-set_same (marks_of numbers) (k - 1) 1 0 (omega (arith, low, high, length-marks numbers))
proposed-marked (k ∷ numbers) p (suc j) h =
    by (proposed-marked numbers (later p) j (omega arith)) (ℕ_discrete (get_or numbers j 0 - 1) (k - 1))
  where
    by : get_or (marks_of numbers) (get_or numbers j 0 - 1) 0 ≡ 1 → Dec (get_or numbers j 0 - 1 ≡ k - 1)
        → get_or (set (marks_of numbers) (k - 1) 1) (get_or numbers j 0 - 1) 0 ≡ 1
    by rest (yes e) =
        let low = p.least 0 (omega arith) in
        let high = p.most 0 (omega arith) in
        ap (λ (i : ℕ). get_or (set (marks_of numbers) (k - 1) 1) i 0) e
        ∙ get_or-set_same (marks_of numbers) (k - 1) 1 0 (omega (arith, low, high, length-marks numbers))
    by rest (no e) = get_or-set_other (marks_of numbers) (k - 1) (get_or numbers j 0 - 1) 1 0 e ∙ rest

-- ---- from marks to numbers

-- the numbers of the marked rules, the first mark being that of rule k + 1
unfoldable pub numbers_from : (k : ℕ) (marks : List ℕ) → List ℕ
numbers_from k [] = []
numbers_from k (zero ∷ marks) = numbers_from (suc k) marks
numbers_from k (suc m ∷ marks) = suc k ∷ numbers_from (suc k) marks

-- the numbers of all marked rules
unfoldable pub numbers_of : List ℕ → List ℕ
unfolding numbers_from
numbers_of marks = numbers_from 0 marks

-- each mark is 0 or 1
abbrev pub Plain : List ℕ → Type 0
Plain marks = (i : ℕ) → get_or marks i 0 ≤ 1

replicate_next : (k : ℕ) (l : List ℕ) → replicate (suc k) 0 ++ l ≡ replicate k 0 ++ (0 ∷ l)
replicate_next zero l = refl
replicate_next (suc k) l = ap (λ (r : List ℕ). 0 ∷ r) (replicate_next k l)

append-nothing : (l : List ℕ) → l ++ [] ≡ l
append-nothing [] = refl
append-nothing (x ∷ l) = ap (λ (r : List ℕ). x ∷ r) (append-nothing l)

-- Marking these numbers gives the marks back.
marks-from : (k : ℕ) (marks : List ℕ) → k + length marks ≡ most_rules → Plain marks → marks_of (numbers_from k marks) ≡ replicate k 0 ++ marks
unfolding marks_of numbers_from
marks-from k [] e plain =
    let all : k ≡ most_rules = omega (arith, e) in
    sym (ap (λ (n : ℕ). replicate n 0 ++ []) all ∙ append-nothing (replicate most_rules 0))
marks-from k (zero ∷ marks) e plain = marks-from (suc k) marks (omega (arith, e)) (λ i. plain (suc i)) ∙ replicate_next k marks
marks-from k (suc m ∷ marks) e plain =
    let one : m ≡ 0 = omega (arith, plain 0) in
    let seam : set (replicate k 0 ++ (0 ∷ marks)) k 1 ≡ replicate k 0 ++ (1 ∷ marks) =
    subst (λ (n : ℕ). set (replicate k 0 ++ (0 ∷ marks)) n 1 ≡ replicate k 0 ++ (1 ∷ marks)) (length-replicate k 0)
    (set-append_seam (replicate k 0) 0 marks 1) in
    let behind : marks_of (numbers_from (suc k) marks) ≡ replicate k 0 ++ (0 ∷ marks) =
    marks-from (suc k) marks (omega (arith, e)) (λ i. plain (suc i)) ∙ replicate_next k marks in
    let place : suc k - 1 ≡ k = omega arith in
    ap (λ (n : ℕ). set (marks_of (numbers_from (suc k) marks)) n 1) place ∙ ap (λ (l : List ℕ). set l k 1) behind
    ∙ seam ∙ ap (λ (n : ℕ). replicate k 0 ++ (suc n ∷ marks)) (sym one)

pub marks-back : (marks : List ℕ) → length marks ≡ most_rules → Plain marks → marks_of (numbers_of marks) ≡ marks
unfolding numbers_of
marks-back marks e plain = marks-from 0 marks (omega (arith, e)) plain

-- The numbers are a proposal, where no rule past the last is marked.
from-above : (k : ℕ) (marks : List ℕ) (j : ℕ) → j < length (numbers_from k marks) → k < get_or (numbers_from k marks) j 0
unfolding numbers_from
from-above k [] j h = absurd (omega arith)
from-above k (zero ∷ marks) j h = omega (arith, from-above (suc k) marks j h)
from-above k (suc m ∷ marks) zero h = omega arith
from-above k (suc m ∷ marks) (suc j) h = omega (arith, from-above (suc k) marks j (omega arith))

from-within : (k rules : ℕ) (marks : List ℕ) → ((i : ℕ) → Chosen i marks → k + i < rules)
    → (j : ℕ) → j < length (numbers_from k marks) → get_or (numbers_from k marks) j 0 ≤ rules
unfolding numbers_from
from-within k rules [] within j h = absurd (omega arith)
from-within k rules (zero ∷ marks) within j h =
    from-within (suc k) rules marks (λ i c. omega (arith, within (suc i) c)) j h
from-within k rules (suc m ∷ marks) within zero h = omega (arith, within 0 (λ e. omega (arith, e)))
from-within k rules (suc m ∷ marks) within (suc j) h =
    from-within (suc k) rules marks (λ i c. omega (arith, within (suc i) c)) j (omega arith)

from-rising : (k : ℕ) (marks : List ℕ) (j : ℕ) → suc j < length (numbers_from k marks)
    → get_or (numbers_from k marks) j 0 < get_or (numbers_from k marks) (suc j) 0
unfolding numbers_from
from-rising k [] j h = absurd (omega arith)
from-rising k (zero ∷ marks) j h = from-rising (suc k) marks j h
from-rising k (suc m ∷ marks) zero h = from-above (suc k) marks 0 (omega arith)
from-rising k (suc m ∷ marks) (suc j) h = from-rising (suc k) marks j (omega arith)

pub numbers-proposed : (rules : ℕ) (marks : List ℕ) → ((i : ℕ) → Chosen i marks → i < rules) → Proposal rules (numbers_of marks)
unfolding numbers_of
numbers-proposed rules marks within = record {
  least = λ j h. omega (arith, from-above 0 marks j h);
  most = from-within 0 rules marks (λ i c. omega (arith, within i c));
  rising = from-rising 0 marks;
}

-- A number is read off exactly where its rule is marked.
numbered-marked : (k : ℕ) (marks : List ℕ) (j : ℕ) → j < length (numbers_from k marks)
    → (i : ℕ) × (get_or (numbers_from k marks) j 0 ≡ suc (k + i)) × Chosen i marks
unfolding numbers_from
numbered-marked k [] j h = absurd (omega arith)
numbered-marked k (zero ∷ marks) j h =
    let (i, e, c) = numbered-marked (suc k) marks j h in
    (suc i, omega (arith, e), c)
numbered-marked k (suc m ∷ marks) zero h = (0, omega arith, λ e. omega (arith, e))
numbered-marked k (suc m ∷ marks) (suc j) h =
    let (i, e, c) = numbered-marked (suc k) marks j (omega arith) in
    (suc i, omega (arith, e), c)

marked-numbered : (k : ℕ) (marks : List ℕ) (i : ℕ) → Chosen i marks → In (numbers_from k marks) (suc (k + i))
unfolding numbers_from
marked-numbered k [] i c = absurd (c refl)
marked-numbered k (zero ∷ marks) zero c = absurd (c refl)
marked-numbered k (zero ∷ marks) (suc i) c =
    let (j, h, e) = marked-numbered (suc k) marks i c in
    (j, h, omega (arith, e))
marked-numbered k (suc m ∷ marks) zero c = (0, omega arith, omega arith)
marked-numbered k (suc m ∷ marks) (suc i) c =
    let (j, h, e) = marked-numbered (suc k) marks i c in
    (suc j, omega arith, omega (arith, e))

-- Numbers made into marks and read back are the numbers.
pub numbers-back : (numbers : List ℕ) → Proposal 255 numbers → numbers_of (marks_of numbers) ≡ numbers
unfolding numbers_of
numbers-back numbers p = lists-unique {P = In numbers} read given
  where
    marks : List ℕ
    marks = marks_of numbers

    given : Lists (In numbers) numbers
    given = record { rises = p.rising; sound = λ j h. (j, h, refl); whole = λ s w. w }

    sound : (j : ℕ) → j < length (numbers_from 0 marks) → In numbers (get_or (numbers_from 0 marks) j 0)
    sound j h =
        let (i, e, c) = numbered-marked 0 marks j h in
        let there : suc i ≡ get_or (numbers_from 0 marks) j 0 = omega (arith, e) in
        subst (In numbers) there (marked-proposed numbers p i c)

    whole : (s : ℕ) → In numbers s → In (numbers_from 0 marks) s
    whole s (j, h, e) =
        let one = proposed-marked numbers p j h in
        let back : suc (0 + (get_or numbers j 0 - 1)) ≡ s = omega (arith, e, p.least j h) in
        subst (In (numbers_from 0 marks)) back (marked-numbered 0 marks (get_or numbers j 0 - 1) (λ z. omega (arith, z, one)))

    read : Lists (In numbers) (numbers_from 0 marks)
    read = record { rises = from-rising 0 marks; sound = sound; whole = whole }

-- ---- from numbers to rules

-- What the marks pick is, place by place, what the numbers name; and there is as much of it, where no mark stands past the last.
picked-at : {A : Type 0} (d : A) (k : ℕ) (marks : List ℕ) (l : List A) (j : ℕ) → j < length (numbers_from k marks)
    → get_or (picked marks l) j d ≡ get_or l (get_or (numbers_from k marks) j 0 - suc k) d
unfolding picked numbers_from
picked-at d k [] l j h = absurd (omega arith)
picked-at d k (zero ∷ marks) [] j h = refl
picked-at d k (suc m ∷ marks) [] j h = refl
picked-at d k (zero ∷ marks) (x ∷ xs) j h =
    let above = from-above (suc k) marks j h in
    let n : ℕ = get_or (numbers_from (suc k) marks) j 0 in
    let e : suc (n - suc (suc k)) ≡ n - suc k = omega (arith, above) in
    picked-at d (suc k) marks xs j h ∙ ap (λ (i : ℕ). get_or (x ∷ xs) i d) e
picked-at d k (suc m ∷ marks) (x ∷ xs) zero h =
    let e : 0 ≡ suc k - suc k = omega arith in
    ap (λ (i : ℕ). get_or (x ∷ xs) i d) e
picked-at d k (suc m ∷ marks) (x ∷ xs) (suc j) h =
    let inside : j < length (numbers_from (suc k) marks) = omega arith in
    let above = from-above (suc k) marks j inside in
    let n : ℕ = get_or (numbers_from (suc k) marks) j 0 in
    let e : suc (n - suc (suc k)) ≡ n - suc k = omega (arith, above) in
    picked-at d (suc k) marks xs j inside ∙ ap (λ (i : ℕ). get_or (x ∷ xs) i d) e

picked-count : {A : Type 0} (k : ℕ) (marks : List ℕ) (l : List A) → ((i : ℕ) → Chosen i marks → i < length l)
    → length (picked marks l) ≡ length (numbers_from k marks)
unfolding picked numbers_from
picked-count k [] [] within = refl
picked-count k [] (x ∷ xs) within = refl
picked-count {A} k (zero ∷ marks) [] within = picked-count {A = A} (suc k) marks [] (λ i c. absurd (omega (arith, within (suc i) c)))
picked-count k (suc m ∷ marks) [] within = absurd (omega (arith, within 0 (λ e. omega (arith, e))))
picked-count k (zero ∷ marks) (x ∷ xs) within = picked-count (suc k) marks xs (λ i c. omega (arith, within (suc i) c))
picked-count k (suc m ∷ marks) (x ∷ xs) within = ap suc (picked-count (suc k) marks xs (λ i c. omega (arith, within (suc i) c)))

-- The step rules that a proposal leaves in the sheet are those with its numbers, in its order: number 1 names the first. (Byte 6 is at most
-- 255 in every sheet that can be handed in.)
pub rules-by-number : (sheet numbers : List ℕ) → get_or sheet 6 0 ≤ 255 → Proposal (get_or sheet 6 0) numbers
    → (length (only_chosen (marks_of numbers) (decode sheet)).steps ≡ length numbers)
    × ((j : ℕ) (d : StepRule) → j < length numbers
    → get_or (only_chosen (marks_of numbers) (decode sheet)).steps j d ≡ get_or (decode sheet).steps (get_or numbers j 0 - 1) d)
unfolding only_chosen numbers_of byte
rules-by-number sheet numbers few p = (
  picked-count 0 (marks_of numbers) (decode sheet).steps within ∙ ap length back,
  λ j d h.
      let inside : j < length (numbers_from 0 (marks_of numbers)) = omega (arith, h, ap length back) in
      picked-at d 0 (marks_of numbers) (decode sheet).steps j inside
      ∙ ap (λ (l : List ℕ). get_or (decode sheet).steps (get_or l j 0 - 1) d) back,
)
  where
    wide : Proposal 255 numbers
    wide = proposal-wider few p

    back : numbers_from 0 (marks_of numbers) ≡ numbers
    back = numbers-back numbers wide

    within : (i : ℕ) → Chosen i (marks_of numbers) → i < length (decode sheet).steps
    within i c =
        let (j, h, e) = marked-proposed numbers wide i c in
        omega (arith, e, p.most j h, steps-count sheet)
