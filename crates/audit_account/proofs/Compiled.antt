-- Carrying an account on by a sheet's own book is carrying it on by the sheet (book-carried). The rules counted by number are the rules of
-- the list in their order (first-by-number, more-by-number). Assumes nothing.
use mathlib.Core.Path.{◌≡◌, refl, sym, ◌∙◌, ap, ap₂}
use mathlib.Core.Bool.{Bool, true, false, cond, not, ◌&&◌, ◌||◌}
use mathlib.Core.List.{List, [], ◌∷◌}
use Prim.Native.Nat.{ℕ, zero, suc, ◌+◌, ◌<◌}
use native.Mathlib.Decide.{ℕ_discrete}
use native.Mathlib.Omega.{arith}
use borrow.Author.Tests.{eq-eqb, ne_eqb}
use lib.Dec.{eqb}
use lib.ListN.{length, get_or}
use Rattle.meaning.specs.Sheet.{Sheet, StepRule, step_of}
use Rattle.meaning.specs.Rules.{lawful, first_state, all_literals_true, some_literal_true, step_holds}
use Rattle.rules.specs.Book.{steps_of}
use Rattle.compile.specs.Promise.{BookOf, rule_of}
use Rattle.audit_account.specs.Account.{Account, nothing, unlawful, broke_first, broke_step, first_broken, first_is, next_is, rule_is}
use Rattle.audit_account.specs.Carry.{is_next, breaks_next, is_breach, one_more_of, keeps_next, breaks_rule, noted, carried}
use Rattle.audit_account.specs.Book.{kept_by, broken_by, bumped, first_of, book_is, book_broke, book_breaks, book_tallies, is_first, rule_told}
use Rattle.audit_account.specs.Book.{book_noted, book_carried}
use Rattle.audit_account.proofs.Tallies.{bumped-nothing, bumped-front}

-- ---- the first rule broken

-- a number counted from i on; 0 stays 0
abbrev shift : ℕ → ℕ → ℕ
shift i r = cond (eqb r 0) 0 (i + r)

shift_none : (i r : ℕ) → r ≡ 0 → shift i r ≡ 0
shift_none i r e = ap (λ (b : Bool). cond b 0 (i + r)) (eq-eqb r 0 e)

shift-some : (i r : ℕ) → (r ≡ 0 → ⊥) → shift i r ≡ i + r
shift-some i r n = ap (λ (b : Bool). cond b 0 (i + r)) (ne_eqb r 0 n)

shift-twice : (i r : ℕ) → shift (suc i) r ≡ shift i (shift 1 r)
shift-twice i r = by (eqb r 0)
  where
    by : (z : Bool) → cond z 0 (suc i + r) ≡ shift i (cond z 0 (1 + r))
    by true = refl
    by false = (let s : suc i + r ≡ i + (1 + r) = omega arith in s) ∙ sym (shift-some i (1 + r) (λ x. omega arith))

-- The first of the numbers from 0 on is 0's, or the first of those from 1 on.
first-front : (f : ℕ → Bool) (n : ℕ) → first_of f (suc n) ≡ cond (f 0) 1 (shift 1 (first_of (λ i. f (suc i)) n))
unfolding first_of
first-front f zero = refl
first-front f (suc n) =
    ap (λ (x : ℕ). cond (eqb x 0) (cond (f (suc n)) (suc (suc n)) 0) x) (first-front f n) ∙ by (f 0) (f (suc n)) (eqb later 0) refl
  where
    later : ℕ
    later = first_of (λ i. f (suc i)) n

    by : (b c z : Bool) → eqb later 0 ≡ z
        → cond (eqb (cond b 1 (cond z 0 (1 + later))) 0) (cond c (suc (suc n)) 0) (cond b 1 (cond z 0 (1 + later)))
        ≡ cond b 1 (shift 1 (cond z (cond c (suc n) 0) later))
    by true c z e = refl
    by false true true e = sym (shift-some 1 (suc n) (λ x. omega arith) ∙ (let s : 1 + suc n ≡ suc (suc n) = omega arith in s))
    by false false true e = refl
    by false c false e =
        ap (λ (b : Bool). cond b (cond c (suc (suc n)) 0) (1 + later)) (ne_eqb (1 + later) 0 (λ x. omega arith))
        ∙ sym (ap (λ (b : Bool). cond b 0 (1 + later)) e)

-- The first rule of a list that a step breaks is the first number whose rule it breaks.
first-by-number : (s t i : ℕ) (rules : List StepRule) (f : ℕ → Bool)
    → ((k : ℕ) → k < length rules → f k ≡ not (step_holds s t (get_or rules k (step_of []))))
    → first_broken s t (suc i) rules ≡ shift i (first_of f (length rules))
unfolding first_broken first_of
first-by-number s t i [] f same = refl
first-by-number s t i (rule ∷ rules) f same =
    let front = first-front f (length rules) in
    by (step_holds s t rule) (f 0) (same 0 (omega arith)) (first-by-number s t (suc i) rules (λ k. f (suc k))
    (λ k h. same (suc k) (omega arith)))
    ∙ sym (ap (shift i) front)
  where
    by : (holds broke : Bool) → broke ≡ not holds
        → first_broken s t (suc (suc i)) rules ≡ shift (suc i) (first_of (λ k. f (suc k)) (length rules))
        → cond holds (first_broken s t (suc (suc i)) rules) (suc i) ≡ shift i
        (cond broke 1 (shift 1 (first_of (λ k. f (suc k)) (length rules))))
    by true broke e rest =
        rest ∙ shift-twice i (first_of (λ k. f (suc k)) (length rules))
        ∙ sym (ap (λ (b : Bool). shift i (cond b 1 (shift 1 (first_of (λ k. f (suc k)) (length rules))))) e)
    by false broke e rest =
        (let s : suc i ≡ i + 1 = omega arith in s)
        ∙ sym (ap (λ (b : Bool). shift i (cond b 1 (shift 1 (first_of (λ k. f (suc k)) (length rules))))) e)

-- ---- tallies

-- One more for each number whose rule passes is one more for each rule that passes.
more-by-number : (rules : List StepRule) (f : ℕ → Bool) (test : StepRule → Bool)
    → ((k : ℕ) → k < length rules → f k ≡ test (get_or rules k (step_of []))) → (l : List ℕ) → bumped 1 f (length rules) l
    ≡ one_more_of test rules l
unfolding bumped one_more_of
more-by-number [] f test same l = refl
more-by-number (rule ∷ rules) f test same [] = bumped-nothing 1 f (suc (length rules))
more-by-number (rule ∷ rules) f test same (x ∷ l) =
    bumped-front 1 f (length rules) x l
    ∙ ap₂ (λ (b : Bool) (m : List ℕ). (x + cond b 1 0) ∷ m) (same 0 (omega arith))
    (more-by-number rules (λ k. f (suc k)) test (λ k h. same (suc k) (omega arith)) l)

-- ---- a sheet's own book

module _ {sheet : Sheet} {book : List ℕ} (of : BookOf sheet book) where
  kept-is-rule : (s t k : ℕ) → k < length sheet.steps
      → kept_by book s t k ≡ (all_literals_true s (rule_of sheet k).left && some_literal_true t (rule_of sheet k).right)
  unfolding kept_by
  kept-is-rule s t k h =
      let within : k < steps_of book = omega (arith, of.steps_is) in
      ap₂ (λ (a b : Bool). a && b) (of.left_is k s within) (of.right_is k t within)

  broken-is-rule : (s t k : ℕ) → k < length sheet.steps
      → broken_by book s t k ≡ (all_literals_true s (rule_of sheet k).left && not (some_literal_true t (rule_of sheet k).right))
  unfolding broken_by
  broken-is-rule s t k h =
      let within : k < steps_of book = omega (arith, of.steps_is) in
      ap₂ (λ (a b : Bool). a && not b) (of.left_is k s within) (of.right_is k t within)

  -- A rule is broken exactly where it does not hold.
  broken-fails : (s t k : ℕ) → k < length sheet.steps → broken_by book s t k ≡ not (step_holds s t (rule_of sheet k))
  unfolding step_holds
  broken-fails s t k h = broken-is-rule s t k h ∙ by (all_literals_true s (rule_of sheet k).left) (some_literal_true t (rule_of sheet k).right)
    where
      by : (a b : Bool) → (a && not b) ≡ not (not a || b)
      by true b = refl
      by false b = refl

  first-broken-is : (s t : ℕ) → book_broke book s t ≡ first_broken s t 1 sheet.steps
  unfolding book_broke
  first-broken-is s t =
      ap (first_of (broken_by book s t)) of.steps_is
      ∙ sym (first-by-number s t 0 sheet.steps (broken_by book s t) (broken-fails s t)
      ∙ zero-shift (first_of (broken_by book s t) (length sheet.steps)))
    where
      zero-shift : (r : ℕ) → shift 0 r ≡ r
      zero-shift r = by (ℕ_discrete r 0)
        where
          by : Dec (r ≡ 0) → shift 0 r ≡ r
          by (yes e) = shift_none 0 r e ∙ sym e
          by (no n) = shift-some 0 r n ∙ (let z : 0 + r ≡ r = omega arith in z)

  -- what the next state is, and the rule that it breaks
  is-next-is : (account : Account) (t : ℕ) → book_is book account.count (book_breaks book account t) t ≡ is_next sheet account t
  unfolding book_is book_breaks is_next first_is next_is
  is-next-is account t =
      ap₂ (λ (l f : Bool). is l f (book_broke book account.last t)) (of.lawful_is t) (of.first-is t)
      ∙ ap (is (lawful sheet t) (first_state sheet t)) (first-broken-is account.last t)
      ∙ by (eqb account.count 0) (lawful sheet t)
    where
      is : (l f : Bool) → ℕ → ℕ
      is l f b =
          cond l (cond (eqb account.count 0) (cond f nothing broke_first)
          (cond (not (eqb account.count 0) && not (eqb b 0)) broke_step nothing))
          unlawful

      b' : ℕ
      b' = first_broken account.last t 1 sheet.steps

      flip : (z : Bool) → cond (not z) broke_step nothing ≡ cond z nothing broke_step
      flip true = refl
      flip false = refl

      by : (n l : Bool)
          → cond l (cond n (cond (first_state sheet t) nothing broke_first) (cond (not n && not (eqb b' 0)) broke_step nothing)) unlawful
          ≡ cond n (cond l (cond (first_state sheet t) nothing broke_first) unlawful) (cond l (cond (eqb b' 0) nothing broke_step) unlawful)
      by true true = refl
      by true false = refl
      by false true = flip (eqb b' 0)
      by false false = refl

  rule-told-is : (account : Account) (t : ℕ)
      → rule_told (book_is book account.count (book_breaks book account t) t) (book_broke book account.last t) ≡ breaks_next sheet
      account t
  unfolding rule_told breaks_next rule_is is_next first_is
  rule-told-is account t =
      ap₂ (λ (x b : ℕ). cond (eqb x broke_step) b 0) (is-next-is account t) (first-broken-is account.last t)
      ∙ by (eqb account.count 0) (lawful sheet t) (first_state sheet t)
    where
      by : (n l f : Bool)
          → cond (eqb (cond n (cond l (cond f nothing broke_first) unlawful) (next_is sheet account.last t)) broke_step)
          (first_broken account.last t 1 sheet.steps) 0
          ≡ cond n 0 (cond (eqb (next_is sheet account.last t) broke_step) (first_broken account.last t 1 sheet.steps) 0)
      by true true true = refl
      by true true false = refl
      by true false f = refl
      by false l f = refl

  -- the tallies
  tallies-are : (account : Account) (t : ℕ) (g : StepRule → ℕ → ℕ → Bool) (f : ℕ → ℕ → ℕ → Bool)
      → ((s u k : ℕ) → k < length sheet.steps → f s u k ≡ g (rule_of sheet k) s u) → (l : List ℕ)
      → book_tallies f book account t 1 l ≡ one_more_of (λ rule. not (eqb account.count 0) && g rule account.last t) sheet.steps l
  unfolding book_tallies one_more_of
  tallies-are account t g f same l = by (eqb account.count 0)
    where
      nobody : (rules : List StepRule) (l : List ℕ) → one_more_of (λ rule. false) rules l ≡ l
      nobody [] l = refl
      nobody (rule ∷ rules) [] = refl
      nobody (rule ∷ rules) (x ∷ l) = ap₂ ◌∷◌ (let e : x + 0 ≡ x = omega arith in e) (nobody rules l)

      by : (n : Bool) → cond n l (bumped 1 (f account.last t) (steps_of book) l) ≡ one_more_of (λ rule. not n && g rule account.last t)
          sheet.steps l
      by true = sym (nobody sheet.steps l)
      by false =
          ap (λ (m : ℕ). bumped 1 (f account.last t) m l) of.steps_is
          ∙ more-by-number sheet.steps (f account.last t) (λ rule. g rule account.last t) (same account.last t) l

  -- One state more.
  pub book-noted : (account : Account) (t : ℕ) → book_noted book account t 1 ≡ noted sheet account t
  unfolding book_noted noted is_first is_breach keeps_next breaks_rule
  book-noted account t =
      let one : account.count + 1 ≡ suc account.count = omega arith in
      let is = is-next-is account t in
      let rule = rule-told-is account t in
      let kept = tallies-are account t (λ rule s u. all_literals_true s rule.left && some_literal_true u rule.right) (kept_by book) kept-is-rule
      account.kept in
      let broken = tallies-are account t (λ rule s u. all_literals_true s rule.left && not (some_literal_true u rule.right))
      (broken_by book) broken-is-rule
      account.broken in
      λ i. record {
        count = one i;
        last = t;
        what = cond (eqb account.what nothing && not (eqb (is i) nothing)) (is i) account.what;
        moment = cond (eqb account.what nothing && not (eqb (is i) nothing)) account.count account.moment;
        rule = cond (eqb account.what nothing && not (eqb (is i) nothing)) (rule i) account.rule;
        kept = kept i;
        broken = broken i;
      }

-- A whole piece.
pub book-carried : {sheet : Sheet} {book : List ℕ} → BookOf sheet book → (account : Account) (piece : List ℕ)
    → book_carried book account piece ≡ carried sheet account piece
unfolding book_carried carried
book-carried of account [] = refl
book-carried {sheet} {book} of account (t ∷ piece) =
    book-carried of (book_noted book account t 1) piece ∙ ap (λ (a : Account). carried sheet a piece) (book-noted of account t)
