-- The tallies of one and the same move, made `times` times, rule by rule: what one rule adds (rule-tallied), what the next rule adds to
-- those before it (tallied-none, tallied-next), that places not reached yet are as they were (bumped-above), that no tally grows by more
-- than `times` (bumped-within, moved-within), and that moves counted one after the other are the moves counted at once (bumped-twice). The
-- first rule broken is found by looking for it (first-is). Assumes nothing.
use mathlib.Core.Path.{◌≡◌, refl, sym, ◌∙◌, ap, ap₂, subst}
use mathlib.Core.Bool.{Bool, true, false, cond, not, ◌&&◌, ◌||◌}
use mathlib.Core.List.{List, [], ◌∷◌}
use Prim.Native.Nat.{ℕ, zero, suc, ◌+◌, ◌≤◌, ◌<◌}
use native.Mathlib.Decide.{ℕ_discrete, dec_lt}
use native.Mathlib.Omega.{arith}
use borrow.Author.Tests.{eq-eqb, ne_eqb}
use lib.Dec.{eqb}
use lib.ListN.{length, get_or, set}
use lib.Seq.{get_or-set_same, get_or-set_other, set_out}
use Rattle.rules.specs.Book.{all_at, some_at, step_at, right_at, steps_of}
use Rattle.audit_account.specs.Account.{Account, most_tallies}
use Rattle.audit_account.specs.Carry.{most_moments}
use Rattle.audit_account.specs.Book.{kept_by, broken_by, bump, bumped, first_of, book_broke, book_breaks, book_tallies, Within, Ruled}
use Rattle.audit_account.specs.Book.{Tallied}
use Rattle.audit_account.specs.Book.{most_tally, Moved}

-- What one rule adds: to the kept moves, to the broken ones, or nothing.
pub rule-tallied : (book : List ℕ) (s t times i : ℕ) (kept broken : List ℕ) (asks allows : Bool) (more-kept more-broken : ℕ)
    → asks ≡ all_at book (step_at i) s → allows ≡ some_at book (right_at i) t → more-kept ≡ cond (asks && allows) times 0
    → more-broken ≡ cond (asks && not allows) times 0
    → Ruled book s t times i kept broken (set kept i (get_or kept i 0 + more-kept)) (set broken i (get_or broken i 0 + more-broken))
    (asks && not allows)
unfolding kept_by broken_by bump
rule-tallied book s t times i kept broken asks allows more-kept more-broken a b m x =
    let keeps : asks && allows ≡ kept_by book s t i = ap₂ (λ (x y : Bool). x && y) a b in
    let breaks : asks && not allows ≡ broken_by book s t i = ap₂ (λ (x y : Bool). x && not y) a b in
    record {
      says = breaks;
      keeps = ap (λ (n : ℕ). set kept i (get_or kept i 0 + n)) (m ∙ ap (λ (y : Bool). cond y times 0) keeps);
      breaks = ap (λ (n : ℕ). set broken i (get_or broken i 0 + n)) (x ∙ ap (λ (y : Bool). cond y times 0) breaks);
    }

-- ---- all rules below n

-- Places from n on are as they were.
pub bumped-above : (times : ℕ) (test : ℕ → Bool) (n : ℕ) (l : List ℕ) (i : ℕ) → n ≤ i → get_or (bumped times test n l) i 0 ≡ get_or l i 0
unfolding bumped bump
bumped-above times test zero l i h = refl
bumped-above times test (suc n) l i h =
    get_or-set_other (bumped times test n l) n i _ 0 (λ e. omega arith) ∙ bumped-above times test n l i (omega arith)

counted-within : (b : Bool) (times : ℕ) → cond b times 0 ≤ times
counted-within true times = omega arith
counted-within false times = omega arith

-- No tally grows by more than `times`.
pub bumped-within : (times : ℕ) (test : ℕ → Bool) (n : ℕ) (l : List ℕ) (i : ℕ) → get_or (bumped times test n l) i 0 ≤ get_or l i 0 + times
unfolding bumped bump
bumped-within times test zero l i = omega arith
bumped-within times test (suc n) l i = by (ℕ_discrete i n) (dec_lt n (length (bumped times test n l))) (bumped-within times test n l i)
  where
    by : Dec (i ≡ n) → Dec (n < length (bumped times test n l)) → get_or (bumped times test n l) i 0 ≤ get_or l i 0 + times
        → get_or (bumped times test (suc n) l) i 0 ≤ get_or l i 0 + times
    by (yes e) (yes h) before =
        subst (λ (k : ℕ). get_or (bumped times test (suc n) l) k 0 ≤ get_or l k 0 + times) (sym e)
        (omega (
          arith,
          get_or-set_same (bumped times test n l) n (get_or (bumped times test n l) n 0 + cond (test n) times 0) 0 h,
          bumped-above times test n l n (omega arith),
          counted-within (test n) times,
        ))
    by (yes e) (no h) before =
        let same = set_out (bumped times test n l) n (get_or (bumped times test n l) n 0 + cond (test n) times 0) (omega arith) in
        subst (λ (m : List ℕ). get_or m i 0 ≤ get_or l i 0 + times) (sym same) before
    by (no e) d before =
        let other = get_or-set_other (bumped times test n l) n i (get_or (bumped times test n l) n 0 + cond (test n) times 0) 0 e in
        omega (arith, other, before)

-- Tallies within b are within b + times afterwards.
pub within_more : (times : ℕ) (test : ℕ → Bool) (n b : ℕ) (l : List ℕ) → Within b l → Within (b + times) (bumped times test n l)
within_more times test n b l w = record { within = λ i h. omega (arith, bumped-within times test n l i, w.within i h) }

-- The place in front, and the others.
pub bumped-nothing : (times : ℕ) (f : ℕ → Bool) (n : ℕ) → bumped times f n [] ≡ []
unfolding bumped bump
bumped-nothing times f zero = refl
bumped-nothing times f (suc n) = ap (λ (l : List ℕ). bump times l n (f n)) (bumped-nothing times f n)

pub bumped-front : (times : ℕ) (f : ℕ → Bool) (n x : ℕ) (l : List ℕ)
    → bumped times f (suc n) (x ∷ l) ≡ (x + cond (f 0) times 0) ∷ bumped times (λ i. f (suc i)) n l
unfolding bumped bump
bumped-front times f zero x l = refl
bumped-front times f (suc n) x l = ap (λ (m : List ℕ). bump times m (suc n) (f (suc n))) (bumped-front times f n x l)

-- Moves counted one after the other are the moves counted at once.
pub bumped-twice : (many more : ℕ) (f : ℕ → Bool) (n : ℕ) (l : List ℕ) → bumped more f n (bumped many f n l) ≡ bumped (many + more) f n l
unfolding bumped
bumped-twice many more f zero l = refl
bumped-twice many more f (suc n) [] =
    ap (bumped more f (suc n)) (bumped-nothing many f (suc n)) ∙ bumped-nothing more f (suc n)
    ∙ sym (bumped-nothing (many + more) f (suc n))
bumped-twice many more f (suc n) (x ∷ l) =
    ap (bumped more f (suc n)) (bumped-front many f n x l)
    ∙ bumped-front more f n (x + cond (f 0) many 0) (bumped many (λ i. f (suc i)) n l)
    ∙ ap₂ ◌∷◌ (sums (f 0)) (bumped-twice many more (λ i. f (suc i)) n l)
    ∙ sym (bumped-front (many + more) f n x l)
  where
    sums : (b : Bool) → x + cond b many 0 + cond b more 0 ≡ x + cond b (many + more) 0
    sums true = omega arith
    sums false = omega arith

-- ---- the first rule broken

-- The first number that passes is the first below any bound above it.
pub first-is : (test : ℕ → Bool) (i n : ℕ) → first_of test i ≡ 0 → test i ≡ true → i < n → suc i ≡ first_of test n
unfolding first_of
first-is test i zero none here h = absurd (omega arith)
first-is test i (suc n) none here h = by (ℕ_discrete i n) (λ k. first-is test i n none here k)
  where
    by : Dec (i ≡ n) → (i < n → suc i ≡ first_of test n) → suc i ≡ first_of test (suc n)
    by (yes e) below =
        ap suc e
        ∙ sym (ap₂ (λ (z b : Bool). cond z (cond b (suc n) 0) (first_of test n))
        (eq-eqb (first_of test n) 0 (ap (first_of test) (sym e) ∙ none)) (ap test (sym e) ∙ here))
    by (no e) below =
        let before : suc i ≡ first_of test n = below (omega arith) in
        before ∙ sym (ap (λ (z : Bool). cond z (cond (test n) (suc n) 0) (first_of test n)) (ne_eqb (first_of test n) 0 (λ z. omega arith)))

pub first-none : (test : ℕ → Bool) (i : ℕ) → first_of test i ≡ 0 → test i ≡ false → first_of test (i + 1) ≡ 0
unfolding first_of
first-none test i none not-here =
    let one : i + 1 ≡ suc i = omega arith in
    ap (first_of test) one
    ∙ ap₂ (λ (z b : Bool). cond z (cond b (suc i) 0) (first_of test i)) (eq-eqb (first_of test i) 0 none) not-here

-- There is one among the first n + 1 where there is one among the first n, or the next is one.
some_next : (first n : ℕ) (r : Bool) → (not (eqb first 0) || r) ≡ not (eqb (cond (eqb first 0) (cond r (suc n) 0) first) 0)
some_next first n r = by (eqb first 0) refl r
  where
    by : (z : Bool) → eqb first 0 ≡ z → (r : Bool) → (not z || r) ≡ not (eqb (cond z (cond r (suc n) 0) first) 0)
    by true e true = sym (ap not (ne_eqb (suc n) 0 (λ x. omega arith)))
    by true e false = refl
    by false e r = sym (ap not e)

-- ---- the loop over the rules

pub tallied-none : (book : List ℕ) (s t times : ℕ) (kept broken : List ℕ) → Tallied book s t times 0 kept broken kept broken false
unfolding bumped first_of
tallied-none book s t times kept broken = record { says = refl; keeps = refl; breaks = refl }

pub tallied-next : (book : List ℕ) (s t times n : ℕ) (kept broken kept' broken' kept'' broken'' : List ℕ) (some r : Bool)
    → Tallied book s t times n kept broken kept' broken' some → Ruled book s t times n kept' broken' kept'' broken'' r
    → Tallied book s t times (n + 1) kept broken kept'' broken'' (some || r)
unfolding bumped first_of
tallied-next book s t times n kept broken kept' broken' kept'' broken'' some r before rule =
    let one : suc n ≡ n + 1 = omega arith in
    subst (λ (m : ℕ). Tallied book s t times m kept broken kept'' broken'' (some || r)) one
    (record {
      says = ap₂ (λ (x y : Bool). x || y) before.says rule.says ∙ some_next (first_of (broken_by book s t) n) n (broken_by book s t n);
      keeps = rule.keeps ∙ ap (λ (l : List ℕ). bump times l n (kept_by book s t n)) before.keeps;
      breaks = rule.breaks ∙ ap (λ (l : List ℕ). bump times l n (broken_by book s t n)) before.breaks;
    })

pub tallied-all : {book : List ℕ} {s t times m n : ℕ} {kept broken kept' broken' : List ℕ} {some : Bool}
    → Tallied book s t times m kept broken kept' broken' some → m ≡ n → Tallied book s t times n kept broken kept' broken' some
tallied-all {book} {s} {t} {times} {m} {n} {kept} {broken} {kept'} {broken'} {some} all e =
    subst (λ (k : ℕ). Tallied book s t times k kept broken kept' broken' some) e all

-- The place of the next rule has not been counted at yet, and `times` more fit.
pub place-fits : (book : List ℕ) (s t times n : ℕ) (kept broken kept' broken' : List ℕ) (some : Bool) → times ≤ most_moments
    → Within (most_moments + most_moments) kept → Within (most_moments + most_moments) broken
    → Tallied book s t times n kept broken kept' broken' some
    → n < most_tallies → (get_or kept' n 0 + times ≤ most_tally) × (get_or broken' n 0 + times ≤ most_tally)
place-fits book s t times n kept broken kept' broken' some few-times k b before few =
    (one kept kept' (kept_by book s t) k before.keeps, one broken broken' (broken_by book s t) b before.breaks)
  where
    one : (l l' : List ℕ) (test : ℕ → Bool) → Within (most_moments + most_moments) l → l' ≡ bumped times test n l
        → get_or l' n 0 + times ≤ most_tally
    one l l' test w e =
        let same : get_or l' n 0 ≡ get_or l n 0 = ap (λ (x : List ℕ). get_or x n 0) e ∙ bumped-above times test n l n (omega arith) in
        omega (arith, w.within n few)

-- ---- the move into a state

-- The tallies and the test of a breach, by whether there were states before.
moved_by : (book : List ℕ) (account : Account) (t times : ℕ) (kept broken : List ℕ) (broke none : Bool) → eqb account.count 0 ≡ none
    → broke ≡ (not none && not (eqb (book_broke book account.last t) 0))
    → kept ≡ cond none account.kept (bumped times (kept_by book account.last t) (steps_of book) account.kept)
    → broken ≡ cond none account.broken (bumped times (broken_by book account.last t) (steps_of book) account.broken)
    → Moved book account t times kept broken broke
unfolding book_breaks book_tallies
moved_by book account t times kept broken broke none e says keeps breaks = record {
  says = says ∙ sym (ap (λ (b : Bool). not b && not (eqb (book_broke book account.last t) 0)) e);
  keeps = keeps ∙ sym (ap (λ (b : Bool). cond b account.kept (bumped times (kept_by book account.last t) (steps_of book)
      account.kept)) e);
  breaks = breaks ∙ sym (ap (λ (b : Bool). cond b account.broken (bumped times (broken_by book account.last t) (steps_of book)
      account.broken)) e);
}

-- A log's first state is no move.
pub moved-first : (book : List ℕ) (account : Account) (t times : ℕ) → account.count ≡ 0 → Moved book account t times account.kept
    account.broken false
moved-first book account t times none =
    moved_by book account t times account.kept account.broken false true (eq-eqb account.count 0 none) refl refl refl

-- Any other is counted for every rule.
pub moved_on : (book : List ℕ) (account : Account) (t times : ℕ) (kept broken : List ℕ) (some : Bool) → (account.count ≡ 0 → ⊥)
    → Tallied book account.last t times (steps_of book) account.kept account.broken kept broken some
    → Moved book account t times kept broken some
unfolding book_broke
moved_on book account t times kept broken some later all =
    moved_by book account t times kept broken some false (ne_eqb account.count 0 later) all.says all.keeps all.breaks

-- Tallies within b are within b + times after such moves.
pub moved-within : (book : List ℕ) (account : Account) (t times b : ℕ) (kept broken : List ℕ) (broke : Bool)
    → Moved book account t times kept broken broke
    → Within b account.kept → Within b account.broken → Within (b + times) kept × Within (b + times) broken
unfolding book_tallies
moved-within book account t times b kept broken broke m k x =
    (one (kept_by book) account.kept kept k m.keeps, one (broken_by book) account.broken broken x m.breaks)
  where
    by : (c : Bool) (test : ℕ → Bool) (l : List ℕ) → Within b l → Within (b + times) (cond c l (bumped times test (steps_of book) l))
    by true test l w = record { within = λ i h. omega (arith, w.within i h) }
    by false test l w = within_more times test (steps_of book) b l w

    one : (test : ℕ → ℕ → ℕ → Bool) (l l' : List ℕ) → Within b l → l' ≡ book_tallies test book account t times l → Within (b + times) l'
    one test l l' w e = subst (Within (b + times)) (sym e) (by (eqb account.count 0) (test account.last t) l w)
