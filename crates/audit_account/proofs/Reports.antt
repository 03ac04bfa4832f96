-- What an account tells of a log, in the order's own sentences. Place i of the tallies is step rule i + 1's, and kept plus broken there is
-- the number of moves whose earlier state made its left side true (rule-tallies); places past the sheet's rules are 0 (no-rule-tallies).
-- The rule told is the first in the sheet that the move breaks (rule-told-first): the move into the told moment, and a rule is told then
-- alone (rule-told-exactly). Bits above n count nowhere in the tallies and step rules (high-bits-ignored). From the empty account on, calls
-- are all answered 0 exactly if the joined log has at most 1,000,000 moments (calls-exactly), so no cutting shows by a refusal. In a sample
-- run written out by the judge no breach is told (judged-run-no-breach). Assumes nothing.
use mathlib.Core.Path.{◌≡◌, refl, sym, ◌∙◌, ap, ap₂, subst}
use mathlib.Core.Logic.{◌⊎◌, inl, inr, ◌↔◌}
use mathlib.Core.Bool.{Bool, true, false, cond, not, ◌&&◌, ◌||◌}
use mathlib.Core.Option.{none}
use mathlib.Core.List.{List, [], ◌∷◌, ◌++◌, map, append_assoc, append-nil}
use Prim.Native.Nat.{ℕ, zero, suc, ◌+◌, ◌-◌, ◌/◌, ◌%◌, ◌^◌, ◌≤◌, ◌<◌}
use native.Mathlib.Nat.{zero-mod}
use native.Mathlib.Decide.{dec_lt, ℕ_discrete}
use native.Mathlib.Omega.{arith}
use borrow.Author.Tests.{lt-ltb, eq-eqb, ne_eqb}
use lib.Dec.{eqb, ltb}
use lib.ListN.{length, get_or, take, replicate, length-append}
use lib.Pow.{field, mod-mod-pow}
use Rattle.meaning.specs.Sheet.{Sheet, StepRule, positive, size, names, first_fault, decode, letters_in, body_at, after_at, steps_at, step_of}
use Rattle.meaning.specs.Rules.{holds, true_in, some_literal_true, all_literals_true, step_holds}
use Rattle.meaning.specs.Papers.{place}
use Rattle.meaning.specs.Promises.{system_in, Lent, Outcome, Judged}
use Rattle.meaning.proofs.Demands.{kept-hands-over, kept-run-accepted}
use Rattle.reader.specs.Header.{steps_in}
use Rattle.reader.proofs.Good.{names-letter, good-header, step-good, step-record, step-at, steps-count}
use Rattle.rules.specs.Book.{how_many}
use Rattle.rules.proofs.Counting.{same_count}
use Rattle.audit_account.specs.Account.{Account, AccountOf, most_tallies, nothing, first_broken, state_at, asks, keeps, breaks, moves_of}
use Rattle.audit_account.specs.Account.{tally_of, tallies_of, Breach, NoBreach, broke_step, next_is, rule_is, what_at, rule_at}
use Rattle.audit_account.specs.Carry.{carried, empty, most_moments, Past, done}
use Rattle.audit_account.proofs.Carrying.{carried-account, empty-account}
use Rattle.audit_account.proofs.Accounts.{zeros-at, kept-and-broken, clean-exactly, accepted-clean}
use Rattle.audit_account.proofs.Audits.{Calls, joined, zero-call, refused-by-length-only}

-- ---- the tallies of one rule

-- the sheet's step rule i + 1
abbrev rule_of : Sheet → ℕ → StepRule
rule_of sheet i = get_or sheet.steps i (step_of [])

tally-at : (f : StepRule → ℕ) (rules : List StepRule) (rest : List ℕ) (i : ℕ) → i < length rules
    → get_or (map f rules ++ rest) i 0 ≡ f (get_or rules i (step_of []))
tally-at f [] rest i h = absurd (omega arith)
tally-at f (rule ∷ rules) rest zero h = refl
tally-at f (rule ∷ rules) rest (suc i) h = tally-at f rules rest i (omega arith)

no-tally-at : (f : StepRule → ℕ) (rules : List StepRule) (n i : ℕ) → length rules ≤ i → get_or (map f rules ++ replicate n 0) i 0 ≡ 0
no-tally-at f [] n i h = zeros-at n i
no-tally-at f (rule ∷ rules) n zero h = absurd (omega arith)
no-tally-at f (rule ∷ rules) n (suc i) h = no-tally-at f rules n i (omega arith)

-- "how often its left side led to a kept move and how often to a broken one; kept plus broken equals the moves whose earlier state made
-- that left side true": of every step rule, at its own place.
pub rule-tallies : {sheet : Sheet} {log : List ℕ} {account : Account} → AccountOf sheet log account → (i : ℕ) → i < length sheet.steps
    → (get_or account.kept i 0 ≡ tally_of keeps log (rule_of sheet i)) × (get_or account.broken i 0 ≡ tally_of breaks log (rule_of sheet i))
    × (get_or account.kept i 0 + get_or account.broken i 0 ≡ tally_of asks log (rule_of sheet i))
unfolding tallies_of
rule-tallies {sheet} {log} {account} a i h =
    let kept = ap (λ (l : List ℕ). get_or l i 0) a.kept-is ∙ tally-at (tally_of keeps log) sheet.steps
    (replicate (most_tallies - length sheet.steps) 0) i h in
    let broken = ap (λ (l : List ℕ). get_or l i 0) a.broken-is ∙ tally-at (tally_of breaks log) sheet.steps
    (replicate (most_tallies - length sheet.steps) 0) i h in
    (kept, broken, ap₂ ◌+◌ kept broken ∙ kept-and-broken log (rule_of sheet i))

-- A rule that the sheet does not have has no tally.
pub no-rule-tallies : {sheet : Sheet} {log : List ℕ} {account : Account} → AccountOf sheet log account → (i : ℕ) → length sheet.steps ≤ i
    → (get_or account.kept i 0 ≡ 0) × (get_or account.broken i 0 ≡ 0)
unfolding tallies_of
no-rule-tallies {sheet} {log} {account} a i h = (
  ap (λ (l : List ℕ). get_or l i 0) a.kept-is ∙ no-tally-at (tally_of keeps log) sheet.steps (most_tallies - length sheet.steps) i h,
  ap (λ (l : List ℕ). get_or l i 0) a.broken-is ∙ no-tally-at (tally_of breaks log) sheet.steps (most_tallies - length sheet.steps) i
      h,
)

-- ---- the rule that is told

-- of these rules the step breaks rule k, counted from 0, and none before it
abbrev pub FirstAt : (s t : ℕ) (rules : List StepRule) (k : ℕ) → Type 0
FirstAt s t rules k = (k < length rules) × (step_holds s t (get_or rules k (step_of [])) ≡ false)
    × ((j : ℕ) → j < k → step_holds s t (get_or rules j (step_of [])) ≡ true)

-- A rule's number is above those before it.
told-above : (s t i : ℕ) (rules : List StepRule) → (first_broken s t (suc i) rules ≡ 0) ⊎ (suc i ≤ first_broken s t (suc i) rules)
unfolding first_broken
told-above s t i [] = inl refl
told-above s t i (rule ∷ rules) = by (step_holds s t rule) (told-above s t (suc i) rules)
  where
    by : (b : Bool) → (first_broken s t (suc (suc i)) rules ≡ 0) ⊎ (suc (suc i) ≤ first_broken s t (suc (suc i)) rules)
        → (cond b (first_broken s t (suc (suc i)) rules) (suc i) ≡ 0) ⊎ (suc i ≤ cond b (first_broken s t (suc (suc i)) rules) (suc i))
    by true (inl z) = inl z
    by true (inr h) = inr (omega arith)
    by false w = inr (omega arith)

-- "which (the first in the sheet)": the number told is i + k + 1 exactly if rule k of these is broken and none before it.
pub rule-told-first : (s t i : ℕ) (rules : List StepRule) (k : ℕ) → first_broken s t (suc i) rules ≡ suc (i + k) → FirstAt s t rules k
unfolding first_broken
rule-told-first s t i [] k e = absurd (omega (arith, e))
rule-told-first s t i (rule ∷ rules) k e = by (step_holds s t rule) refl k e (told-above s t (suc i) rules)
    (λ m q. rule-told-first s t (suc i) rules m q)
  where
    by : (b : Bool) → step_holds s t rule ≡ b → (k : ℕ) → cond b (first_broken s t (suc (suc i)) rules) (suc i) ≡ suc (i + k)
        → (first_broken s t (suc (suc i)) rules ≡ 0) ⊎ (suc (suc i) ≤ first_broken s t (suc (suc i)) rules)
        → ((m : ℕ) → first_broken s t (suc (suc i)) rules ≡ suc (suc i + m) → FirstAt s t rules m) → FirstAt s t (rule ∷ rules) k
    by false f zero q above rest = (omega arith, f, λ j h. absurd (omega arith))
    by false f (suc k) q above rest = absurd (omega (arith, q))
    by true f zero q (inl unbroken) rest = absurd (omega (arith, q))
    by true f zero q (inr high) rest = absurd (omega (arith, q))
    by true f (suc k) q above rest =
        let shifted : suc (i + suc k) ≡ suc (suc i + k) = omega arith in
        let (within, broken, before) = rest k (q ∙ shifted) in
        (omega arith, broken, each before)
      where
        each : ((j : ℕ) → j < k → step_holds s t (get_or rules j (step_of [])) ≡ true)
            → (j : ℕ) → j < suc k → step_holds s t (get_or (rule ∷ rules) j (step_of [])) ≡ true
        each before zero h = f
        each before (suc j) h = before j (omega arith)

first-broken : (s t i : ℕ) (rules : List StepRule) (k : ℕ) → FirstAt s t rules k → first_broken s t (suc i) rules ≡ suc (i + k)
unfolding first_broken
first-broken s t i [] k (within, broken, before) = absurd (omega arith)
first-broken s t i (rule ∷ rules) zero (within, broken, before) =
    let e : suc i ≡ suc (i + 0) = omega arith in
    ap (λ (b : Bool). cond b (first_broken s t (suc (suc i)) rules) (suc i)) broken ∙ e
first-broken s t i (rule ∷ rules) (suc k) (within, broken, before) =
    let e : suc (suc i + k) ≡ suc (i + suc k) = omega arith in
    ap (λ (b : Bool). cond b (first_broken s t (suc (suc i)) rules) (suc i)) (before 0 (omega arith))
    ∙ first-broken s t (suc i) rules k (omega arith, broken, λ j h. before (suc j) (omega arith)) ∙ e

-- the number of the first rule that a step breaks, of a sheet: rule r + 1 exactly if it breaks that one and none before it
pub broken-exactly : (s t r : ℕ) (rules : List StepRule) → (first_broken s t 1 rules ≡ suc r) ↔ FirstAt s t rules r
broken-exactly s t r rules =
    let e : suc r ≡ suc (0 + r) = omega arith in
    (λ p. rule-told-first s t 0 rules r (p ∙ e), λ f. first-broken s t 0 rules r f ∙ sym e)

-- "and which (the first in the sheet)": an account tells rule r + 1 exactly if it tells that a step rule was broken, and of the sheet's
-- rules the move into the moment told breaks rule r + 1 and none before it. Where it tells something else, or nothing, the rule is 0.
pub rule-told-exactly : {sheet : Sheet} {log : List ℕ} {account : Account} → AccountOf sheet log account → (r : ℕ)
    → (account.rule ≡ suc r)
    ↔ ((account.what ≡ 3) × (i : ℕ) × (account.moment ≡ suc i) × FirstAt (get_or log i 0) (get_or log (suc i) 0) sheet.steps r)
unfolding what_at rule_at rule_is state_at
rule-told-exactly {sheet} {log} {account} a r = by a.breach_is
  where
    Told : Type 0
    Told = (account.what ≡ 3) × (i : ℕ) × (account.moment ≡ suc i) × FirstAt (get_or log i 0) (get_or log (suc i) 0) sheet.steps r

    -- the rule of a step that is of this kind
    chosen : (is broke : ℕ) → cond (eqb is broke_step) broke 0 ≡ suc r → (is ≡ 3) × (broke ≡ suc r)
    chosen is broke e = pick (ℕ_discrete is broke_step)
      where
        pick : Dec (is ≡ broke_step) → (is ≡ 3) × (broke ≡ suc r)
        pick (yes q) = (q, sym (ap (λ (b : Bool). cond b broke 0) (eq-eqb is broke_step q)) ∙ e)
        pick (no q) =
            let z : 0 ≡ suc r = sym (ap (λ (b : Bool). cond b broke 0) (ne_eqb is broke_step q)) ∙ e in
            absurd (omega (arith, z))

    at : (m : ℕ) → account.moment ≡ m → account.what ≡ what_at sheet log m → account.rule ≡ rule_at sheet log m
        → (account.rule ≡ suc r) ↔ Told
    at zero em ew er = (
      λ e. let z : 0 ≡ suc r = sym er ∙ e in absurd (omega (arith, z)),
      λ (w, i, ei, f). let z : 0 ≡ suc i = sym em ∙ ei in absurd (omega (arith, z)),
    )
    at (suc i) em ew er = (to, from)
      where
        to : account.rule ≡ suc r → Told
        to e =
            let (is, broke) = chosen (next_is sheet (get_or log i 0) (get_or log (suc i) 0))
            (first_broken (get_or log i 0) (get_or log (suc i) 0) 1 sheet.steps) (sym er ∙ e) in
            (ew ∙ is, i, em, (broken-exactly (get_or log i 0) (get_or log (suc i) 0) r sheet.steps).0 broke)

        from : Told → account.rule ≡ suc r
        from (w, j, ej, f) =
            let same : i ≡ j = omega (arith, sym em ∙ ej) in
            let there : FirstAt (get_or log i 0) (get_or log (suc i) 0) sheet.steps r =
            subst (λ (k : ℕ). FirstAt (get_or log k 0) (get_or log (suc k) 0) sheet.steps r) (sym same) f in
            let is : next_is sheet (get_or log i 0) (get_or log (suc i) 0) ≡ broke_step = sym ew ∙ w in
            er ∙ ap (λ (b : Bool). cond b (first_broken (get_or log i 0) (get_or log (suc i) 0) 1 sheet.steps) 0)
            (eq-eqb (next_is sheet (get_or log i 0) (get_or log (suc i) 0)) broke_step is)
            ∙ (broken-exactly (get_or log i 0) (get_or log (suc i) 0) r sheet.steps).1 there

    by : Breach sheet log account.what account.moment account.rule ⊎ NoBreach sheet log account.what account.moment
        account.rule
        → (account.rule ≡ suc r) ↔ Told
    by (inl b) = at account.moment refl b.what_is b.rule-is
    by (inr n) = (
      λ e. let z : 0 ≡ suc r = sym n.no_rule ∙ e in absurd (omega (arith, z)),
      λ (w, i, ei, f). let z : ◌≡◌ {A = ℕ} 0 3 = sym n.no_what ∙ w in absurd (omega (arith, z)),
    )

-- ---- "bits above n are ignored"

-- Letter k, one of n, holds in a number exactly if it holds in its n low bits.
holds-low : (n s k : ℕ) → 1 ≤ k → k ≤ n → holds (s % 2 ^ n) k ≡ holds s k
unfolding holds
holds-low n s k low high =
    let j : ℕ = n - k in
    let parts : n ≡ suc j + (k - 1) = omega arith in
    let one : suc j ≡ j + 1 = omega arith in
    let shifted : s % 2 ^ n / 2 ^ (k - 1) ≡ s / 2 ^ (k - 1) % 2 ^ (j + 1) =
    ap (λ (m : ℕ). s % 2 ^ m / 2 ^ (k - 1)) parts ∙ field s (suc j) (k - 1) ∙ ap (λ (m : ℕ). s / 2 ^ (k - 1) % 2 ^ m) one in
    let bit : s % 2 ^ n / 2 ^ (k - 1) % 2 ≡ s / 2 ^ (k - 1) % 2 = ap (λ (x : ℕ). x % 2) shifted ∙ mod-mod-pow (s / 2 ^ (k - 1)) j 1 in
    ap (λ (x : ℕ). eqb x 1) bit

literal-low : (n s l : ℕ) → names n l ≡ true → true_in (s % 2 ^ n) l ≡ true_in s l
unfolding true_in
literal-low n s l named =
    let (low, high) = names-letter n l named in
    ap (λ (b : Bool). cond (positive l) b (not b)) (holds-low n s (size l) low high)

-- A list whose literals name letters: its and, its or.
all-low : (n s : ℕ) (ls : List ℕ) → ((j : ℕ) → j < length ls → names n (get_or ls j 0) ≡ true) → all_literals_true (s % 2 ^ n) ls ≡ all_literals_true s ls
unfolding all_literals_true
all-low n s [] named = refl
all-low n s (l ∷ ls) named =
    ap₂ (λ (a b : Bool). a && b) (literal-low n s l (named 0 (omega arith))) (all-low n s ls (λ j h. named (suc j) (omega arith)))

some-low : (n s : ℕ) (ls : List ℕ) → ((j : ℕ) → j < length ls → names n (get_or ls j 0) ≡ true) → some_literal_true (s % 2 ^ n) ls ≡ some_literal_true s ls
unfolding some_literal_true
some-low n s [] named = refl
some-low n s (l ∷ ls) named =
    ap₂ (λ (a b : Bool). a || b) (literal-low n s l (named 0 (omega arith))) (some-low n s ls (λ j h. named (suc j) (omega arith)))

-- both sides of a rule name letters of the sheet
pub record SidesNamed (n : ℕ) (rule : StepRule) : Type 0 where
  pub left : (j : ℕ) → j < length rule.left → names n (get_or rule.left j 0) ≡ true
  pub right : (j : ℕ) → j < length rule.right → names n (get_or rule.right j 0) ≡ true

-- Every step rule of a good sheet is such.
good-sides : (s : List ℕ) → first_fault s ≡ none → (i : ℕ) → i < length (decode s).steps → SidesNamed (letters_in s) (rule_of (decode s) i)
good-sides s good i h =
    let k : i < steps_in s = omega (arith, steps-count s) in
    let there = step-record s (good-header s good) i k in
    let body : List ℕ = body_at s (after_at s i (steps_at s)) in
    let g = step-good (letters_in s) (after_at s i (steps_at s)) body there.faultless in
    subst (SidesNamed (letters_in s)) (sym (step-at s i (step_of []) k)) (record { left = g.left.named; right = g.right.named })

-- a log with its bits above n taken off
abbrev pub low_bits : ℕ → List ℕ → List ℕ
low_bits n log = map (λ (s : ℕ). s % 2 ^ n) log

state-low : (n : ℕ) (log : List ℕ) (i : ℕ) → state_at (low_bits n log) i ≡ state_at log i % 2 ^ n
unfolding state_at
state-low n [] i = sym (zero-mod (2 ^ n))
state-low n (s ∷ log) zero = refl
state-low n (s ∷ log) (suc i) = state-low n log i

length-low : (n : ℕ) (log : List ℕ) → length (low_bits n log) ≡ length log
length-low n [] = refl
length-low n (s ∷ log) = ap suc (length-low n log)

-- The step rules asked of a move are asked of the low bits.
step-low : (n s t : ℕ) (rule : StepRule) → SidesNamed n rule → step_holds (s % 2 ^ n) (t % 2 ^ n) rule ≡ step_holds s t rule
unfolding step_holds
step-low n s t rule named = ap₂ (λ (a b : Bool). not a || b) (all-low n s rule.left named.left)
    (some-low n t rule.right named.right)

broken-low : (n s t i : ℕ) (rules : List StepRule) → ((k : ℕ) → k < length rules → SidesNamed n (get_or rules k (step_of [])))
    → first_broken (s % 2 ^ n) (t % 2 ^ n) i rules ≡ first_broken s t i rules
unfolding first_broken
broken-low n s t i [] named = refl
broken-low n s t i (rule ∷ rules) named =
    ap₂ (λ (b : Bool) (r : ℕ). cond b r i) (step-low n s t rule (named 0 (omega arith)))
    (broken-low n s t (suc i) rules (λ k h. named (suc k) (omega arith)))

-- a test of moves that looks at low bits alone counts the same
tally-low : (n : ℕ) (g : StepRule → ℕ → ℕ → Bool) (rule : StepRule) (log : List ℕ)
    → ((s t : ℕ) → g rule (s % 2 ^ n) (t % 2 ^ n) ≡ g rule s t)
    → tally_of (λ r l i. g r (state_at l i) (state_at l (suc i))) (low_bits n log) rule ≡ tally_of
    (λ r l i. g r (state_at l i) (state_at l (suc i))) log rule
unfolding tally_of moves_of
tally-low n g rule log low =
    ap (λ (m : ℕ). how_many (λ i. g rule (state_at (low_bits n log) i) (state_at (low_bits n log) (suc i))) (m - 1)) (length-low n log)
    ∙ same_count (length log - 1)
    (λ i h. ap₂ (g rule) (state-low n log i) (state-low n log (suc i)) ∙ low (state_at log i) (state_at log (suc i)))

same_map : (f g : StepRule → ℕ) (rules : List StepRule)
    → ((k : ℕ) → k < length rules → f (get_or rules k (step_of [])) ≡ g (get_or rules k (step_of [])))
    → map f rules ≡ map g rules
same_map f g [] same = refl
same_map f g (rule ∷ rules) same = ap₂ ◌∷◌ (same 0 (omega arith)) (same_map f g rules (λ k h. same (suc k) (omega arith)))

-- "Bits above n are ignored in the tallies", and in the step rules: of a good sheet, the tallies of a log are those of its low bits, and a
-- move breaks the same rule first.
pub high-bits-ignored : (s : List ℕ) → first_fault s ≡ none → (log : List ℕ)
    → (tallies_of keeps (decode s) (low_bits (letters_in s) log) ≡ tallies_of keeps (decode s) log)
    × (tallies_of breaks (decode s) (low_bits (letters_in s) log) ≡ tallies_of breaks (decode s) log)
    × ((a t : ℕ) → first_broken (a % 2 ^ letters_in s) (t % 2 ^ letters_in s) 1 (decode s).steps ≡ first_broken a t 1 (decode s).steps)
unfolding tallies_of keeps breaks asks
high-bits-ignored s good log = (
  all (λ rule a t. all_literals_true a rule.left && some_literal_true t rule.right)
      (λ k h a t. ap₂ (λ (x y : Bool). x && y) (left k h a) (right k h t)),
  all (λ rule a t. all_literals_true a rule.left && not (some_literal_true t rule.right))
      (λ k h a t. ap₂ (λ (x y : Bool). x && not y) (left k h a) (right k h t)),
  λ a t. broken-low n a t 1 (decode s).steps (good-sides s good),
)
  where
    n : ℕ
    n = letters_in s

    left : (k : ℕ) → k < length (decode s).steps → (a : ℕ) → all_literals_true (a % 2 ^ n) (rule_of (decode s) k).left ≡ all_literals_true a
        (rule_of (decode s) k).left
    left k h a = all-low n a (rule_of (decode s) k).left (good-sides s good k h).left

    right : (k : ℕ) → k < length (decode s).steps → (t : ℕ) → some_literal_true (t % 2 ^ n) (rule_of (decode s) k).right ≡ some_literal_true t
        (rule_of (decode s) k).right
    right k h t = some-low n t (rule_of (decode s) k).right (good-sides s good k h).right

    all : (g : StepRule → ℕ → ℕ → Bool)
        → ((k : ℕ) → k < length (decode s).steps → (a t : ℕ) → g (rule_of (decode s) k) (a % 2 ^ n) (t % 2 ^ n) ≡ g (rule_of (decode s) k)
        a t)
        → map (tally_of (λ r l i. g r (state_at l i) (state_at l (suc i))) (low_bits n log)) (decode s).steps ++ replicate
        (most_tallies - length (decode s).steps) 0
        ≡ map (tally_of (λ r l i. g r (state_at l i) (state_at l (suc i))) log) (decode s).steps ++ replicate
        (most_tallies - length (decode s).steps) 0
    all g low =
        ap (λ (l : List ℕ). l ++ replicate (most_tallies - length (decode s).steps) 0)
        (same_map (tally_of (λ r l i. g r (state_at l i) (state_at l (suc i))) (low_bits n log))
        (tally_of (λ r l i. g r (state_at l i) (state_at l (suc i))) log)
        (decode s).steps (λ k h. tally-low n g (rule_of (decode s) k) log (low k h)))

-- ---- a cutting does not show by a refusal

calls-from : (sheet : List ℕ) → first_fault sheet ≡ none → (log : List ℕ) (account : Account) (pieces : List (List ℕ))
    → AccountOf (decode sheet) log account
    → length log ≤ most_moments → ((last : Account) × Calls sheet account pieces last) ↔ (length (log ++ joined pieces) ≤ most_moments)
calls-from sheet good log account [] a few =
    (λ c. subst (λ (l : List ℕ). length l ≤ most_moments) (sym (append-nil log)) few, λ h. (account, refl))
calls-from sheet good log account (piece ∷ pieces) a few =
    let onwards = carried-account (decode sheet) log account piece a in (
      to (λ fits. calls-from sheet good (log ++ piece) (carried (decode sheet) account piece) pieces onwards fits),
      from (λ fits. calls-from sheet good (log ++ piece) (carried (decode sheet) account piece) pieces onwards fits),
    )
  where
    Rest : Type 0
    Rest = (length (log ++ piece) ≤ most_moments)
        → ((last : Account) × Calls sheet (carried (decode sheet) account piece) pieces last) ↔
        (length ((log ++ piece) ++ joined pieces) ≤ most_moments)

    bound : Past account piece ↔ (most_moments < length (log ++ piece))
    bound = refused-by-length-only (decode sheet) log account piece a

    not-past : (Past account piece → ⊥) → Dec (most_moments < length (log ++ piece)) → length (log ++ piece) ≤ most_moments
    not-past within (yes h) = absurd (within (bound.1 h))
    not-past within (no h) = omega arith

    to : Rest → ((last : Account) × Calls sheet account (piece ∷ pieces) last) → length (log ++ (piece ++ joined pieces)) ≤ most_moments
    to rest (last, (back, call, calls)) =
        let (within, is) = zero-call call in
        let fits = not-past within (dec_lt most_moments (length (log ++ piece))) in
        subst (λ (l : List ℕ). length l ≤ most_moments) (append_assoc log piece (joined pieces))
        ((rest fits).0 (last, subst (λ (b : Account). Calls sheet b pieces last) is calls))

    from : Rest → length (log ++ (piece ++ joined pieces)) ≤ most_moments → (last : Account) × Calls sheet account (piece ∷ pieces) last
    from rest h =
        let all : length ((log ++ piece) ++ joined pieces) ≤ most_moments =
        subst (λ (l : List ℕ). length l ≤ most_moments) (sym (append_assoc log piece (joined pieces))) h in
        let fits : length (log ++ piece) ≤ most_moments = omega (arith, length-append (log ++ piece) (joined pieces)) in
        let (last, calls) = (rest fits).1 all in
        (last, (carried (decode sheet) account piece, done good (λ p. absurd (omega (arith, bound.0 p))) refl refl refl, calls))

-- From the empty account on, the calls of a cutting are all answered 0 exactly if the whole log has at most 1,000,000 moments: what decides
-- is the log and not how it is cut. (A byte counts the step rules, so no sheet of bytes has more than 255.)
pub calls-exactly : (sheet : List ℕ) → first_fault sheet ≡ none → steps_in sheet ≤ 255 → (pieces : List (List ℕ))
    → ((last : Account) × Calls sheet empty pieces last) ↔ (length (joined pieces) ≤ most_moments)
calls-exactly sheet good few pieces =
    calls-from sheet good [] empty pieces (empty-account (decode sheet) (omega (arith, steps-count sheet))) (omega arith)

-- ---- the judge's sample run

-- The first reading of a paper is the paper itself.
place-front : (a b i : ℕ) → i < b → place a b i ≡ i
place-front a b zero h = refl
place-front a b (suc i) h =
    let before = place-front a b i (omega arith) in
    ap (λ (p : ℕ). cond (ltb (suc p) b) (suc p) a) before ∙ ap (λ (t : Bool). cond t (suc i) a) (lt-ltb (suc i) b h)

-- "No breach in a sample run written out by the judge."
pub judged-run-no-breach : {sheet : List ℕ} {lent : Lent} {o : Outcome} {account : Account} → Judged sheet lent o → o.answer ≡ 0
    → AccountOf (decode sheet) (take o.b o.leaves.run) account → account.what ≡ nothing
unfolding system_in state_at
judged-run-no-breach {sheet} {lent} {o} {account} j zero-answer a =
    let h = kept-hands-over j zero-answer in
    let states = h.states in
    let told : AccountOf (decode sheet) states account = subst (λ (l : List ℕ). AccountOf (decode sheet) l account) h.run_front a in
    (clean-exactly (decode sheet) states told).1
    (accepted-clean (decode sheet) states o.a states (kept-run-accepted h)
    (λ i k. ap (λ (p : ℕ). get_or states p 0) (sym (place-front o.a (length states) i k))))
