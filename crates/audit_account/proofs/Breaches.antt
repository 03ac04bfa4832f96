-- Which breach an account tells, exactly, by what the sheet means and with the order's own numbers. Document 02, order 2: "Report the first
-- breach: its moment, and whether the state was unlawful, broke a first rule, or broke a step rule and which (the first in the sheet), in
-- that order." `Wrong` says by the sheet's rules alone that a moment is a breach; the moment told is the first such (moment-told-first).
-- * 1 of moment i exactly if the state there is unlawful and nothing was wrong before (unlawful-told);
-- * 2 exactly if the log's first state is lawful and breaks a first rule (first-rule-told), and then of moment 0 (first-rule-at-once);
-- * 3 of moment i + 1 with rule r + 1 exactly if the state there is lawful, the move into it breaks rule r + 1 and no rule before that one,
--   and nothing was wrong before (step-rule-told, step-rule-somewhere); with the other kinds the rule is 0 (no-rule-told);
-- * 0 exactly if nothing is wrong at any moment (no-breach-told), and then moment, rule and all broken tallies are 0 (no-breach-numbers);
-- * and nothing else (told-kinds).
-- A rule's broken tally is not 0 exactly if some move breaks the rule (broken-tally-exactly). Assumes nothing.
use mathlib.Core.Path.{◌≡◌, refl, sym, ◌∙◌, ap, subst}
use mathlib.Core.Logic.{◌⊎◌, inl, inr, ◌↔◌}
use mathlib.Core.Bool.{Bool, true, false, cond, not, ◌&&◌, ◌||◌}
use mathlib.Core.List.{List, [], ◌∷◌}
use Prim.Native.Nat.{ℕ, zero, suc, ◌+◌, ◌-◌, ◌≤◌, ◌<◌}
use native.Mathlib.Decide.{dec_lt, ℕ_discrete}
use native.Mathlib.Omega.{arith}
use borrow.Author.Tests.{ne_eqb}
use lib.Dec.{eqb}
use lib.ListN.{length, get_or}
use Rattle.meaning.specs.Sheet.{Sheet, StepRule, step_of}
use Rattle.meaning.specs.Rules.{lawful, first_state, all_literals_true, some_literal_true, step_holds}
use Rattle.rules.specs.Book.{how_many}
use Rattle.audit_account.specs.Account.{Account, AccountOf, Breach, NoBreach, nothing, unlawful, broke_first, broke_step, first_broken}
use Rattle.audit_account.specs.Account.{first_is, next_is, rule_is, state_at, what_at, rule_at, asks, breaks, moves_of, tally_of}
use Rattle.audit_account.proofs.Reports.{FirstAt, broken-exactly, rule-tallies, no-rule-tallies}

-- ---- what is wrong with a moment

-- the move from moment i to moment i + 1 breaks the sheet's step rule r + 1
abbrev pub MoveBreaks : Sheet → List ℕ → (i r : ℕ) → Type 0
MoveBreaks sheet log i r =
    (r < length sheet.steps) × (step_holds (get_or log i 0) (get_or log (suc i) 0) (get_or sheet.steps r (step_of [])) ≡ false)

-- a moment is a breach: its state is unlawful, or it is moment 0 and its state no first state, or the move into it breaks a step rule
pub data Wrong (sheet : Sheet) (log : List ℕ) (i : ℕ) : Type 0 where
  not_lawful : lawful sheet (get_or log i 0) ≡ false → Wrong sheet log i
  no_first : i ≡ 0 → first_state sheet (get_or log 0 0) ≡ false → Wrong sheet log i
  bad_move : (j r : ℕ) → i ≡ suc j → MoveBreaks sheet log j r → Wrong sheet log i

-- no moment before i is a breach
abbrev pub FineBefore : Sheet → List ℕ → ℕ → Type 0
FineBefore sheet log i = (j : ℕ) → j < i → Wrong sheet log j → ⊥

-- ---- one state

-- A Bool is not both.
clash : {A : Type 0} {b : Bool} → b ≡ true → b ≡ false → A
clash p q = let z : ◌≡◌ {A = ℕ} 0 1 = cc in absurd (omega arith)

-- Where no rule is told, the step keeps every rule.
none-broken : (s t i : ℕ) (rules : List StepRule) → first_broken s t (suc i) rules ≡ 0 → (k : ℕ) → k < length rules
    → step_holds s t (get_or rules k (step_of [])) ≡ true
unfolding first_broken
none-broken s t i [] e k h = absurd (omega arith)
none-broken s t i (rule ∷ rules) e k h = by (step_holds s t rule) refl e k h (λ q j l. none-broken s t (suc i) rules q j l)
  where
    by : (b : Bool) → step_holds s t rule ≡ b → cond b (first_broken s t (suc (suc i)) rules) (suc i) ≡ 0 → (k : ℕ)
        → k < suc (length rules)
        → (first_broken s t (suc (suc i)) rules ≡ 0 → (j : ℕ) → j < length rules → step_holds s t (get_or rules j (step_of [])) ≡ true)
        → step_holds s t (get_or (rule ∷ rules) k (step_of [])) ≡ true
    by true f q zero l rest = f
    by true f q (suc k) l rest = rest q k (omega arith)
    by false f q k l rest = absurd (omega (arith, q))

-- what a moment is told as, with which rule, and why
pub data Kind (sheet : Sheet) (log : List ℕ) (i what rule : ℕ) : Type 0 where
  kind_1 : lawful sheet (get_or log i 0) ≡ false → what ≡ 1 → rule ≡ 0 → Kind sheet log i what rule
  kind_2 : i ≡ 0 → lawful sheet (get_or log 0 0) ≡ true → first_state sheet (get_or log 0 0) ≡ false → what ≡ 2 → rule ≡ 0
      → Kind sheet log i what rule
  kind_3 : (j r : ℕ) → i ≡ suc j → lawful sheet (get_or log (suc j) 0) ≡ true
      → FirstAt (get_or log j 0) (get_or log (suc j) 0) sheet.steps r → what ≡ 3 → rule ≡ suc r → Kind sheet log i what rule
  kind_0 : (Wrong sheet log i → ⊥) → what ≡ 0 → rule ≡ 0 → Kind sheet log i what rule

first_kind : (sheet : Sheet) (log : List ℕ) → Kind sheet log 0 (first_is sheet (get_or log 0 0)) 0
unfolding first_is
first_kind sheet log = by (lawful sheet (get_or log 0 0)) (first_state sheet (get_or log 0 0)) refl refl
  where
    by : (a b : Bool) → lawful sheet (get_or log 0 0) ≡ a → first_state sheet (get_or log 0 0) ≡ b
        → Kind sheet log 0 (cond a (cond b nothing broke_first) unlawful) 0
    by true true law first = kind_0 fine refl refl
      where
        fine : Wrong sheet log 0 → ⊥
        fine (not_lawful x) = clash law x
        fine (no_first e x) = clash first x
        fine (bad_move j r e x) = omega (arith, e)
    by true false law first = kind_2 refl law first refl refl
    by false b law first = kind_1 law refl refl

next-kind : (sheet : Sheet) (log : List ℕ) (i : ℕ)
    → Kind sheet log (suc i) (next_is sheet (get_or log i 0) (get_or log (suc i) 0)) (rule_is sheet (get_or log i 0) (get_or log (suc i) 0))
unfolding next_is rule_is
next-kind sheet log i = by (lawful sheet t) (first_broken s t 1 sheet.steps) refl refl
  where
    s : ℕ
    s = get_or log i 0

    t : ℕ
    t = get_or log (suc i) 0

    is_by : Bool → ℕ → ℕ
    is_by a n = cond a (cond (eqb n 0) nothing broke_step) unlawful

    by : (a : Bool) (n : ℕ) → lawful sheet t ≡ a → first_broken s t 1 sheet.steps ≡ n
        → Kind sheet log (suc i) (is_by a n) (cond (eqb (is_by a n) broke_step) n 0)
    by false n law broke = kind_1 law refl refl
    by true zero law broke = kind_0 fine refl refl
      where
        fine : Wrong sheet log (suc i) → ⊥
        fine (not_lawful x) = clash law x
        fine (no_first e x) = omega (arith, e)
        fine (bad_move j r e (within, x)) =
            let same : j ≡ i = omega arith in
            clash (none-broken s t 0 sheet.steps broke r within)
            (subst (λ (k : ℕ). step_holds (get_or log k 0) (get_or log (suc k) 0) (get_or sheet.steps r (step_of [])) ≡ false) same x)
    by true (suc r) law broke =
        let is : is_by true (suc r) ≡ 3 = ap (λ (b : Bool). cond b nothing broke_step) (ne_eqb (suc r) 0 (λ z. omega (arith, z))) in
        kind_3 i r refl law ((broken-exactly s t r sheet.steps).0 broke) is (ap (λ (n : ℕ). cond (eqb n broke_step) (suc r) 0) is)

-- Every moment is of one of these kinds.
pub kind_at : (sheet : Sheet) (log : List ℕ) (i : ℕ) → Kind sheet log i (what_at sheet log i) (rule_at sheet log i)
unfolding what_at rule_at state_at
kind_at sheet log zero = first_kind sheet log
kind_at sheet log (suc i) = next-kind sheet log i

-- A moment of which something is told is wrong; one of which nothing is told is not.
kind-wrong : {sheet : Sheet} {log : List ℕ} {i what rule : ℕ} → Kind sheet log i what rule → (what ≡ 0 → ⊥) → Wrong sheet log i
kind-wrong (kind_1 law w r) some = not_lawful law
kind-wrong (kind_2 e law first w r) some = no_first e first
kind-wrong (kind_3 j r e law f w q) some = bad_move j r e (f.0, f.1)
kind-wrong (kind_0 fine w r) some = absurd (some w)

kind-fine : {sheet : Sheet} {log : List ℕ} {i what rule : ℕ} → Kind sheet log i what rule → what ≡ 0 → Wrong sheet log i → ⊥
kind-fine (kind_1 law w r) none wrong = omega (arith, w, none)
kind-fine (kind_2 e law first w r) none wrong = omega (arith, w, none)
kind-fine (kind_3 j r e law f w q) none wrong = omega (arith, w, none)
kind-fine (kind_0 fine w r) none wrong = fine wrong

-- ---- counting

-- Where the count is not 0, some number below n passes.
counted : (test : ℕ → Bool) (n : ℕ) → (how_many test n ≡ 0 → ⊥) → (i : ℕ) × (i < n) × (test i ≡ true)
counted test zero some = absurd (some refl)
counted test (suc n) some = by (test n) refl some (λ s. counted test n s)
  where
    by : (b : Bool) → test n ≡ b → (cond b 1 0 + how_many test n ≡ 0 → ⊥)
        → ((how_many test n ≡ 0 → ⊥) → (i : ℕ) × (i < n) × (test i ≡ true)) → (i : ℕ) × (i < suc n) × (test i ≡ true)
    by true e s rest = (n, omega arith, e)
    by false e s rest = let (i, h, p) = rest (λ z. s (omega (arith, z))) in (i, omega arith, p)

-- Where it is 0, none does.
uncounted : (test : ℕ → Bool) (n : ℕ) → how_many test n ≡ 0 → (i : ℕ) → i < n → test i ≡ true → ⊥
uncounted test zero none i h p = omega arith
uncounted test (suc n) none i h p = by (ℕ_discrete i n) (test n) refl none (λ z l. uncounted test n z i l p)
  where
    by : Dec (i ≡ n) → (b : Bool) → test n ≡ b → cond b 1 0 + how_many test n ≡ 0 → (how_many test n ≡ 0 → i < n → ⊥) → ⊥
    by d true e z rest = omega (arith, z)
    by (yes same) false e z rest = clash (ap test (sym same) ∙ p) e
    by (no other) false e z rest = rest (omega (arith, z)) (omega arith)

-- ---- the account

-- what an account tells of a log: its first wrong moment and what is wrong there, or that none is wrong
data Told (sheet : Sheet) (log : List ℕ) (account : Account) : Type 0 where
  some_told : account.moment < length log → FineBefore sheet log account.moment → Wrong sheet log account.moment
      → Kind sheet log account.moment account.what account.rule → Told sheet log account
  none_told : ((i : ℕ) → i < length log → Wrong sheet log i → ⊥) → account.what ≡ 0 → account.moment ≡ 0 → account.rule ≡ 0
      → Told sheet log account

told : {sheet : Sheet} {log : List ℕ} {account : Account} → AccountOf sheet log account → Told sheet log account
told {sheet} {log} {account} a = by a.breach_is
  where
    by : Breach sheet log account.what account.moment account.rule ⊎ NoBreach sheet log account.what account.moment
        account.rule
        → Told sheet log account
    by (inl b) =
        let kind : Kind sheet log account.moment account.what account.rule =
        subst (λ (r : ℕ). Kind sheet log account.moment account.what r) (sym b.rule-is)
        (subst (λ (w : ℕ). Kind sheet log account.moment w (rule_at sheet log account.moment)) (sym b.what_is)
        (kind_at sheet log account.moment)) in
        some_told b.within (λ j h. kind-fine (kind_at sheet log j) (b.first j h)) (kind-wrong kind b.some_breach) kind
    by (inr n) = none_told (λ i h. kind-fine (kind_at sheet log i) (n.clean i h)) n.no_what n.no_moment n.no_rule

-- a moment within the log is wrong, and none before it is
abbrev pub FirstWrong : Sheet → List ℕ → ℕ → Type 0
FirstWrong sheet log i = (i < length log) × Wrong sheet log i × FineBefore sheet log i

-- The first wrong moment is the one told, and what is wrong there is told.
told-there : {sheet : Sheet} {log : List ℕ} {account : Account} → Told sheet log account → (i : ℕ) → FirstWrong sheet log i
    → (account.moment ≡ i) × Kind sheet log i account.what account.rule
told-there (none_told clean w m r) i (within, wrong, fine) = absurd (clean i within wrong)
told-there {sheet} {log} {account} (some_told inside before bad kind) i (within, wrong, fine) = by (dec_lt account.moment i)
    (dec_lt i account.moment)
  where
    by : Dec (account.moment < i) → Dec (i < account.moment)
        → (account.moment ≡ i) × Kind sheet log i account.what account.rule
    by (yes h) d = absurd (fine account.moment h bad)
    by (no h) (yes l) = absurd (before i l wrong)
    by (no h) (no l) =
        let e : account.moment ≡ i = omega arith in
        (e, subst (λ (m : ℕ). Kind sheet log m account.what account.rule) e kind)

module _ {sheet : Sheet} {log : List ℕ} {account : Account} where
  -- An account tells 0, 1, 2 or 3.
  pub told-kinds : AccountOf sheet log account → account.what ≤ 3
  told-kinds a = by (told a)
    where
      by : Told sheet log account → account.what ≤ 3
      by (none_told clean w m r) = omega (arith, w)
      by (some_told inside before bad (kind_1 law w r)) = omega (arith, w)
      by (some_told inside before bad (kind_2 e law first w r)) = omega (arith, w)
      by (some_told inside before bad (kind_3 j k e law f w r)) = omega (arith, w)
      by (some_told inside before bad (kind_0 fine w r)) = omega (arith, w)

  -- "Report the first breach: its moment": something is told of moment i exactly if i is the first wrong moment.
  pub moment-told-first : AccountOf sheet log account → (i : ℕ)
      → ((account.what ≡ 0 → ⊥) × (account.moment ≡ i)) ↔ FirstWrong sheet log i
  moment-told-first a i = (to (told a), from)
    where
      to : Told sheet log account → (account.what ≡ 0 → ⊥) × (account.moment ≡ i) → FirstWrong sheet log i
      to (none_told clean w m r) (some, e) = absurd (some w)
      to (some_told inside before bad kind) (some, e) = subst (FirstWrong sheet log) e (inside, bad, before)

      from : FirstWrong sheet log i → (account.what ≡ 0 → ⊥) × (account.moment ≡ i)
      from first =
          let (e, kind) = told-there (told a) i first in
          (λ z. kind-fine kind z first.1, e)

  -- 1, "the state was unlawful": told of moment i exactly if the state there is unlawful and nothing was wrong before.
  pub unlawful-told : AccountOf sheet log account → (i : ℕ)
      → ((account.what ≡ 1) × (account.moment ≡ i))
      ↔ ((i < length log) × (lawful sheet (get_or log i 0) ≡ false) × FineBefore sheet log i)
  unlawful-told a i = (to (told a), from)
    where
      to : Told sheet log account → (account.what ≡ 1) × (account.moment ≡ i)
          → (i < length log) × (lawful sheet (get_or log i 0) ≡ false) × FineBefore sheet log i
      to (none_told clean w m r) (one, e) = absurd (omega (arith, w, one))
      to (some_told inside before bad (kind_1 law w r)) (one, e) =
          subst (λ (m : ℕ). (m < length log) × (lawful sheet (get_or log m 0) ≡ false) × FineBefore sheet log m) e (inside, law, before)
      to (some_told inside before bad (kind_2 z law first w r)) (one, e) = absurd (omega (arith, w, one))
      to (some_told inside before bad (kind_3 j k z law f w r)) (one, e) = absurd (omega (arith, w, one))
      to (some_told inside before bad (kind_0 fine w r)) (one, e) = absurd (omega (arith, w, one))

      from : (i < length log) × (lawful sheet (get_or log i 0) ≡ false) × FineBefore sheet log i
          → (account.what ≡ 1) × (account.moment ≡ i)
      from (within, law, fine) = by (told-there (told a) i (within, not_lawful law, fine))
        where
          by : (account.moment ≡ i) × Kind sheet log i account.what account.rule → (account.what ≡ 1) × (account.moment ≡ i)
          by (e, kind_1 x w r) = (w, e)
          by (e, kind_2 z x first w r) = clash x (subst (λ (m : ℕ). lawful sheet (get_or log m 0) ≡ false) z law)
          by (e, kind_3 j k z x f w r) = clash x (subst (λ (m : ℕ). lawful sheet (get_or log m 0) ≡ false) z law)
          by (e, kind_0 good w r) = absurd (good (not_lawful law))

  -- 2, "broke a first rule": told exactly if the log has a first state, lawful but no first state of the sheet.
  pub first-rule-told : AccountOf sheet log account
      → (account.what ≡ 2)
      ↔ ((0 < length log) × (lawful sheet (get_or log 0 0) ≡ true) × (first_state sheet (get_or log 0 0) ≡ false))
  first-rule-told a = (to (told a), from)
    where
      First : Type 0
      First = (0 < length log) × (lawful sheet (get_or log 0 0) ≡ true) × (first_state sheet (get_or log 0 0) ≡ false)

      to : Told sheet log account → account.what ≡ 2 → First
      to (none_told clean w m r) two = absurd (omega (arith, w, two))
      to (some_told inside before bad (kind_1 law w r)) two = absurd (omega (arith, w, two))
      to (some_told inside before bad (kind_2 e law first w r)) two = (omega (arith, inside, e), law, first)
      to (some_told inside before bad (kind_3 j k z law f w r)) two = absurd (omega (arith, w, two))
      to (some_told inside before bad (kind_0 fine w r)) two = absurd (omega (arith, w, two))

      from : First → account.what ≡ 2
      from (within, law, first) = by (told-there (told a) 0 (within, no_first refl first, λ j h. absurd (omega arith)))
        where
          by : (account.moment ≡ 0) × Kind sheet log 0 account.what account.rule → account.what ≡ 2
          by (e, kind_1 x w r) = clash law x
          by (e, kind_2 z x y w r) = w
          by (e, kind_3 j k z x f w r) = absurd (omega (arith, z))
          by (e, kind_0 good w r) = absurd (good (no_first refl first))

  -- A first rule's breach is told of moment 0.
  pub first-rule-at-once : AccountOf sheet log account → account.what ≡ 2 → account.moment ≡ 0
  first-rule-at-once a two = by (told a)
    where
      by : Told sheet log account → account.moment ≡ 0
      by (none_told clean w m r) = m
      by (some_told inside before bad (kind_1 law w r)) = absurd (omega (arith, w, two))
      by (some_told inside before bad (kind_2 e law first w r)) = e
      by (some_told inside before bad (kind_3 j k z law f w r)) = absurd (omega (arith, w, two))
      by (some_told inside before bad (kind_0 fine w r)) = absurd (omega (arith, w, two))

  -- 3, "or broke a step rule and which (the first in the sheet)": told of moment i + 1 with rule r + 1 exactly if the state there is
  -- lawful, the move into it breaks rule r + 1 and keeps every rule before that one, and nothing was wrong before.
  pub step-rule-told : AccountOf sheet log account → (i r : ℕ)
      → ((account.what ≡ 3) × (account.moment ≡ suc i) × (account.rule ≡ suc r))
      ↔ ((suc i < length log) × (lawful sheet (get_or log (suc i) 0) ≡ true)
      × FirstAt (get_or log i 0) (get_or log (suc i) 0) sheet.steps r × FineBefore sheet log (suc i))
  step-rule-told a i r = (to (told a), from)
    where
      Breaks : (i r : ℕ) → Type 0
      Breaks i r = (suc i < length log) × (lawful sheet (get_or log (suc i) 0) ≡ true)
          × FirstAt (get_or log i 0) (get_or log (suc i) 0) sheet.steps r × FineBefore sheet log (suc i)

      Says : Type 0
      Says = (account.what ≡ 3) × (account.moment ≡ suc i) × (account.rule ≡ suc r)

      to : Told sheet log account → Says → Breaks i r
      to (none_told clean w m q) (three, e, u) = absurd (omega (arith, w, three))
      to (some_told inside before bad (kind_1 law w q)) (three, e, u) = absurd (omega (arith, w, three))
      to (some_told inside before bad (kind_2 z law first w q)) (three, e, u) = absurd (omega (arith, w, three))
      to (some_told inside before bad (kind_3 j k z law f w q)) (three, e, u) =
          let same_moment : j ≡ i = omega (arith, sym z ∙ e) in
          let same_rule : k ≡ r = omega (arith, sym q ∙ u) in
          let early : FineBefore sheet log (suc j) = subst (FineBefore sheet log) z before in
          subst (λ (m : ℕ). Breaks m r) same_moment
          (subst (λ (n : ℕ). Breaks j n) same_rule (subst (λ (m : ℕ). m < length log) z inside, law, f, early))
      to (some_told inside before bad (kind_0 fine w q)) (three, e, u) = absurd (omega (arith, w, three))

      from : Breaks i r → Says
      from (within, law, f, fine) = by (told-there (told a) (suc i) (within, bad_move i r refl (f.0, f.1), fine))
        where
          one-first : (k : ℕ) → FirstAt (get_or log i 0) (get_or log (suc i) 0) sheet.steps k → k ≡ r
          one-first k g =
              let p : first_broken (get_or log i 0) (get_or log (suc i) 0) 1 sheet.steps ≡ suc k =
              (broken-exactly (get_or log i 0) (get_or log (suc i) 0) k sheet.steps).1 g in
              let q : first_broken (get_or log i 0) (get_or log (suc i) 0) 1 sheet.steps ≡ suc r =
              (broken-exactly (get_or log i 0) (get_or log (suc i) 0) r sheet.steps).1 f in
              omega (arith, sym p ∙ q)

          by : (account.moment ≡ suc i) × Kind sheet log (suc i) account.what account.rule → Says
          by (e, kind_1 x w q) = clash law x
          by (e, kind_2 z x y w q) = absurd (omega (arith, z))
          by (e, kind_3 j k z x g w q) =
              let same : j ≡ i = omega (arith, z) in
              let there : FirstAt (get_or log i 0) (get_or log (suc i) 0) sheet.steps k =
              subst (λ (m : ℕ). FirstAt (get_or log m 0) (get_or log (suc m) 0) sheet.steps k) same g in
              (w, e, q ∙ ap suc (one-first k there))
          by (e, kind_0 good w q) = absurd (good (bad_move i r refl (f.0, f.1)))

  -- A step rule's breach is told of some moment after 0, with some rule, and so is one that step-rule-told speaks of.
  pub step-rule-somewhere : AccountOf sheet log account → account.what ≡ 3
      → (i : ℕ) × (r : ℕ) × (account.moment ≡ suc i) × (account.rule ≡ suc r)
  step-rule-somewhere a three = by (told a)
    where
      by : Told sheet log account → (i : ℕ) × (r : ℕ) × (account.moment ≡ suc i) × (account.rule ≡ suc r)
      by (none_told clean w m q) = absurd (omega (arith, w, three))
      by (some_told inside before bad (kind_1 law w q)) = absurd (omega (arith, w, three))
      by (some_told inside before bad (kind_2 z law first w q)) = absurd (omega (arith, w, three))
      by (some_told inside before bad (kind_3 j k z law f w q)) = (j, k, z, q)
      by (some_told inside before bad (kind_0 fine w q)) = absurd (omega (arith, w, three))

  -- With every other kind the rule is 0.
  pub no-rule-told : AccountOf sheet log account → (account.what ≡ 3 → ⊥) → account.rule ≡ 0
  no-rule-told a other = by (told a)
    where
      by : Told sheet log account → account.rule ≡ 0
      by (none_told clean w m q) = q
      by (some_told inside before bad (kind_1 law w q)) = q
      by (some_told inside before bad (kind_2 z law first w q)) = q
      by (some_told inside before bad (kind_3 j k z law f w q)) = absurd (other w)
      by (some_told inside before bad (kind_0 fine w q)) = q

  -- 0 is told exactly if no moment of the log is wrong.
  pub no-breach-told : AccountOf sheet log account → (account.what ≡ 0) ↔ ((i : ℕ) → i < length log → Wrong sheet log i → ⊥)
  no-breach-told a = (to (told a), from (told a))
    where
      to : Told sheet log account → account.what ≡ 0 → (i : ℕ) → i < length log → Wrong sheet log i → ⊥
      to (none_told clean w m q) none = clean
      to (some_told inside before bad kind) none = absurd (kind-fine kind none bad)

      from : Told sheet log account → ((i : ℕ) → i < length log → Wrong sheet log i → ⊥) → account.what ≡ 0
      from (none_told clean w m q) fine = w
      from (some_told inside before bad kind) fine = absurd (fine account.moment inside bad)

  -- ---- the broken tallies

  -- A rule's broken tally is not 0 exactly if some move of the log breaks the rule.
  pub broken-tally-exactly : AccountOf sheet log account → (r : ℕ) → r < length sheet.steps
      → (get_or account.broken r 0 ≡ 0 → ⊥) ↔ ((i : ℕ) × (suc i < length log) × MoveBreaks sheet log i r)
  unfolding tally_of moves_of breaks asks state_at step_holds
  broken-tally-exactly a r h = (to, from)
    where
      rule : StepRule
      rule = get_or sheet.steps r (step_of [])

      test : ℕ → Bool
      test = breaks rule log

      is : get_or account.broken r 0 ≡ how_many test (length log - 1)
      is = (rule-tallies a r h).1

      flip : (a b : Bool) → (a && not b ≡ true) ↔ (not a || b ≡ false)
      flip true true = (λ e. clash e refl, λ e. clash refl e)
      flip true false = (λ e. refl, λ e. refl)
      flip false b = (λ e. clash e refl, λ e. clash refl e)

      broken? : (i : ℕ) → (test i ≡ true) ↔ (step_holds (get_or log i 0) (get_or log (suc i) 0) rule ≡ false)
      broken? i = flip (all_literals_true (get_or log i 0) rule.left) (some_literal_true (get_or log (suc i) 0) rule.right)

      to : (get_or account.broken r 0 ≡ 0 → ⊥) → (i : ℕ) × (suc i < length log) × MoveBreaks sheet log i r
      to some =
          let (i, l, e) = counted test (length log - 1) (λ z. some (is ∙ z)) in
          (i, omega arith, (h, (broken? i).0 e))

      from : (i : ℕ) × (suc i < length log) × MoveBreaks sheet log i r → get_or account.broken r 0 ≡ 0 → ⊥
      from (i, l, (within, e)) z = uncounted test (length log - 1) (sym is ∙ z) i (omega arith) ((broken? i).1 e)

  -- Where nothing is told, moment and rule are 0, and so is each of the 255 broken tallies.
  pub no-breach-numbers : AccountOf sheet log account → account.what ≡ 0
      → (account.moment ≡ 0) × (account.rule ≡ 0) × ((r : ℕ) → r < 255 → get_or account.broken r 0 ≡ 0)
  no-breach-numbers a none = (
    moment (told a),
    no-rule-told a (λ three. omega (arith, none, three)),
    λ r h. tally r (dec_lt r (length sheet.steps)) (ℕ_discrete (get_or account.broken r 0) 0),
  )
    where
      moment : Told sheet log account → account.moment ≡ 0
      moment (none_told clean w m q) = m
      moment (some_told inside before bad kind) = absurd (kind-fine kind none bad)

      tally : (r : ℕ) → Dec (r < length sheet.steps) → Dec (get_or account.broken r 0 ≡ 0) → get_or account.broken r 0 ≡ 0
      tally r (no past) d = (no-rule-tallies a r (omega arith)).1
      tally r (yes here) (yes zero-there) = zero-there
      tally r (yes here) (no some) =
          let (i, l, broken) = (broken-tally-exactly a r here).0 some in
          absurd ((no-breach-told a).0 none (suc i) l (bad_move i r refl broken))
