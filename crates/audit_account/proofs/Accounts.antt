-- What an account tells. A log has one account (account-unique). Kept plus broken of a rule is the number of moves whose earlier state made
-- its left side true (kept-and-broken), so no tally is above the count (tally-within). No breach is told exactly if every recorded state is
-- lawful, the first makes every first rule true and every move is a move of the sheet (clean-exactly), as the states of any run are
-- (run-clean, accepted-clean). Assumes nothing.
use mathlib.Core.Path.{◌≡◌, refl, sym, ◌∙◌, ap, subst}
use mathlib.Core.Logic.{◌⊎◌, inl, inr, ◌↔◌}
use mathlib.Core.Bool.{Bool, true, false, cond, not, ◌&&◌}
use mathlib.Core.List.{List, [], ◌∷◌, ◌++◌, map}
use Prim.Native.Nat.{ℕ, zero, suc, ◌+◌, ◌-◌, ◌≤◌, ◌<◌}
use native.Mathlib.Decide.{dec_lt, ℕ_discrete}
use native.Mathlib.Omega.{arith}
use borrow.Author.Tests.{eq-eqb, ne_eqb}
use lib.Dec.{T, eqb}
use lib.ListN.{length, get_or, replicate}
use Rattle.meaning.specs.Sheet.{Sheet, StepRule}
use Rattle.meaning.specs.Rules.{lawful, first_state, moves, every, step_holds, some_literal_true, system_of}
use Rattle.meaning.specs.System.{Run}
use Rattle.meaning.specs.Papers.{RunAccepted, reading}
use Rattle.meaning.proofs.Lasso.{run-accepted-exactly}
use Rattle.rules.proofs.Counting.{split-count, count-within}
use Rattle.audit_account.specs.Account.{Account, AccountOf, Breach, NoBreach, most_tallies, nothing, unlawful, broke_first, broke_step}
use Rattle.audit_account.specs.Account.{first_broken, first_is, next_is, state_at, what_at, rule_at, asks, keeps, breaks, moves_of, tally_of}
use Rattle.audit_account.specs.Account.{tallies_of}

-- ---- one account

-- Of two first breaches neither comes before the other.
breach-same-moment : {sheet : Sheet} {log : List ℕ} {w m r w' m' r' : ℕ} → Breach sheet log w m r → Breach sheet log w' m' r' → m ≡ m'
breach-same-moment {sheet} {log} {w} {m} {r} {w'} {m'} {r'} b c = by (dec_lt m m') (dec_lt m' m)
  where
    by : Dec (m < m') → Dec (m' < m) → m ≡ m'
    by (yes h) d = absurd (b.some_breach (b.what_is ∙ c.first m h))
    by (no h) (yes h') = absurd (c.some_breach (c.what_is ∙ b.first m' h'))
    by (no h) (no h') = omega arith

-- A clean log has no breach.
clean-no-breach : {sheet : Sheet} {log : List ℕ} {w m r w' m' r' : ℕ} → NoBreach sheet log w m r → Breach sheet log w' m' r' → ⊥
clean-no-breach n b = b.some_breach (b.what_is ∙ n.clean _ b.within)

-- The three numbers of the breach are settled by the log.
breach-unique : (sheet : Sheet) (log : List ℕ) {w m r w' m' r' : ℕ} → Breach sheet log w m r ⊎ NoBreach sheet log w m r
    → Breach sheet log w' m' r' ⊎ NoBreach sheet log w' m' r' → (w ≡ w') × (m ≡ m') × (r ≡ r')
breach-unique sheet log (inl b) (inl c) =
    let same = breach-same-moment b c in
    (b.what_is ∙ ap (what_at sheet log) same ∙ sym c.what_is, same, b.rule-is ∙ ap (rule_at sheet log) same ∙ sym c.rule-is)
breach-unique sheet log (inl b) (inr n) = absurd (clean-no-breach n b)
breach-unique sheet log (inr n) (inl c) = absurd (clean-no-breach n c)
breach-unique sheet log (inr n) (inr k) = (n.no_what ∙ sym k.no_what, n.no_moment ∙ sym k.no_moment, n.no_rule ∙ sym k.no_rule)

-- Accounts whose seven parts are equal are equal.
pub same_parts : (a b : Account) → a.count ≡ b.count → a.last ≡ b.last → a.what ≡ b.what → a.moment ≡ b.moment → a.rule ≡ b.rule
    → a.kept ≡ b.kept → a.broken ≡ b.broken → a ≡ b
same_parts a b count last what moment rule kept broken = λ i. record {
  count = count i;
  last = last i;
  what = what i;
  moment = moment i;
  rule = rule i;
  kept = kept i;
  broken = broken i;
}

-- A log has one account.
pub account-unique : (sheet : Sheet) (log : List ℕ) {account other : Account} → AccountOf sheet log account → AccountOf sheet log other
    → account ≡ other
account-unique sheet log {account} {other} a b =
    let (what, moment, rule) = breach-unique sheet log a.breach_is b.breach_is in
    same_parts account other (a.count-is ∙ sym b.count-is) (a.last-is ∙ sym b.last-is) what moment rule (a.kept-is
    ∙ sym b.kept-is)
    (a.broken-is ∙ sym b.broken-is)

-- ---- tallies

-- "kept plus broken equals the moves whose earlier state made that left side true"
pub kept-and-broken : (log : List ℕ) (rule : StepRule) → tally_of keeps log rule + tally_of breaks log rule ≡ tally_of asks log rule
unfolding tally_of keeps breaks
kept-and-broken log rule =
    sym (split-count (asks rule log) (keeps rule log) (breaks rule log) (moves_of log)
    (λ i. split (asks rule log i) (some_literal_true (state_at log (suc i)) rule.right)))
  where
    split : (a b : Bool) → cond a 1 0 ≡ cond (a && b) 1 0 + cond (a && not b) 1 0
    split true true = refl
    split true false = refl
    split false b = refl

-- No tally is above the number of moments.
pub tally-within : (test : StepRule → List ℕ → ℕ → Bool) (log : List ℕ) (rule : StepRule) → tally_of test log rule ≤ length log
unfolding tally_of moves_of
tally-within test log rule = omega (arith, count-within (test rule log) (length log - 1))

-- Zeros are zeros, past their end too.
pub zeros-at : (n i : ℕ) → get_or (replicate {A = ℕ} n 0) i 0 ≡ 0
zeros-at zero i = refl
zeros-at (suc n) zero = refl
zeros-at (suc n) (suc i) = zeros-at n i

-- So it is with every place of the tallies.
pub tallies-within : (test : StepRule → List ℕ → ℕ → Bool) (sheet : Sheet) (log : List ℕ) (i : ℕ)
    → get_or (tallies_of test sheet log) i 0 ≤ length log
unfolding tallies_of
tallies-within test sheet log i = each sheet.steps (most_tallies - length sheet.steps) i
  where
    each : (rules : List StepRule) (n i : ℕ) → get_or (map (tally_of test log) rules ++ replicate n 0) i 0 ≤ length log
    each [] n i = omega (arith, zeros-at n i)
    each (rule ∷ rules) n zero = tally-within test log rule
    each (rule ∷ rules) n (suc i) = each rules n i

-- ---- no breach

-- every recorded state is lawful, the first, if there is one, makes every first rule true, and every move is a move of the sheet
pub record Clean (sheet : Sheet) (log : List ℕ) : Type 0 where
  pub all_lawful : (i : ℕ) → i < length log → T (lawful sheet (state_at log i))
  pub starts : 0 < length log → T (first_state sheet (state_at log 0))
  pub goes : (i : ℕ) → suc i < length log → T (moves sheet (state_at log i) (state_at log (suc i)))

-- No step rule is broken exactly if every one holds.
none-broken : (s t i : ℕ) → 1 ≤ i → (rules : List StepRule) → (first_broken s t i rules ≡ 0) ↔ T (every (step_holds s t) rules)
unfolding first_broken every
none-broken s t i some [] = (λ e. tt, λ h. refl)
none-broken s t i some (rule ∷ rules) = by (step_holds s t rule) (none-broken s t (suc i) (omega arith) rules)
  where
    by : (b : Bool) → (first_broken s t (suc i) rules ≡ 0) ↔ T (every (step_holds s t) rules)
        → (cond b (first_broken s t (suc i) rules) i ≡ 0) ↔ T (b && every (step_holds s t) rules)
    by true rest = rest
    by false rest = (λ e. absurd (omega arith), λ h. absurd h)

-- A first state of a log is no breach exactly if it is a first state of the sheet.
first_fine : (sheet : Sheet) (t : ℕ) → (first_is sheet t ≡ nothing) ↔ T (first_state sheet t)
unfolding first_is first_state
first_fine sheet t = by (lawful sheet t) (every (some_literal_true t) sheet.firsts)
  where
    by : (a b : Bool) → (cond a (cond (a && b) nothing broke_first) unlawful ≡ nothing) ↔ T (a && b)
    by true true = (λ e. tt, λ h. refl)
    by true false = (λ e. absurd (omega arith), λ h. absurd h)
    by false b = (λ e. absurd (omega arith), λ h. absurd h)

-- A later state is no breach exactly if it is lawful and every step rule holds of the step into it.
next-fine : (sheet : Sheet) (s t : ℕ) → (next_is sheet s t ≡ nothing) ↔ (T (lawful sheet t) × T (every (step_holds s t) sheet.steps))
unfolding next_is
next-fine sheet s t = by (lawful sheet t) (ℕ_discrete (first_broken s t 1 sheet.steps) 0) (none-broken s t 1 (omega arith) sheet.steps)
  where
    Rules : Type 0
    Rules = T (every (step_holds s t) sheet.steps)

    by : (a : Bool) → Dec (first_broken s t 1 sheet.steps ≡ 0) → (first_broken s t 1 sheet.steps ≡ 0) ↔ Rules
        → (cond a (cond (eqb (first_broken s t 1 sheet.steps) 0) nothing broke_step) unlawful ≡ nothing) ↔ (T a × Rules)
    by true (yes e) rules =
        (λ z. (tt, rules.0 e), λ h. ap (λ (b : Bool). cond b nothing broke_step) (eq-eqb (first_broken s t 1 sheet.steps) 0 e))
    by true (no n) rules =
        let c : eqb (first_broken s t 1 sheet.steps) 0 ≡ false = ne_eqb (first_broken s t 1 sheet.steps) 0 n in
        (λ z. absurd (omega (arith, sym (ap (λ (b : Bool). cond b nothing broke_step) c) ∙ z)), λ h. absurd (n (rules.1 h.1)))
    by false d rules = (λ e. absurd (omega arith), λ h. absurd h.0)

-- A move is from a lawful state to a lawful state, and every step rule holds of it.
move-parts : (sheet : Sheet) (s t : ℕ) → T (moves sheet s t) ↔ (T (lawful sheet s) × T (lawful sheet t)
    × T (every (step_holds s t) sheet.steps))
unfolding moves
move-parts sheet s t = by (lawful sheet s) (lawful sheet t) (every (step_holds s t) sheet.steps)
  where
    by : (a b c : Bool) → T (a && b && c) ↔ (T a × T b × T c)
    by true true c = (λ x. (tt, tt, x), λ p. p.2)
    by true false c = (λ x. absurd x, λ p. absurd p.1)
    by false b c = (λ x. absurd x, λ p. absurd p.0)

-- A first state is lawful.
first-lawful : (sheet : Sheet) (t : ℕ) → T (first_state sheet t) → T (lawful sheet t)
unfolding first_state
first-lawful sheet t = by (lawful sheet t) (every (some_literal_true t) sheet.firsts)
  where
    by : (a b : Bool) → T (a && b) → T a
    by true b x = tt
    by false b x = absurd x

-- Nothing wrong at any moment is a clean log, and the other way round.
nothing-wrong : (sheet : Sheet) (log : List ℕ) → ((i : ℕ) → i < length log → what_at sheet log i ≡ nothing) ↔ Clean sheet log
unfolding what_at
nothing-wrong sheet log = (to, from)
  where
    to : ((i : ℕ) → i < length log → what_at sheet log i ≡ nothing) → Clean sheet log
    to fine = record { all_lawful = law; starts = start; goes = go }
      where
        start : 0 < length log → T (first_state sheet (state_at log 0))
        start h = (first_fine sheet (state_at log 0)).0 (fine 0 h)

        law : (i : ℕ) → i < length log → T (lawful sheet (state_at log i))
        law zero h = first-lawful sheet (state_at log 0) (start h)
        law (suc i) h = ((next-fine sheet (state_at log i) (state_at log (suc i))).0 (fine (suc i) h)).0

        go : (i : ℕ) → suc i < length log → T (moves sheet (state_at log i) (state_at log (suc i)))
        go i h =
            let now = (next-fine sheet (state_at log i) (state_at log (suc i))).0 (fine (suc i) h) in
            (move-parts sheet (state_at log i) (state_at log (suc i))).1 (law i (omega arith), now.0, now.1)

    from : Clean sheet log → (i : ℕ) → i < length log → what_at sheet log i ≡ nothing
    from clean zero h = (first_fine sheet (state_at log 0)).1 (clean.starts h)
    from clean (suc i) h =
        let all = (move-parts sheet (state_at log i) (state_at log (suc i))).0 (clean.goes i h) in
        (next-fine sheet (state_at log i) (state_at log (suc i))).1 (all.1, all.2)

-- "No breach is told exactly if .."
pub clean-exactly : (sheet : Sheet) (log : List ℕ) {account : Account} → AccountOf sheet log account
    → (account.what ≡ nothing) ↔ Clean sheet log
clean-exactly sheet log {account} a = by a.breach_is
  where
    by : Breach sheet log account.what account.moment account.rule ⊎ NoBreach sheet log account.what account.moment
        account.rule
        → (account.what ≡ nothing) ↔ Clean sheet log
    by (inl b) = (
      λ z. absurd (b.some_breach z),
      λ clean. absurd (b.some_breach (b.what_is ∙ (nothing-wrong sheet log).1 clean _ b.within)),
    )
    by (inr n) = (λ z. (nothing-wrong sheet log).0 n.clean, λ clean. n.no_what)

-- A log whose states are those of a run, from its first moment on, is clean.
pub run-clean : (sheet : Sheet) (log : List ℕ) (f : ℕ → ℕ) → Run (system_of sheet) f → ((i : ℕ) → i < length log → state_at log i ≡ f i)
    → Clean sheet log
unfolding system_of
run-clean sheet log f run same = record { all_lawful = law; starts = start; goes = go }
  where
    start : 0 < length log → T (first_state sheet (state_at log 0))
    start h = subst (λ (s : ℕ). T (first_state sheet s)) (sym (same 0 h)) run.starts

    go : (i : ℕ) → suc i < length log → T (moves sheet (state_at log i) (state_at log (suc i)))
    go i h =
        subst (λ (s : ℕ). T (moves sheet s (state_at log (suc i)))) (sym (same i (omega arith)))
        (subst (λ (t : ℕ). T (moves sheet (f i) t)) (sym (same (suc i) h)) (run.goes i))

    law : (i : ℕ) → i < length log → T (lawful sheet (state_at log i))
    law i h = subst (λ (s : ℕ). T (lawful sheet s)) (sym (same i h)) ((move-parts sheet (f i) (f (suc i))).0 (run.goes i)).0

-- A run paper that is accepted, as the judge's is, read on as far as a log goes: no breach.
pub accepted-clean : (sheet : Sheet) (states : List ℕ) (a : ℕ) (log : List ℕ) → RunAccepted (system_of sheet) states a
    → ((i : ℕ) → i < length log → state_at log i ≡ reading states a i) → Clean sheet log
accepted-clean sheet states a log ok same = run-clean sheet log (reading states a)
    ((run-accepted-exactly (system_of sheet) states a).0 ok).1.run same
