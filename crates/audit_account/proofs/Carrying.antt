-- Cutting a log does not show. Carrying an account on by two pieces is carrying it on by both joined (carried-join); an account of a log,
-- carried on by a piece, is the account of the log with the piece behind it (carried-account), and so the empty account carried on by any
-- log is that log's (whole-account). A log has one account (account-unique). Assumes nothing.
use mathlib.Core.Path.{◌≡◌, refl, sym, ◌∙◌, ap, ap₂, subst}
use mathlib.Core.Logic.{◌⊎◌, inl, inr}
use mathlib.Core.Bool.{Bool, true, false, cond, not, ◌&&◌}
use mathlib.Core.List.{List, [], ◌∷◌, ◌++◌, map, append_assoc, append-nil}
use Prim.Native.Nat.{ℕ, zero, suc, ◌+◌, ◌-◌, ◌≤◌, ◌<◌}
use native.Mathlib.Nat.{add_comm}
use native.Mathlib.Decide.{dec_lt, ℕ_discrete}
use native.Mathlib.Omega.{arith}
use borrow.Author.Tests.{eq-eqb, ne_eqb}
use lib.Dec.{eqb}
use lib.ListN.{length, get_or, replicate, length-append, get_or-append}
use lib.Seq.{get_or-append_seam}
use Rattle.meaning.specs.Sheet.{Sheet, StepRule}
use Rattle.meaning.specs.Rules.{all_literals_true, some_literal_true}
use Rattle.rules.specs.Book.{how_many}
use Rattle.rules.proofs.Counting.{same_count}
use Rattle.audit_account.specs.Account.{Account, AccountOf, Breach, NoBreach, nothing, first_is, next_is, rule_is, state_at, what_at}
use Rattle.audit_account.specs.Account.{rule_at}
use Rattle.audit_account.specs.Account.{asks, keeps, breaks, moves_of, tally_of, tallies_of, last_of, most_tallies}
use Rattle.audit_account.specs.Carry.{is_next, breaks_next, is_breach, one_more_of, keeps_next, breaks_rule, noted, carried, empty}

-- ---- one state more at the end of a log

length-one-more : (log : List ℕ) (t : ℕ) → length (log ++ t ∷ []) ≡ suc (length log)
length-one-more log t = length-append log (t ∷ []) ∙ let e : length log + 1 ≡ suc (length log) = omega arith in e

state-before : (log : List ℕ) (t i : ℕ) → i < length log → state_at (log ++ t ∷ []) i ≡ state_at log i
unfolding state_at
state-before log t i h = get_or-append log (t ∷ []) 0 i h

state-new : (log : List ℕ) (t n : ℕ) → length log ≡ n → state_at (log ++ t ∷ []) n ≡ t
unfolding state_at
state-new log t n e = ap (λ (i : ℕ). get_or (log ++ t ∷ []) i 0) (sym e) ∙ get_or-append_seam log t [] 0

last-new : (log : List ℕ) (t : ℕ) → last_of (log ++ t ∷ []) ≡ t
unfolding last_of
last-new log t =
    let e : length (log ++ t ∷ []) - 1 ≡ length log = omega (arith, length-one-more log t) in
    ap (state_at (log ++ t ∷ [])) e ∙ state-new log t (length log) refl

-- the state before the new one is the log's last
last-before : (log : List ℕ) (t n : ℕ) → length log ≡ suc n → state_at (log ++ t ∷ []) n ≡ last_of log
unfolding last_of
last-before log t n e =
    let there : length log - 1 ≡ n = omega arith in
    state-before log t n (omega arith) ∙ ap (state_at log) (sym there)

-- what is told of earlier moments stays
what-before : (sheet : Sheet) (log : List ℕ) (t i : ℕ) → i < length log → what_at sheet (log ++ t ∷ []) i ≡ what_at sheet log i
unfolding what_at
what-before sheet log t zero h = ap (first_is sheet) (state-before log t 0 h)
what-before sheet log t (suc i) h = ap₂ (next_is sheet) (state-before log t i (omega arith)) (state-before log t (suc i) h)

rule-before : (sheet : Sheet) (log : List ℕ) (t i : ℕ) → i < length log → rule_at sheet (log ++ t ∷ []) i ≡ rule_at sheet log i
unfolding rule_at
rule-before sheet log t zero h = refl
rule-before sheet log t (suc i) h = ap₂ (rule_is sheet) (state-before log t i (omega arith)) (state-before log t (suc i) h)

-- what is told of the new moment, n
what-new : (sheet : Sheet) (log : List ℕ) (t n : ℕ) → length log ≡ n
    → what_at sheet (log ++ t ∷ []) n ≡ cond (eqb n 0) (first_is sheet t) (next_is sheet (last_of log) t)
unfolding what_at
what-new sheet log t zero e = ap (first_is sheet) (state-new log t 0 e)
what-new sheet log t (suc n) e =
    ap₂ (next_is sheet) (last-before log t n e) (state-new log t (suc n) e)
    ∙ sym (ap (λ (b : Bool). cond b (first_is sheet t) (next_is sheet (last_of log) t)) (ne_eqb (suc n) 0 (λ z. omega arith)))

rule-new : (sheet : Sheet) (log : List ℕ) (t n : ℕ) → length log ≡ n
    → rule_at sheet (log ++ t ∷ []) n ≡ cond (eqb n 0) 0 (rule_is sheet (last_of log) t)
unfolding rule_at
rule-new sheet log t zero e = refl
rule-new sheet log t (suc n) e =
    ap₂ (rule_is sheet) (last-before log t n e) (state-new log t (suc n) e)
    ∙ sym (ap (λ (b : Bool). cond b 0 (rule_is sheet (last_of log) t)) (ne_eqb (suc n) 0 (λ z. omega arith)))

-- ---- tallies

-- a rule's test of a move, on its earlier and its later state
abbrev Moving : Type 0
Moving = StepRule → (s t : ℕ) → Bool

-- such a test along a log
abbrev along : Moving → StepRule → List ℕ → ℕ → Bool
along g rule log i = g rule (state_at log i) (state_at log (suc i))

-- the move into the new state is counted, if there is one
tally-new : (g : Moving) (rule : StepRule) (log : List ℕ) (t n : ℕ) → length log ≡ n
    → tally_of (along g) (log ++ t ∷ []) rule ≡ tally_of (along g) log rule + cond (not (eqb n 0) && g rule (last_of log) t) 1 0
unfolding tally_of moves_of
tally-new g rule log t zero e =
    let now : length (log ++ t ∷ []) - 1 ≡ 0 = omega (arith, length-one-more log t) in
    let was : length log - 1 ≡ 0 = omega arith in
    ap (how_many (along g rule (log ++ t ∷ []))) now ∙ sym (ap (λ (k : ℕ). how_many (along g rule log) k + 0) was)
tally-new g rule log t (suc n) e =
    let now : length (log ++ t ∷ []) - 1 ≡ suc n = omega (arith, length-one-more log t) in
    let was : length log - 1 ≡ n = omega arith in
    let some : eqb (suc n) 0 ≡ false = ne_eqb (suc n) 0 (λ z. omega arith) in
    ap (how_many (along g rule (log ++ t ∷ []))) now
    ∙ add_comm _ (how_many (along g rule (log ++ t ∷ [])) n)
    ∙ ap₂ ◌+◌
    (same_count n (λ i h. ap₂ (g rule) (state-before log t i (omega arith)) (state-before log t (suc i) (omega arith)))
    ∙ ap (how_many (along g rule log)) (sym was))
    (ap (λ (b : Bool). cond b 1 0)
    (ap₂ (g rule) (last-before log t n e) (state-new log t (suc n) e)
    ∙ sym (ap (λ (b : Bool). not b && g rule (last_of log) t) some)))

-- one more for each rule that passes, all at once
more-each : (f g : StepRule → ℕ) (test : StepRule → Bool) → ((rule : StepRule) → f rule ≡ g rule + cond (test rule) 1 0)
    → (rules : List StepRule) (rest : List ℕ) → map f rules ++ rest ≡ one_more_of test rules (map g rules ++ rest)
unfolding one_more_of
more-each f g test each [] rest = refl
more-each f g test each (rule ∷ rules) rest = ap₂ ◌∷◌ (each rule) (more-each f g test each rules rest)

tallies-new : (g : Moving) (sheet : Sheet) (log : List ℕ) (t n : ℕ) → length log ≡ n
    → tallies_of (along g) sheet (log ++ t ∷ []) ≡ one_more_of (λ rule. not (eqb n 0) && g rule (last_of log) t) sheet.steps
    (tallies_of (along g) sheet log)
unfolding tallies_of
tallies-new g sheet log t n e =
    more-each (tally_of (along g) (log ++ t ∷ [])) (tally_of (along g) log) (λ rule. not (eqb n 0) && g rule (last_of log) t)
    (λ rule. tally-new g rule log t n e) sheet.steps (replicate (most_tallies - length sheet.steps) 0)

-- ---- the breach

module _ (sheet : Sheet) (log : List ℕ) (t : ℕ) where
  -- a breach told before stays
  breach-stays : {what moment rule : ℕ} → Breach sheet log what moment rule → Breach sheet (log ++ t ∷ []) what moment rule
  breach-stays b = record {
    within = omega (arith, b.within, length-one-more log t);
    some_breach = b.some_breach;
    what_is = b.what_is ∙ sym (what-before sheet log t _ b.within);
    rule-is = b.rule-is ∙ sym (rule-before sheet log t _ b.within);
    first = λ i h. what-before sheet log t i (omega (arith, b.within)) ∙ b.first i h;
  }

  -- a clean log with a clean state behind it is clean
  clean-stays : {what moment rule : ℕ} → NoBreach sheet log what moment rule → what_at sheet (log ++ t ∷ []) (length log) ≡ nothing
      → NoBreach sheet (log ++ t ∷ []) what moment rule
  clean-stays nb new = record {
    clean = λ i h. by i h (dec_lt i (length log));
    no_what = nb.no_what;
    no_moment = nb.no_moment;
    no_rule = nb.no_rule;
  }
    where
      by : (i : ℕ) → i < length (log ++ t ∷ []) → Dec (i < length log) → what_at sheet (log ++ t ∷ []) i ≡ nothing
      by i h (yes earlier) = what-before sheet log t i earlier ∙ nb.clean i earlier
      by i h (no late) =
          let e : i ≡ length log = omega (arith, length-one-more log t) in
          ap (what_at sheet (log ++ t ∷ [])) e ∙ new

  -- the first breach of a clean log
  breach-new : {what moment rule : ℕ} → NoBreach sheet log what moment rule → (what_at sheet (log ++ t ∷ []) (length log) ≡ nothing → ⊥)
      → Breach sheet (log ++ t ∷ []) (what_at sheet (log ++ t ∷ []) (length log)) (length log) (rule_at sheet (log ++ t ∷ []) (length log))
  breach-new nb new = record {
    within = omega (arith, length-one-more log t);
    some_breach = new;
    what_is = refl;
    rule-is = refl;
    first = λ i h. what-before sheet log t i h ∙ nb.clean i h;
  }

-- ---- an account with one state more

-- What `noted` tells of the breach, where the account's count and last state are the log's.
noted-breach : (sheet : Sheet) (log : List ℕ) (account : Account) (t : ℕ) → account.count ≡ length log → account.last ≡ last_of log
    → Breach sheet log account.what account.moment account.rule ⊎ NoBreach sheet log account.what account.moment
    account.rule
    → Breach sheet (log ++ t ∷ []) (noted sheet account t).what (noted sheet account t).moment (noted sheet account t).rule
    ⊎ NoBreach sheet (log ++ t ∷ []) (noted sheet account t).what (noted sheet account t).moment (noted sheet account t).rule
unfolding noted is_next breaks_next is_breach
noted-breach sheet log account t count-is last-is told = by told (ℕ_discrete (what_at sheet new (length log)) nothing)
  where
    new : List ℕ
    new = log ++ t ∷ []

    is-next : is_next sheet account t ≡ what_at sheet new (length log)
    is-next =
        ap₂ (λ (c l : ℕ). cond (eqb c 0) (first_is sheet t) (next_is sheet l t)) count-is last-is
        ∙ sym (what-new sheet log t (length log) refl)

    breaks-next : breaks_next sheet account t ≡ rule_at sheet new (length log)
    breaks-next =
        ap₂ (λ (c l : ℕ). cond (eqb c 0) 0 (rule_is sheet l t)) count-is last-is ∙ sym (rule-new sheet log t (length log) refl)

    Told : (what moment rule : ℕ) → Type 0
    Told what moment rule = Breach sheet new what moment rule ⊎ NoBreach sheet new what moment rule

    -- the three numbers, chosen by whether the state is the first breach
    chosen : (b : Bool) → is_breach sheet account t ≡ b
        → Told (cond b (is_next sheet account t) account.what) (cond b account.count account.moment)
        (cond b (breaks_next sheet account t) account.rule)
        → Told (noted sheet account t).what (noted sheet account t).moment (noted sheet account t).rule
    chosen b e = subst
        (λ (x : Bool). Told (cond x (is_next sheet account t) account.what) (cond x account.count account.moment)
        (cond x (breaks_next sheet account t) account.rule))
        (sym e)

    by : Breach sheet log account.what account.moment account.rule ⊎ NoBreach sheet log account.what account.moment
        account.rule
        → Dec (what_at sheet new (length log) ≡ nothing)
        → Told (noted sheet account t).what (noted sheet account t).moment (noted sheet account t).rule
    by (inl b) d =
        let e : eqb account.what nothing ≡ false = ne_eqb account.what nothing b.some_breach in
        chosen false (ap (λ (x : Bool). x && not (eqb (is_next sheet account t) nothing)) e) (inl (breach-stays sheet log t b))
    by (inr nb) (yes fine) =
        let w : eqb account.what nothing ≡ true = eq-eqb account.what nothing nb.no_what in
        let n : eqb (is_next sheet account t) nothing ≡ true = eq-eqb (is_next sheet account t) nothing (is-next ∙ fine) in
        chosen false (ap₂ (λ (x y : Bool). x && not y) w n) (inr (clean-stays sheet log t nb fine))
    by (inr nb) (no wrong) =
        let w : eqb account.what nothing ≡ true = eq-eqb account.what nothing nb.no_what in
        let n : eqb (is_next sheet account t) nothing ≡ false = ne_eqb (is_next sheet account t) nothing (λ z. wrong (sym is-next ∙ z)) in
        chosen true (ap₂ (λ (x y : Bool). x && not y) w n)
        (inl (subst (λ (r : ℕ). Breach sheet new (is_next sheet account t) account.count r) (sym breaks-next)
        (subst (λ (c : ℕ). Breach sheet new (is_next sheet account t) c (rule_at sheet new (length log))) (sym count-is)
        (subst (λ (w : ℕ). Breach sheet new w (length log) (rule_at sheet new (length log))) (sym is-next)
        (breach-new sheet log t nb wrong)))))

-- The account of a log, with one state noted, is the account of the log with that state behind it.
pub noted-account : (sheet : Sheet) (log : List ℕ) (account : Account) (t : ℕ) → AccountOf sheet log account
    → AccountOf sheet (log ++ t ∷ []) (noted sheet account t)
unfolding noted keeps_next breaks_rule keeps breaks asks
noted-account sheet log account t a = record {
  count-is = ap suc a.count-is ∙ sym (length-one-more log t);
  last-is = sym (last-new log t);
  breach_is = noted-breach sheet log account t a.count-is a.last-is a.breach_is;
  kept-is = counted (λ rule s u. all_literals_true s rule.left && some_literal_true u rule.right) account.kept a.kept-is;
  broken-is = counted (λ rule s u. all_literals_true s rule.left && not (some_literal_true u rule.right)) account.broken a.broken-is;
}
  where
    counted : (g : Moving) (tallies : List ℕ) → tallies ≡ tallies_of (along g) sheet log
        → one_more_of (λ rule. not (eqb account.count 0) && g rule account.last t) sheet.steps tallies ≡ tallies_of (along g) sheet
        (log ++ t ∷ [])
    counted g tallies is =
        ap₂ (λ (c l : ℕ). one_more_of (λ rule. not (eqb c 0) && g rule l t) sheet.steps tallies) a.count-is a.last-is
        ∙ ap (one_more_of (λ rule. not (eqb (length log) 0) && g rule (last_of log) t) sheet.steps) is
        ∙ sym (tallies-new g sheet log t (length log) refl)

-- ---- pieces

-- Carrying on by two pieces, one after the other, is carrying on by both joined.
pub carried-join : (sheet : Sheet) (account : Account) (piece rest : List ℕ)
    → carried sheet account (piece ++ rest) ≡ carried sheet (carried sheet account piece) rest
unfolding carried
carried-join sheet account [] rest = refl
carried-join sheet account (t ∷ piece) rest = carried-join sheet (noted sheet account t) piece rest

-- The account of a log, carried on by a piece, is the account of the log with the piece behind it.
pub carried-account : (sheet : Sheet) (log : List ℕ) (account : Account) (piece : List ℕ) → AccountOf sheet log account
    → AccountOf sheet (log ++ piece) (carried sheet account piece)
unfolding carried
carried-account sheet log account [] a = subst (λ (l : List ℕ). AccountOf sheet l account) (sym (append-nil log)) a
carried-account sheet log account (t ∷ piece) a =
    subst (λ (l : List ℕ). AccountOf sheet l (carried sheet (noted sheet account t) piece)) (append_assoc log (t ∷ []) piece)
    (carried-account sheet (log ++ t ∷ []) (noted sheet account t) piece (noted-account sheet log account t a))

-- The empty account is that of the empty log, if the sheet has at most 255 step rules (as every sheet has: a byte counts them).
pub empty-account : (sheet : Sheet) → length sheet.steps ≤ most_tallies → AccountOf sheet [] empty
unfolding empty tallies_of tally_of moves_of last_of state_at
empty-account sheet few = record {
  count-is = refl;
  last-is = refl;
  breach_is = inr (record { clean = λ i h. absurd (omega arith); no_what = refl; no_moment = refl; no_rule = refl });
  kept-is = all-zero keeps;
  broken-is = all-zero breaks;
}
  where
    zeros-each : (f : StepRule → ℕ) → ((rule : StepRule) → f rule ≡ 0) → (rules : List StepRule) (n : ℕ)
        → map f rules ++ replicate n 0 ≡ replicate (length rules + n) 0
    zeros-each f none [] n = let e : 0 + n ≡ n = omega arith in ap (λ (k : ℕ). replicate {A = ℕ} k 0) (sym e)
    zeros-each f none (rule ∷ rules) n =
        ap₂ ◌∷◌ (none rule) (zeros-each f none rules n)
        ∙ let e : suc (length rules + n) ≡ suc (length rules) + n = omega arith in ap (λ (k : ℕ). replicate {A = ℕ} k 0) e

    all-zero : (test : StepRule → List ℕ → ℕ → Bool) → replicate most_tallies 0 ≡ tallies_of test sheet []
    all-zero test =
        let e : length sheet.steps + (most_tallies - length sheet.steps) ≡ most_tallies = omega arith in
        ap (λ (k : ℕ). replicate {A = ℕ} k 0) (sym e)
        ∙ sym (zeros-each (tally_of test []) (λ rule. refl) sheet.steps (most_tallies - length sheet.steps))

-- Carried on by any log, the empty account becomes that log's.
pub whole-account : (sheet : Sheet) (log : List ℕ) → length sheet.steps ≤ most_tallies → AccountOf sheet log (carried sheet empty log)
whole-account sheet log few = carried-account sheet [] empty log (empty-account sheet few)
