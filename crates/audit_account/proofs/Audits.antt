-- The call's promise leaves one outcome for every input (audited-unique, audited-out-unique) and every input has one (audited-met,
-- audited-out-met). Calls that are not refused, from the empty account on, end in the account of the joined log, however it is cut
-- (calls-account, cutting-does-not-show). Of an account of a log, no tally and no count by itself is past the bound: it is past it with a
-- piece exactly if the two together pass 1,000,000 (refused-by-length-only; Reports.antt says it of whole rows of calls). "The same sheet
-- each time" is a premise here, not of the call. Assumes nothing.
use mathlib.Core.Path.{◌≡◌, refl, sym, ◌∙◌, ap, subst}
use mathlib.Core.Logic.{inl, inr, ◌↔◌}
use mathlib.Core.Option.{Option, none, some}
use mathlib.Core.List.{List, [], ◌∷◌, ◌++◌}
use Prim.Native.Nat.{ℕ, ◌+◌, ◌≤◌, ◌<◌}
use native.Mathlib.Decide.{dec_lt}
use native.Mathlib.Omega.{arith}
use lib.ListN.{length, get_or, length-append}
use Rattle.meaning.specs.Sheet.{Sheet, Fault, number_of, first_fault, decode}
use Rattle.meaning.proofs.Promised.{same-fault, bad-not-good}
use Rattle.meaning.proofs.Demands.{fault-number}
use Rattle.meaning.proofs.Search.{either?, any_below}
use Rattle.audit_account.specs.Account.{Account, AccountOf, most_tallies, keeps, breaks}
use Rattle.audit_account.specs.Carry.{carried, empty, most_moments, SomePast, Past, Audited, faulty, past, done, read_account}
use Rattle.audit_account.specs.Carry.{write_account}
use Rattle.audit_account.specs.Carry.{AuditedOut}
use Rattle.audit_account.proofs.Carrying.{carried-join, whole-account}
use Rattle.audit_account.proofs.Accounts.{tallies-within}

-- ---- one outcome

-- The promise leaves one number, one place and one account.
pub audited-unique : {sheet : List ℕ} {account : Account} {piece : List ℕ} {m n p q : ℕ} {back other : Account}
    → Audited sheet account piece m p back → Audited sheet account piece n q other → (m ≡ n) × (p ≡ q) × (back ≡ other)
audited-unique (faulty f e n p b) (faulty g e' n' p' b') =
    let same = same-fault e e' in
    (n ∙ ap (λ (x : Fault). number_of x.why) same ∙ sym n', p ∙ ap (λ (x : Fault). x.at) same ∙ sym p', b ∙ sym b')
audited-unique (faulty f e n p b) (past e' over n' p' b') = absurd (bad-not-good e e')
audited-unique (faulty f e n p b) (done e' within n' p' b') = absurd (bad-not-good e e')
audited-unique (past e over n p b) (faulty g e' n' p' b') = absurd (bad-not-good e' e)
audited-unique (past e over n p b) (past e' over' n' p' b') = (n ∙ sym n', p ∙ sym p', b ∙ sym b')
audited-unique (past e over n p b) (done e' within n' p' b') = absurd (within over)
audited-unique (done e within n p b) (faulty g e' n' p' b') = absurd (bad-not-good e' e)
audited-unique (done e within n p b) (past e' over n' p' b') = absurd (within over)
audited-unique (done e within n p b) (done e' within' n' p' b') = (n ∙ sym n', p ∙ sym p', b ∙ sym b')

-- So does the C form's: its number and the 515 numbers.
pub audited-out-unique : {sheet before piece after other : List ℕ} {m n : ℕ} → AuditedOut sheet before piece m after
    → AuditedOut sheet before piece n other → (m ≡ n) × (after ≡ other)
audited-out-unique a b =
    let (number, place, back) = audited-unique a.promise b.promise in
    (number, a.written ∙ ap write_account back ∙ sym b.written)

-- ---- every input has one

-- Whether some tally is past the bound can be decided.
pub some-past? : (tallies : List ℕ) → Dec (SomePast tallies)
some-past? tallies = by (any_below (λ i. dec_lt most_moments (get_or tallies i 0)) most_tallies)
  where
    by : Dec ((i : ℕ) × (i < most_tallies) × (most_moments < get_or tallies i 0)) → Dec (SomePast tallies)
    by (yes (i, h, p)) = yes (record { at = i; within = h; past = p })
    by (no x) = no (λ p. x (p.at, p.within, p.past))

-- Whether an account and a piece pass the bound can be decided.
pub past? : (account : Account) (piece : List ℕ) → Dec (Past account piece)
past? account piece =
    either? (either? (dec_lt most_moments account.count) (dec_lt most_moments (account.count + length piece)))
    (either? (some-past? account.kept) (some-past? account.broken))

pub audited-met : (sheet : List ℕ) (account : Account) (piece : List ℕ)
    → (n : ℕ) × (place : ℕ) × (back : Account) × Audited sheet account piece n place back
audited-met sheet account piece = by (first_fault sheet) refl (past? account piece)
  where
    by : (o : Option Fault) → first_fault sheet ≡ o → Dec (Past account piece)
        → (n : ℕ) × (place : ℕ) × (back : Account) × Audited sheet account piece n place back
    by (some f) e d = (number_of f.why, f.at, account, faulty f e refl refl refl)
    by none e (yes over) = (15, 0, account, past e over refl refl refl)
    by none e (no within) = (0, 0, carried (decode sheet) account piece, done e within refl refl refl)

pub audited-out-met : (sheet before piece : List ℕ) → (n : ℕ) × (after : List ℕ) × AuditedOut sheet before piece n after
audited-out-met sheet before piece =
    let (n, place, back, promise) = audited-met sheet (read_account before) piece in
    (n, write_account back, record { place = place; back = back; promise = promise; written = refl })

-- ---- many calls

-- Calls one after the other, one for each piece, each answered 0 and handed what the one before handed back.
abbrev pub Calls : List ℕ → Account → List (List ℕ) → Account → Type 0
Calls sheet account [] last = last ≡ account
Calls sheet account (piece ∷ pieces) last = (back : Account) × Audited sheet account piece 0 0 back × Calls sheet back pieces last

-- the log that pieces are cut from
abbrev pub joined : List (List ℕ) → List ℕ
joined [] = []
joined (piece ∷ pieces) = piece ++ joined pieces

-- A call that is answered 0 was not past the bound, and carried the account on.
pub zero-call : {sheet : List ℕ} {account : Account} {piece : List ℕ} {place : ℕ} {back : Account}
    → Audited sheet account piece 0 place back
    → (Past account piece → ⊥) × (back ≡ carried (decode sheet) account piece)
zero-call (faulty f e n p b) = absurd (omega (arith, n, fault-number f.why))
zero-call (past e over n p b) = absurd (omega (arith, n))
zero-call (done e within n p b) = (within, b)

-- Calls that are all answered 0 carry the account on by the joined log.
pub calls-carry : (sheet : List ℕ) (account : Account) (pieces : List (List ℕ)) (last : Account) → Calls sheet account pieces last
    → last ≡ carried (decode sheet) account (joined pieces)
unfolding carried
calls-carry sheet account [] last e = e
calls-carry sheet account (piece ∷ pieces) last (back, call, rest) =
    calls-carry sheet back pieces last rest
    ∙ ap (λ (a : Account). carried (decode sheet) a (joined pieces)) (zero-call call).1
    ∙ sym (carried-join (decode sheet) account piece (joined pieces))

-- From the empty account they end in the account of the joined log.
pub calls-account : (sheet : List ℕ) (pieces : List (List ℕ)) (last : Account) → length (decode sheet).steps ≤ most_tallies
    → Calls sheet empty pieces last → AccountOf (decode sheet) (joined pieces) last
calls-account sheet pieces last few calls =
    subst (AccountOf (decode sheet) (joined pieces)) (sym (calls-carry sheet empty pieces last calls))
    (whole-account (decode sheet) (joined pieces) few)

-- "Cutting the log otherwise must not show": any two cuttings of one log that no call refuses end in the same account.
pub cutting-does-not-show : (sheet : List ℕ) (account : Account) (pieces others : List (List ℕ)) {last last' : Account}
    → joined pieces ≡ joined others
    → Calls sheet account pieces last → Calls sheet account others last' → last ≡ last'
cutting-does-not-show sheet account pieces others same p q =
    calls-carry sheet account pieces _ p ∙ ap (carried (decode sheet) account) same ∙ sym (calls-carry sheet account others _ q)

-- An account of a log is refused only where its moments and the piece together pass the bound: never for a tally, never for its count
-- alone.
pub refused-by-length-only : (sheet : Sheet) (log : List ℕ) (account : Account) (piece : List ℕ) → AccountOf sheet log account
    → Past account piece ↔ (most_moments < length (log ++ piece))
refused-by-length-only sheet log account piece a = (to, λ h. inl (inr (omega (arith, length-append log piece, a.count-is))))
  where
    within : (tallies : List ℕ) → ((i : ℕ) → get_or tallies i 0 ≤ length log) → SomePast tallies → most_moments < length (log ++ piece)
    within tallies few p = omega (arith, p.past, few p.at, length-append log piece)

    to : Past account piece → most_moments < length (log ++ piece)
    to (inl (inl h)) = omega (arith, length-append log piece, a.count-is)
    to (inl (inr h)) = omega (arith, length-append log piece, a.count-is)
    to (inr (inl p)) =
        within account.kept (λ i. subst (λ (l : List ℕ). get_or l i 0 ≤ length log) (sym a.kept-is)
        (tallies-within keeps sheet log i)) p
    to (inr (inr p)) =
        within account.broken (λ i. subst (λ (l : List ℕ). get_or l i 0 ≤ length log) (sym a.broken-is)
        (tallies-within breaks sheet log i)) p
