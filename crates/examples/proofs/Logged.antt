-- Order 2's examples, proved: each by computing the sheet's first fault, whether the account or the piece is past the bound, and the
-- account carried on. An account is computed with by its parts; that its 515 numbers are these parts is a law (`numbers-read`,
-- `numbers-written`), since reading them place by place takes long. Assumes nothing.
use mathlib.Core.Path.{◌≡◌, refl, sym, ◌∙◌, ap, ap₂, subst}
use mathlib.Core.Bool.{Bool, true, ◌&&◌}
use mathlib.Core.Logic.{inl, inr}
use mathlib.Core.Option.{none}
use mathlib.Core.List.{List, [], ◌∷◌, ◌++◌}
use Prim.Native.Nat.{ℕ, zero, suc, ◌+◌, ◌<◌}
use native.Mathlib.Omega.{arith}
use lib.Dec.{T, leb, eqb, leb→le, eqb→eq, lit≤}
use lib.ListN.{length, get_or, replicate}
use Rattle.meaning.specs.Sheet.{bad_letters, first_fault, decode}
use Rattle.meaning.specs.Rules.{lawful, first_state, step_holds, all_literals_true, some_literal_true}
use Rattle.meaning.proofs.Parts.{and_parts}
use Rattle.audit_account.specs.Account.{Account, AccountOf, what_at, rule_at, keeps, breaks, tallies_of, last_of, most_tallies}
use Rattle.audit_account.specs.Carry.{carried, SomePast, PastBy, Past, Audited, faulty, past, done, numbers_at, read_account, write_account}
use Rattle.audit_account.specs.Carry.{most_moments, AuditedOut}
use Rattle.examples.specs.Logs.{Logs, turns, torn, guarded, plain}

-- ---- an account's 515 numbers

-- an account with these tallies of rules 1 and 2, and one whose last tallies are these
abbrev holding : (count last what moment rule k1 k2 b1 b2 : ℕ) → Account
holding count last what moment rule k1 k2 b1 b2 = record {
  count = count;
  last = last;
  what = what;
  moment = moment;
  rule = rule;
  kept = k1 ∷ k2 ∷ replicate 253 0;
  broken = b1 ∷ b2 ∷ replicate 253 0;
}

abbrev ending : (kept broken : ℕ) → Account
ending kept broken = record {
  count = 0;
  last = 0;
  what = 0;
  moment = 0;
  rule = 0;
  kept = replicate 254 0 ++ (kept ∷ []);
  broken = replicate 254 0 ++ (broken ∷ []);
}

abbrev in_numbers : Account → List ℕ
in_numbers a = a.count ∷ a.last ∷ a.what ∷ a.moment ∷ a.rule ∷ (a.kept ++ a.broken)

-- the numbers behind a list's first; those behind more of it; a list's own numbers
numbers-behind-one : (n x : ℕ) (l : List ℕ) (at : ℕ) → numbers_at n (x ∷ l) (suc at) ≡ numbers_at n l at
unfolding numbers_at
numbers-behind-one zero x l at = refl
numbers-behind-one (suc n) x l at = ap (λ (r : List ℕ). get_or l at 0 ∷ r) (numbers-behind-one n x l (suc at))

numbers-behind : (n : ℕ) (a l : List ℕ) → numbers_at n (a ++ l) (length a) ≡ numbers_at n l 0
numbers-behind n [] l = refl
numbers-behind n (x ∷ a) l = numbers-behind-one n x (a ++ l) (length a) ∙ numbers-behind n a l

numbers-own : (m l : List ℕ) → numbers_at (length m) (m ++ l) 0 ≡ m
unfolding numbers_at
numbers-own [] l = refl
numbers-own (x ∷ m) l = ap (λ (r : List ℕ). x ∷ r) (numbers-behind-one (length m) x (m ++ l) 0 ∙ numbers-own m l)

-- the same without a list behind
numbers-alone : (m : List ℕ) → numbers_at (length m) m 0 ≡ m
unfolding numbers_at
numbers-alone [] = refl
numbers-alone (x ∷ m) = ap (λ (r : List ℕ). x ∷ r) (numbers-behind-one (length m) x m 0 ∙ numbers-alone m)

-- 255 tallies of each kind
record Long (a : Account) : Type 0 where
  kept_long : length a.kept ≡ most_tallies
  broken_long : length a.broken ≡ most_tallies

unfoldable long? : Account → Bool
long? a = eqb (length a.kept) most_tallies && eqb (length a.broken) most_tallies

long : (a : Account) → T (long? a) → Long a
unfolding long?
long a x =
    let w = (and_parts (eqb (length a.kept) most_tallies) (eqb (length a.broken) most_tallies)).0 x in
    record { kept_long = eqb→eq (length a.kept) most_tallies w.0; broken_long = eqb→eq (length a.broken) most_tallies w.1 }

-- Its numbers read are the account.
numbers-read : (a : Account) → Long a → read_account (in_numbers a) ≡ a
unfolding read_account numbers_at
numbers-read a L = ap₂ (λ (k b : List ℕ). record {
  count = a.count;
  last = a.last;
  what = a.what;
  moment = a.moment;
  rule = a.rule;
  kept = k;
  broken = b;
}) kept-is broken-is
  where
    five : List ℕ
    five = a.count ∷ a.last ∷ a.what ∷ a.moment ∷ a.rule ∷ []

    kept-is : numbers_at most_tallies (in_numbers a) 5 ≡ a.kept
    kept-is =
        numbers-behind most_tallies five (a.kept ++ a.broken)
        ∙ subst (λ (n : ℕ). numbers_at n (a.kept ++ a.broken) 0 ≡ a.kept) L.kept_long (numbers-own a.kept a.broken)

    at : length (five ++ a.kept) ≡ 260
    at = ap (λ (n : ℕ). suc (suc (suc (suc (suc n))))) L.kept_long

    broken-is : numbers_at most_tallies (in_numbers a) 260 ≡ a.broken
    broken-is =
        subst (λ (n : ℕ). numbers_at most_tallies (in_numbers a) n ≡ numbers_at most_tallies a.broken 0) at
        (numbers-behind most_tallies (five ++ a.kept) a.broken)
        ∙ subst (λ (n : ℕ). numbers_at n a.broken 0 ≡ a.broken) L.broken_long (numbers-alone a.broken)

-- An account written is its numbers.
numbers-written : (a : Account) → Long a → in_numbers a ≡ write_account a
unfolding write_account
numbers-written a L = ap₂ (λ (k b : List ℕ). a.count ∷ a.last ∷ a.what ∷ a.moment ∷ a.rule ∷ (k ++ b))
    (sym (subst (λ (n : ℕ). numbers_at n a.kept 0 ≡ a.kept) L.kept_long (numbers-alone a.kept)))
    (sym (subst (λ (n : ℕ). numbers_at n a.broken 0 ≡ a.broken) L.broken_long (numbers-alone a.broken)))

-- What is promised of two accounts is promised of their numbers.
in-numbers : {sheet piece : List ℕ} {n place : ℕ} (was is : Account) → Long was → Long is → Audited sheet was piece n place is
    → AuditedOut sheet (in_numbers was) piece n (in_numbers is)
in-numbers {sheet} {piece} {n} {place} was is L M p = record {
  place = place;
  back = is;
  promise = subst (λ (a : Account). Audited sheet a piece n place is) (sym (numbers-read was L)) p;
  written = numbers-written is M;
}

-- ---- the bound

-- every tally is within the bound
unfoldable all-within : List ℕ → Bool
all-within [] = true
all-within (n ∷ l) = leb n most_moments && all-within l

-- then none is past it
none-past : (l : List ℕ) → T (all-within l) → SomePast l → ⊥
unfolding all-within
none-past l x p = below l x p.at p.past
  where
    below : (l : List ℕ) → T (all-within l) → (i : ℕ) → most_moments < get_or l i 0 → ⊥
    below [] x i h = omega (arith, h)
    below (n ∷ l) x zero h = omega (arith, h, leb→le n most_moments ((and_parts (leb n most_moments) (all-within l)).0 x).0)
    below (n ∷ l) x (suc i) h = below l ((and_parts (leb n most_moments) (all-within l)).0 x).1 i h

-- an account and so many more states are within it, and so not past it
unfoldable within? : Account → ℕ → Bool
unfolding all-within
within? a more = leb (a.count + more) most_moments && (all-within a.kept && all-within a.broken)

not-past : (a : Account) (more : ℕ) → T (within? a more) → PastBy a more → ⊥
unfolding within?
not-past a more x = by
  where
    each : T (leb (a.count + more) most_moments) × T (all-within a.kept && all-within a.broken)
    each = (and_parts (leb (a.count + more) most_moments) (all-within a.kept && all-within a.broken)).0 x

    tallies : T (all-within a.kept) × T (all-within a.broken)
    tallies = (and_parts (all-within a.kept) (all-within a.broken)).0 each.1

    by : PastBy a more → ⊥
    by (inl (inl h)) = omega (arith, h, leb→le (a.count + more) most_moments each.0)
    by (inl (inr h)) = omega (arith, h, leb→le (a.count + more) most_moments each.0)
    by (inr (inl p)) = none-past a.kept tallies.0 p
    by (inr (inr p)) = none-past a.broken tallies.1 p

-- ---- calls

-- not refused
carries : (sheet : List ℕ) (was is : Account) (piece : List ℕ) → first_fault sheet ≡ none → T (within? was (length piece))
    → is ≡ carried (decode sheet) was piece → T (long? was) → T (long? is) → AuditedOut sheet (in_numbers was) piece 0 (in_numbers is)
carries sheet was is piece good w e L M =
    in-numbers {place = 0} was is (long was L) (long is M) (done good (not-past was (length piece) w) refl refl e)

-- refused with 15
refuses : (sheet : List ℕ) (was : Account) (piece : List ℕ) → first_fault sheet ≡ none → Past was piece → T (long? was)
    → AuditedOut sheet (in_numbers was) piece 15 (in_numbers was)
refuses sheet was piece good over L = in-numbers {place = 0} was was (long was L) (long was L) (past good over refl refl refl)

-- ---- the examples

abbrev nothing_yet : Account
nothing_yet = holding 0 0 0 0 0 0 0 0 0

abbrev counted : (count last : ℕ) → Account
counted count last = holding count last 0 0 0 0 0 0 0

-- the whole log's account, sentence by sentence
torn-log : AccountOf (decode torn) (1 ∷ 0 ∷ []) (holding 2 0 3 1 1 0 1 1 0)
unfolding decode lawful first_state step_holds all_literals_true some_literal_true what_at rule_at keeps breaks tallies_of last_of
torn-log = record {
  count-is = refl;
  last-is = refl;
  breach_is = inl (record {
    within = lit≤ tt;
    some_breach = λ e. omega (arith, e);
    what_is = refl;
    rule-is = refl;
    first = before;
  });
  kept-is = refl;
  broken-is = refl;
}
  where
    before : (i : ℕ) → i < 1 → what_at (decode torn) (1 ∷ 0 ∷ []) i ≡ 0
    before zero h = refl
    before (suc i) h = absurd (omega arith)

pub the-logs : Logs
unfolding first_fault decode carried lawful first_state step_holds all_literals_true some_literal_true within? long?
the-logs = record {
  clean = carries turns nothing_yet (holding 3 0 0 0 0 1 1 0 0) (1 ∷ 2 ∷ 0 ∷ []) refl tt refl tt tt;
  unlawful = carries turns nothing_yet (holding 3 3 1 2 0 1 1 0 0) (1 ∷ 2 ∷ 3 ∷ []) refl tt refl tt tt;
  broke-first = carries turns nothing_yet (holding 1 2 2 0 0 0 0 0 0) (2 ∷ []) refl tt refl tt tt;
  broke_both_steps = carries turns nothing_yet (holding 2 1 3 1 1 0 0 1 1) (1 ∷ 1 ∷ []) refl tt refl tt tt;
  broke_step_1 = carries torn nothing_yet (holding 2 0 3 1 1 0 1 1 0) (1 ∷ 0 ∷ []) refl tt refl tt tt;
  broke_step_2 = carries torn nothing_yet (holding 2 1 3 1 2 1 0 0 1) (1 ∷ 1 ∷ []) refl tt refl tt tt;
  unlawful_before_first = carries guarded nothing_yet (holding 1 0 1 0 0 0 0 0 0) (0 ∷ []) refl tt refl tt tt;
  unlawful_before_step = carries turns nothing_yet (holding 2 3 1 1 0 1 0 0 1) (1 ∷ 3 ∷ []) refl tt refl tt tt;
  first_at_0_only = carries turns nothing_yet (holding 2 2 0 0 0 1 1 0 0) (1 ∷ 2 ∷ []) refl tt refl tt tt;
  first_breach_stands = carries torn nothing_yet (holding 4 0 3 1 2 1 1 1 1) (1 ∷ 1 ∷ 0 ∷ 0 ∷ []) refl tt refl tt tt;
  above_the_letters = carries torn nothing_yet (holding 3 0 1 1 0 1 1 1 1) (1 ∷ 3 ∷ 0 ∷ []) refl tt refl tt tt;
  cut_before = carries torn nothing_yet (holding 1 1 0 0 0 0 0 0 0) (1 ∷ []) refl tt refl tt tt;
  cut_between = carries torn (holding 1 1 0 0 0 0 0 0 0) (holding 1 1 0 0 0 0 0 0 0) [] refl tt refl tt tt;
  cut-behind = carries torn (holding 1 1 0 0 0 0 0 0 0) (holding 2 0 3 1 1 0 1 1 0) (0 ∷ []) refl tt refl tt tt;
  whole_log = torn-log;
  million = carries plain (counted 1000000 0) (counted 1000000 0) [] refl tt refl tt tt;
  to_the_million = carries plain (counted 999999 0) (counted 1000000 1) (1 ∷ []) refl tt refl tt tt;
  past_the_million = refuses plain (counted 1000000 0) (1 ∷ []) refl (inl (inr (lit≤ tt))) tt;
  two_past_the_million = refuses plain (counted 999999 0) (1 ∷ 1 ∷ []) refl (inl (inr (lit≤ tt))) tt;
  count_past = refuses plain (counted 1000001 0) [] refl (inl (inl (lit≤ tt))) tt;
  kept_million = carries plain (ending 1000000 0) (ending 1000000 0) [] refl tt refl tt tt;
  kept_past = refuses plain (ending 1000001 0) [] refl (inr (inl (record { at = 254; within = lit≤ tt; past = lit≤ tt }))) tt;
  broken_million = carries plain (ending 0 1000000) (ending 0 1000000) [] refl tt refl tt tt;
  broken_past = refuses plain (ending 0 1000001) [] refl (inr (inr (record { at = 254; within = lit≤ tt; past = lit≤ tt }))) tt;
  bad_sheet_before_15 = in-numbers {place = 3} (counted 1000001 1) (counted 1000001 1) (long _ tt) (long _ tt)
      (faulty (record { why = bad_letters; at = 3 }) refl refl refl refl);
  bad_sheet_placed = faulty (record { why = bad_letters; at = 3 }) refl refl refl refl;
  no_place_on_15 = past refl (inl (inl (lit≤ tt))) refl refl refl;
}
