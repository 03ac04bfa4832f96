-- What an audit gives back, over every input and with the order's own numbers. Document 02, order 2: "At most 1,000,000 moments; a piece
-- that would pass that, or an account whose count or any tally is past it, is refused whole with 15. Cutting the log otherwise must not
-- show."
-- * 15 exactly if the sheet has no fault and the account is full (refused-exactly), and then nothing changes (refused-whole); 1 to 10
--   exactly if the sheet has a fault (fault-exactly), its own number and place whatever the account, a full one too (fault-first); 0
--   exactly otherwise (done-exactly), and then the account is carried on (done-carried).
-- * An account written out is 515 numbers (written-long); read again it is the same account (read-write), and 515 numbers read and written
--   again are the same (write-read-numbers); 515 zeros are the empty account (zeros-empty, empty-zeros). An account carried on from there
--   has 255 tallies of each kind (tallies-long).
-- * So cutting does not show in the C form either: from 515 zeros on, a row of pieces is answered 0 throughout exactly if the joined log
--   has at most 1,000,000 moments, and leaves its account written out (calls-out-exactly), as the one joined piece does
--   (cutting-does-not-show-out; two-pieces-out of two).
-- Assumes nothing.
use mathlib.Core.Path.{◌≡◌, refl, sym, ◌∙◌, ap, ap₂, subst}
use mathlib.Core.Bool.{Bool, true, false, cond}
use mathlib.Core.Logic.{◌⊎◌, inl, inr, ◌↔◌}
use mathlib.Core.Option.{none, some}
use mathlib.Core.List.{List, [], ◌∷◌, ◌++◌, append_assoc, append-nil}
use Prim.Native.Nat.{ℕ, zero, suc, ◌+◌, ◌≤◌, ◌<◌}
use native.Mathlib.Omega.{arith}
use lib.ListN.{length, get_or, replicate, length-append}
use lib.Seq.{ext_get_or}
use Rattle.meaning.specs.Sheet.{Sheet, StepRule, Fault, number_of, first_fault, decode}
use Rattle.meaning.proofs.Promised.{same-fault, bad-not-good}
use Rattle.meaning.proofs.Demands.{fault-number}
use Rattle.audit_account.specs.Account.{Account, most_tallies}
use Rattle.audit_account.specs.Carry.{carried, empty, Past, Audited, faulty, past, done, numbers_at, read_account}
use Rattle.audit_account.specs.Carry.{write_account, AuditedOut, one_more_of, keeps_next, breaks_rule, noted}
use Rattle.audit_account.proofs.Carrying.{carried-join}
use Rattle.audit_account.proofs.Accounts.{zeros-at, same_parts}
use Rattle.audit_account.proofs.Audits.{joined}
use Rattle.audit_account.proofs.Written.{numbers-long, numbers-at, tallies-first, tallies-second, write_read}

-- ---- what the call answers

-- the account is full for this piece: its count with the piece is above 1,000,000, or one of its 255 kept or 255 broken tallies is
abbrev pub Full : Account → List ℕ → Type 0
Full account piece = (1000000 < account.count + length piece)
    ⊎ ((i : ℕ) × (i < 255) × ((1000000 < get_or account.kept i 0) ⊎ (1000000 < get_or account.broken i 0)))

past-full : (account : Account) (piece : List ℕ) → Past account piece ↔ Full account piece
past-full account piece = (to, from)
  where
    to : Past account piece → Full account piece
    to (inl (inl h)) = inl (omega arith)
    to (inl (inr h)) = inl h
    to (inr (inl p)) = inr (p.at, p.within, inl p.past)
    to (inr (inr p)) = inr (p.at, p.within, inr p.past)

    from : Full account piece → Past account piece
    from (inl h) = inl (inr h)
    from (inr (i, h, inl p)) = inr (inl (record { at = i; within = h; past = p }))
    from (inr (i, h, inr p)) = inr (inr (record { at = i; within = h; past = p }))

module _ {sheet : List ℕ} {account : Account} {piece : List ℕ} {n place : ℕ} {back : Account} where
  -- "is refused whole with 15": exactly if the sheet has no fault and the account is full.
  pub refused-exactly : Audited sheet account piece n place back → (n ≡ 15) ↔ ((first_fault sheet ≡ none) × Full account piece)
  refused-exactly a = (to a, from a)
    where
      to : Audited sheet account piece n place back → n ≡ 15 → (first_fault sheet ≡ none) × Full account piece
      to (faulty f e m p b) is = absurd (omega (arith, fault-number f.why, m, is))
      to (past e over m p b) is = (e, (past-full account piece).0 over)
      to (done e within m p b) is = absurd (omega (arith, m, is))

      from : Audited sheet account piece n place back → (first_fault sheet ≡ none) × Full account piece → n ≡ 15
      from (faulty f e m p b) (good, full) = absurd (bad-not-good e good)
      from (past e over m p b) (good, full) = m
      from (done e within m p b) (good, full) = absurd (within ((past-full account piece).1 full))

  -- "Refused whole": place 0, and the account as it was.
  pub refused-whole : Audited sheet account piece n place back → n ≡ 15 → (place ≡ 0) × (back ≡ account)
  refused-whole (faulty f e m p b) is = absurd (omega (arith, fault-number f.why, m, is))
  refused-whole (past e over m p b) is = (p, b)
  refused-whole (done e within m p b) is = absurd (omega (arith, m, is))

  -- A sheet with a fault is answered with the fault's number and place whatever the account is, also where it is full.
  pub fault-first : Audited sheet account piece n place back → (f : Fault) → first_fault sheet ≡ some f
      → (n ≡ number_of f.why) × (place ≡ f.at) × (back ≡ account)
  fault-first (faulty g e m p b) f bad =
      let same = same-fault e bad in
      (m ∙ ap (λ (x : Fault). number_of x.why) same, p ∙ ap (λ (x : Fault). x.at) same, b)
  fault-first (past e over m p b) f bad = absurd (bad-not-good bad e)
  fault-first (done e within m p b) f bad = absurd (bad-not-good bad e)

  -- 1 to 10 exactly if the sheet has a fault.
  pub fault-exactly : Audited sheet account piece n place back → ((1 ≤ n) × (n ≤ 10)) ↔ ((f : Fault) × (first_fault sheet ≡ some f))
  fault-exactly a = (to a, from)
    where
      to : Audited sheet account piece n place back → (1 ≤ n) × (n ≤ 10) → (f : Fault) × (first_fault sheet ≡ some f)
      to (faulty f e m p b) between = (f, e)
      to (past e over m p b) between = absurd (omega (arith, m, between))
      to (done e within m p b) between = absurd (omega (arith, m, between))

      from : (f : Fault) × (first_fault sheet ≡ some f) → (1 ≤ n) × (n ≤ 10)
      from (f, bad) =
          let m = (fault-first a f bad).0 in
          (omega (arith, m, fault-number f.why), omega (arith, m, fault-number f.why))

  -- 0 exactly if the sheet has no fault and the account is not full.
  pub done-exactly : Audited sheet account piece n place back → (n ≡ 0) ↔ ((first_fault sheet ≡ none) × (Full account piece → ⊥))
  done-exactly a = (to a, from a)
    where
      to : Audited sheet account piece n place back → n ≡ 0 → (first_fault sheet ≡ none) × (Full account piece → ⊥)
      to (faulty f e m p b) is = absurd (omega (arith, fault-number f.why, m, is))
      to (past e over m p b) is = absurd (omega (arith, m, is))
      to (done e within m p b) is = (e, λ full. within ((past-full account piece).1 full))

      from : Audited sheet account piece n place back → (first_fault sheet ≡ none) × (Full account piece → ⊥) → n ≡ 0
      from (faulty f e m p b) (good, room) = absurd (bad-not-good e good)
      from (past e over m p b) (good, room) = absurd (room ((past-full account piece).0 over))
      from (done e within m p b) (good, room) = m

  -- Then the account is carried on by the piece.
  pub done-carried : Audited sheet account piece n place back → n ≡ 0 → (place ≡ 0) × (back ≡ carried (decode sheet) account piece)
  done-carried (faulty f e m p b) is = absurd (omega (arith, fault-number f.why, m, is))
  done-carried (past e over m p b) is = absurd (omega (arith, m, is))
  done-carried (done e within m p b) is = (p, b)

-- ---- an account as 515 numbers

-- Five numbers in front of a list put its places five on.
five-on : (a b c d e : ℕ) (l : List ℕ) (j : ℕ) → get_or (a ∷ b ∷ c ∷ d ∷ e ∷ l) (5 + j) 0 ≡ get_or l j 0
five-on a b c d e l j =
    let at : 5 + j ≡ suc (suc (suc (suc (suc j)))) = omega arith in
    ap (λ (k : ℕ). get_or (a ∷ b ∷ c ∷ d ∷ e ∷ l) k 0) at

-- An account written out is 515 numbers.
pub written-long : (account : Account) → length (write_account account) ≡ 515
unfolding write_account
written-long account =
    omega (
      arith,
      length-append (numbers_at most_tallies account.kept 0) (numbers_at most_tallies account.broken 0),
      numbers-long most_tallies account.kept 0,
      numbers-long most_tallies account.broken 0,
    )

-- An account of 255 kept and 255 broken tallies, written out and read again, is the same.
pub read-write : (account : Account) → length account.kept ≡ 255 → length account.broken ≡ 255
    → read_account (write_account account) ≡ account
unfolding read_account write_account
read-write account kept_long broken_long =
    same_parts (read_account (write_account account)) account refl refl refl refl refl
    (ext_get_or 0 (numbers_at 255 all 5) account.kept (numbers-long 255 all 5 ∙ sym kept_long)
    (λ i h. kept_at i (omega (arith, numbers-long 255 all 5))))
    (ext_get_or 0 (numbers_at 255 all 260) account.broken (numbers-long 255 all 260 ∙ sym broken_long)
    (λ i h. broken-at i (omega (arith, numbers-long 255 all 260))))
  where
    all : List ℕ
    all = write_account account

    tallies : List ℕ
    tallies = numbers_at 255 account.kept 0 ++ numbers_at 255 account.broken 0

    kept_at : (i : ℕ) → i < 255 → get_or (numbers_at 255 all 5) i 0 ≡ get_or account.kept i 0
    kept_at i h =
        numbers-at 255 all 5 i h
        ∙ five-on account.count account.last account.what account.moment account.rule tallies i
        ∙ tallies-first 255 account.kept account.broken i h

    broken-at : (i : ℕ) → i < 255 → get_or (numbers_at 255 all 260) i 0 ≡ get_or account.broken i 0
    broken-at i h =
        let at : 260 + i ≡ 5 + (255 + i) = omega arith in
        numbers-at 255 all 260 i h ∙ ap (λ (k : ℕ). get_or all k 0) at
        ∙ five-on account.count account.last account.what account.moment account.rule tallies (255 + i)
        ∙ tallies-second 255 account.kept account.broken i h

-- 515 numbers, read and written again, are the same.
pub write-read-numbers : (l : List ℕ) → length l ≡ 515 → write_account (read_account l) ≡ l
write-read-numbers l long = write_read l long

numbers-zero : (n m at : ℕ) → numbers_at n (replicate m 0) at ≡ replicate n 0
unfolding numbers_at
numbers-zero zero m at = refl
numbers-zero (suc n) m at = ap₂ ◌∷◌ (zeros-at m at) (numbers-zero n m (suc at))

zeros-long : (n : ℕ) → length (replicate {A = ℕ} n 0) ≡ n
zeros-long zero = refl
zeros-long (suc n) = ap suc (zeros-long n)

-- 515 zeros are the empty account.
pub zeros-empty : read_account (replicate 515 0) ≡ empty
unfolding read_account empty
zeros-empty =
    same_parts (read_account (replicate 515 0)) empty (zeros-at 515 0) (zeros-at 515 1) (zeros-at 515 2) (zeros-at 515 3) (zeros-at 515 4)
    (numbers-zero 255 515 5) (numbers-zero 255 515 260)

-- The empty account is 515 zeros.
pub empty-zeros : write_account empty ≡ replicate 515 0
empty-zeros = ap write_account (sym zeros-empty) ∙ write_read (replicate 515 0) (zeros-long 515)

-- ---- how an account grows

more-long : (test : StepRule → Bool) (rules : List StepRule) (l : List ℕ) → length (one_more_of test rules l) ≡ length l
unfolding one_more_of
more-long test [] l = refl
more-long test (rule ∷ rules) [] = refl
more-long test (rule ∷ rules) (n ∷ l) = ap suc (more-long test rules l)

one_at_most : (b : Bool) → cond b 1 0 ≤ 1
one_at_most true = omega arith
one_at_most false = omega arith

more-at : (test : StepRule → Bool) (rules : List StepRule) (l : List ℕ) (i : ℕ) → get_or (one_more_of test rules l) i 0 ≤ get_or l i 0 + 1
unfolding one_more_of
more-at test [] l i = omega arith
more-at test (rule ∷ rules) [] i = omega arith
more-at test (rule ∷ rules) (n ∷ l) zero = omega (arith, one_at_most (test rule))
more-at test (rule ∷ rules) (n ∷ l) (suc i) = more-at test rules l i

-- what carrying on by a piece does to the sizes: the count grows by its length, no tally by more, and no tally is lost or added
record Grown (account : Account) (more : ℕ) (back : Account) : Type 0 where
  count : back.count ≡ account.count + more
  kept_long : length back.kept ≡ length account.kept
  broken_long : length back.broken ≡ length account.broken
  kept_at : (i : ℕ) → get_or back.kept i 0 ≤ get_or account.kept i 0 + more
  broken-at : (i : ℕ) → get_or back.broken i 0 ≤ get_or account.broken i 0 + more

noted-grown : (sheet : Sheet) (account : Account) (t : ℕ) → Grown account 1 (noted sheet account t)
unfolding noted
noted-grown sheet account t = record {
  count = omega arith;
  kept_long = more-long (keeps_next account t) sheet.steps account.kept;
  broken_long = more-long (breaks_rule account t) sheet.steps account.broken;
  kept_at = more-at (keeps_next account t) sheet.steps account.kept;
  broken-at = more-at (breaks_rule account t) sheet.steps account.broken;
}

carried-grown : (sheet : Sheet) (account : Account) (piece : List ℕ) → Grown account (length piece) (carried sheet account piece)
unfolding carried
carried-grown sheet account [] = record {
  count = omega arith;
  kept_long = refl;
  broken_long = refl;
  kept_at = λ i. omega arith;
  broken-at = λ i. omega arith;
}
carried-grown sheet account (t ∷ piece) =
    let rest = carried-grown sheet (noted sheet account t) piece in
    let first = noted-grown sheet account t in
    record {
      count = omega (arith, rest.count, first.count);
      kept_long = rest.kept_long ∙ first.kept_long;
      broken_long = rest.broken_long ∙ first.broken_long;
      kept_at = λ i. omega (arith, rest.kept_at i, first.kept_at i);
      broken-at = λ i. omega (arith, rest.broken-at i, first.broken-at i);
    }

-- An account that is carried on from the empty one has 255 kept and 255 broken tallies, so reading and writing keep it.
pub tallies-long : (sheet : Sheet) (log : List ℕ)
    → (length (carried sheet empty log).kept ≡ 255) × (length (carried sheet empty log).broken ≡ 255)
unfolding empty
tallies-long sheet log =
    let g = carried-grown sheet empty log in
    (g.kept_long ∙ zeros-long 255, g.broken_long ∙ zeros-long 255)

-- ---- cutting, in the C form

-- Calls one after the other on the same 515 numbers, one for each piece, each answered 0.
abbrev pub CallsOut : (sheet before : List ℕ) → List (List ℕ) → (after : List ℕ) → Type 0
CallsOut sheet before [] after = after ≡ before
CallsOut sheet before (piece ∷ pieces) after =
    (mid : List ℕ) × AuditedOut sheet before piece 0 mid × CallsOut sheet mid pieces after

module _ (sheet : List ℕ) (good : first_fault sheet ≡ none) where
  -- the 515 numbers of a log's account
  abbrev numbers_of : List ℕ → List ℕ
  numbers_of log = write_account (carried (decode sheet) empty log)

  grown : (log : List ℕ) → Grown empty (length log) (carried (decode sheet) empty log)
  grown log = carried-grown (decode sheet) empty log

  read_back : (log : List ℕ) → read_account (numbers_of log) ≡ carried (decode sheet) empty log
  read_back log =
      let long = tallies-long (decode sheet) log in
      read-write (carried (decode sheet) empty log) long.0 long.1

  -- A log's account is full for a piece exactly if the two together are above 1,000,000.
  full-by-length : (log piece : List ℕ) → Full (carried (decode sheet) empty log) piece → 1000000 < length (log ++ piece)
  unfolding empty
  full-by-length log piece (inl h) = omega (arith, (grown log).count, length-append log piece)
  full-by-length log piece (inr (i, h, inl p)) = omega (arith, p, (grown log).kept_at i, zeros-at 255 i, length-append log piece)
  full-by-length log piece (inr (i, h, inr p)) = omega (arith, p, (grown log).broken-at i, zeros-at 255 i, length-append log piece)

  long-is-full : (log piece : List ℕ) → 1000000 < length (log ++ piece) → Full (carried (decode sheet) empty log) piece
  unfolding empty
  long-is-full log piece h = inl (omega (arith, (grown log).count, length-append log piece))

  -- what a call leaves that carries the log before on by a piece, and is answered 0
  abbrev Leaves : (log after : List ℕ) → Type 0
  Leaves log after = (length log ≤ 1000000) × (after ≡ numbers_of log)

  one-call : (log piece after : List ℕ) → AuditedOut sheet (numbers_of log) piece 0 after ↔ Leaves (log ++ piece) after
  one-call log piece after = (to, from)
    where
      short : (1000000 < length (log ++ piece) → ⊥) → length (log ++ piece) ≤ 1000000
      short h = omega (arith, h)

      to : AuditedOut sheet (numbers_of log) piece 0 after → Leaves (log ++ piece) after
      to out =
          let promise : Audited sheet (carried (decode sheet) empty log) piece 0 out.place out.back =
          subst (λ (a : Account). Audited sheet a piece 0 out.place out.back) (read_back log) out.promise in
          let (fine, room) = (done-exactly promise).0 refl in
          let (there, back) = done-carried promise refl in (
            short (λ h. room (long-is-full log piece h)),
            out.written ∙ ap write_account (back ∙ sym (carried-join (decode sheet) empty log piece)),
          )

      from : Leaves (log ++ piece) after → AuditedOut sheet (numbers_of log) piece 0 after
      from (few, is) = record {
        place = 0;
        back = carried (decode sheet) empty (log ++ piece);
        promise = subst (λ (a : Account). Audited sheet a piece 0 0 (carried (decode sheet) empty (log ++ piece))) (sym (read_back log))
            (done good
            (λ p. absurd (omega (arith, few, full-by-length log piece ((past-full (carried (decode sheet) empty log) piece).0 p))))
            refl refl (carried-join (decode sheet) empty log piece));
        written = is;
      }

  calls-on : (log : List ℕ) (pieces : List (List ℕ)) (after : List ℕ) → length log ≤ 1000000
      → CallsOut sheet (numbers_of log) pieces after ↔ Leaves (log ++ joined pieces) after
  calls-on log [] after few = (
    λ e. subst (λ (l : List ℕ). Leaves l after) (sym (append-nil log)) (few, e),
    λ leaves. (subst (λ (l : List ℕ). Leaves l after) (append-nil log) leaves).1,
  )
  calls-on log (piece ∷ pieces) after few = (
    to (λ fits. calls-on (log ++ piece) pieces after fits),
    from (λ fits. calls-on (log ++ piece) pieces after fits),
  )
    where
      Rest : Type 0
      Rest = length (log ++ piece) ≤ 1000000
          → CallsOut sheet (numbers_of (log ++ piece)) pieces after ↔ Leaves ((log ++ piece) ++ joined pieces) after

      same : (log ++ piece) ++ joined pieces ≡ log ++ (piece ++ joined pieces)
      same = append_assoc log piece (joined pieces)

      to : Rest → CallsOut sheet (numbers_of log) (piece ∷ pieces) after → Leaves (log ++ (piece ++ joined pieces)) after
      to rest (mid, call, calls) =
          let (fits, is) = (one-call log piece mid).0 call in
          subst (λ (l : List ℕ). Leaves l after) same
          ((rest fits).0 (subst (λ (m : List ℕ). CallsOut sheet m pieces after) is calls))

      from : Rest → Leaves (log ++ (piece ++ joined pieces)) after → CallsOut sheet (numbers_of log) (piece ∷ pieces) after
      from rest leaves =
          let all : Leaves ((log ++ piece) ++ joined pieces) after = subst (λ (l : List ℕ). Leaves l after) (sym same) leaves in
          let fits : length (log ++ piece) ≤ 1000000 = omega (arith, all.0, length-append (log ++ piece) (joined pieces)) in
          (numbers_of (log ++ piece), (one-call log piece (numbers_of (log ++ piece))).1 (fits, refl), (rest fits).1 all)

  -- From 515 zeros on, the calls of a cutting are all answered 0 and leave these numbers exactly if the joined log has at most 1,000,000
  -- moments and they are its account written out.
  pub calls-out-exactly : (pieces : List (List ℕ)) (after : List ℕ)
      → CallsOut sheet (replicate 515 0) pieces after
      ↔ ((length (joined pieces) ≤ 1000000) × (after ≡ write_account (carried (decode sheet) empty (joined pieces))))
  unfolding carried
  calls-out-exactly pieces after =
      subst (λ (before : List ℕ). CallsOut sheet before pieces after ↔ Leaves (joined pieces) after) empty-zeros
      (calls-on [] pieces after (omega arith))

  -- "Cutting the log otherwise must not show": from 515 zeros on, any row of pieces is answered 0 throughout and leaves these numbers
  -- exactly if the one piece that they join to is answered 0 and leaves them.
  pub cutting-does-not-show-out : (pieces : List (List ℕ)) (after : List ℕ)
      → CallsOut sheet (replicate 515 0) pieces after ↔ AuditedOut sheet (replicate 515 0) (joined pieces) 0 after
  unfolding carried
  cutting-does-not-show-out pieces after =
      let many = calls-out-exactly pieces after in
      let one : AuditedOut sheet (replicate 515 0) (joined pieces) 0 after ↔ Leaves (joined pieces) after =
      subst (λ (before : List ℕ). AuditedOut sheet before (joined pieces) 0 after ↔ Leaves (joined pieces) after) empty-zeros
      (one-call [] (joined pieces) after) in
      (λ calls. one.1 (many.0 calls), λ call. many.1 (one.0 call))

-- The same of a log in two pieces, whatever the sheet.
pub two-pieces-out : (sheet piece rest after : List ℕ)
    → ((mid : List ℕ) × AuditedOut sheet (replicate 515 0) piece 0 mid × AuditedOut sheet mid rest 0 after)
    ↔ AuditedOut sheet (replicate 515 0) (piece ++ rest) 0 after
two-pieces-out sheet piece rest after = (to, from)
  where
    two : piece ++ (rest ++ []) ≡ piece ++ rest
    two = ap (λ (l : List ℕ). piece ++ l) (append-nil rest)

    both : first_fault sheet ≡ none → CallsOut sheet (replicate 515 0) (piece ∷ rest ∷ []) after
        ↔ AuditedOut sheet (replicate 515 0) (piece ++ rest) 0 after
    both good = subst
        (λ (l : List ℕ). CallsOut sheet (replicate 515 0) (piece ∷ rest ∷ []) after ↔ AuditedOut sheet (replicate 515 0) l 0 after) two
        (cutting-does-not-show-out sheet good (piece ∷ rest ∷ []) after)

    to : (mid : List ℕ) × AuditedOut sheet (replicate 515 0) piece 0 mid × AuditedOut sheet mid rest 0 after
        → AuditedOut sheet (replicate 515 0) (piece ++ rest) 0 after
    to (mid, one, other) = (both ((done-exactly one.promise).0 refl).0).0 (mid, one, (after, other, refl))

    from : AuditedOut sheet (replicate 515 0) (piece ++ rest) 0 after
        → (mid : List ℕ) × AuditedOut sheet (replicate 515 0) piece 0 mid × AuditedOut sheet mid rest 0 after
    from out = split ((both ((done-exactly out.promise).0 refl).0).1 out)
      where
        split : CallsOut sheet (replicate 515 0) (piece ∷ rest ∷ []) after
            → (mid : List ℕ) × AuditedOut sheet (replicate 515 0) piece 0 mid × AuditedOut sheet mid rest 0 after
        split (mid, one, (last, other, e)) = (mid, one, subst (λ (l : List ℕ). AuditedOut sheet mid rest 0 l) (sym e) other)
