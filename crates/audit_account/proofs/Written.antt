-- An account as 515 numbers: what copying a part reads (part-read) and writes (copied-put), the account written so (numbers-written), and
-- that 515 numbers read and written again are the same (write_read), so that a refusal leaves them unchanged (refused-unchanged). Assumes
-- nothing.
use mathlib.Core.Path.{◌≡◌, refl, sym, ◌∙◌, ap, ap₂, subst}
use mathlib.Core.List.{List, ◌++◌}
use Prim.Native.Nat.{ℕ, zero, suc, ◌+◌, ◌-◌, ◌≤◌, ◌<◌}
use native.Mathlib.Decide.{dec_lt}
use native.Mathlib.Omega.{arith}
use borrow.Rule.Slice.PartMut.{mid_of, post_of, put_mid, same_len_mid, mid_len}
use lib.ListN.{length, get_or, take, drop, length-drop, length-append, get_or-append}
use lib.Seq.{ext_get_or, length-take-le, get_or-append-add}
use Rattle.std.proofs.lemmas.List.{get_or-take, get_or-drop, get_or-append_right}
use Rattle.audit_account.specs.Account.{Account, most_tallies}
use Rattle.audit_account.specs.Carry.{numbers_at, read_account, write_account, AuditedOut, Audited, faulty, past, done}
use Rattle.audit_account.specs.Book.{Copied}

-- ---- copying

-- A list that is put in the place of a part as long as it stands there.
pub copied-put : (n : ℕ) (from into : List ℕ) (to : ℕ) → length from ≡ n → to + n ≤ length into
    → Copied n from 0 into to (put_mid to (to + n - to) into from)
copied-put n from into to many fits = record {
  long = same_len_mid to (to + n - to) into from long;
  below = λ j h. get_or-append (take to into) rest 0 j (omega (arith, front, h)) ∙ get_or-take to into j 0 h;
  here = here;
}
  where
    rest : List ℕ
    rest = from ++ post_of to (to + n - to) into

    front : length (take to into) ≡ to
    front = length-take-le to into (omega arith)

    long : length from ≡ length (mid_of to (to + n - to) into)
    long = let k : to + n - to ≡ n = omega arith in many ∙ sym k ∙ sym (mid_len to (to + n) into fits)

    here : (j : ℕ) → j < n → get_or (take to into ++ rest) (to + j) 0 ≡ get_or from (0 + j) 0
    here j h =
        let at : to + j - to ≡ j = omega arith in
        let same : j ≡ 0 + j = omega arith in
        get_or-append_right (take to into) rest to (to + j) 0 front (omega arith)
        ∙ ap (λ (k : ℕ). get_or rest k 0) at
        ∙ get_or-append from (post_of to (to + n - to) into) 0 j (omega (arith, many, h))
        ∙ ap (λ (k : ℕ). get_or from k 0) same

-- ---- the numbers from a place on

pub numbers-long : (n : ℕ) (l : List ℕ) (at : ℕ) → length (numbers_at n l at) ≡ n
unfolding numbers_at
numbers-long zero l at = refl
numbers-long (suc n) l at = ap suc (numbers-long n l (suc at))

pub numbers-at : (n : ℕ) (l : List ℕ) (at j : ℕ) → j < n → get_or (numbers_at n l at) j 0 ≡ get_or l (at + j) 0
unfolding numbers_at
numbers-at zero l at j h = absurd (omega arith)
numbers-at (suc n) l at zero h = let e : at ≡ at + 0 = omega arith in ap (λ (k : ℕ). get_or l k 0) e
numbers-at (suc n) l at (suc j) h =
    let e : suc at + j ≡ at + suc j = omega arith in
    numbers-at n l (suc at) j (omega arith) ∙ ap (λ (k : ℕ). get_or l k 0) e

-- A part of a list is its numbers.
pub part-read : (n : ℕ) (l : List ℕ) (at : ℕ) → at + n ≤ length l → take n (drop at l) ≡ numbers_at n l at
part-read n l at fits = ext_get_or 0 (take n (drop at l)) (numbers_at n l at) (long ∙ sym (numbers-long n l at)) each
  where
    long : length (take n (drop at l)) ≡ n
    long = length-take-le n (drop at l) (omega (arith, length-drop at l))

    each : (i : ℕ) → i < length (take n (drop at l)) → get_or (take n (drop at l)) i 0 ≡ get_or (numbers_at n l at) i 0
    each i h =
        let within : i < n = subst (λ (m : ℕ). i < m) long h in
        get_or-take n (drop at l) i 0 within ∙ get_or-drop at l i 0 ∙ sym (numbers-at n l at i within)

-- ---- an account's 515 numbers

-- Two lists of tallies, each from its place on.
pub tallies-first : (n : ℕ) (kept broken : List ℕ) (j : ℕ) → j < n → get_or (numbers_at n kept 0 ++ numbers_at n broken 0) j 0 ≡ get_or kept j 0
tallies-first n kept broken j h =
    let within : j < length (numbers_at n kept 0) = subst (λ (m : ℕ). j < m) (sym (numbers-long n kept 0)) h in
    let e : 0 + j ≡ j = omega arith in
    get_or-append (numbers_at n kept 0) (numbers_at n broken 0) 0 j within ∙ numbers-at n kept 0 j h ∙ ap (λ (k : ℕ). get_or kept k 0) e

pub tallies-second : (n : ℕ) (kept broken : List ℕ) (j : ℕ) → j < n
    → get_or (numbers_at n kept 0 ++ numbers_at n broken 0) (n + j) 0 ≡ get_or broken j 0
tallies-second n kept broken j h =
    let e : 0 + j ≡ j = omega arith in
    ap (λ (m : ℕ). get_or (numbers_at n kept 0 ++ numbers_at n broken 0) (m + j) 0) (sym (numbers-long n kept 0))
    ∙ get_or-append-add (numbers_at n kept 0) (numbers_at n broken 0) j 0 ∙ numbers-at n broken 0 j h ∙ ap (λ (k : ℕ). get_or broken k 0) e

-- A list with an account's five numbers in front and its tallies at their places.
pub record Holds (l : List ℕ) (account : Account) : Type 0 where
  pub long : length l ≡ 515
  pub count_at : get_or l 0 0 ≡ account.count
  pub last-at : get_or l 1 0 ≡ account.last
  pub what-at : get_or l 2 0 ≡ account.what
  pub moment_at : get_or l 3 0 ≡ account.moment
  pub rule-at : get_or l 4 0 ≡ account.rule
  pub kept_at : (j : ℕ) → j < most_tallies → get_or l (5 + j) 0 ≡ get_or account.kept j 0
  pub broken-at : (j : ℕ) → j < most_tallies → get_or l (260 + j) 0 ≡ get_or account.broken j 0

-- Such a list is the account written out.
pub holds-written : (l : List ℕ) (account : Account) → Holds l account → l ≡ write_account account
unfolding write_account
holds-written l account h = ext_get_or 0 l (write_account account) (h.long ∙ sym long) (λ i b. each i (subst (λ (m : ℕ). i < m) h.long b))
  where
    tallies : List ℕ
    tallies = numbers_at most_tallies account.kept 0 ++ numbers_at most_tallies account.broken 0

    long : length (write_account account) ≡ 515
    long =
        omega (
          arith,
          length-append (numbers_at most_tallies account.kept 0) (numbers_at most_tallies account.broken 0),
          numbers-long most_tallies account.kept 0,
          numbers-long most_tallies account.broken 0,
        )

    behind : (k : ℕ) → k < 510 → Dec (k < most_tallies) → get_or l (suc (suc (suc (suc (suc k))))) 0 ≡ get_or tallies k 0
    behind k b (yes q) =
        let e : suc (suc (suc (suc (suc k)))) ≡ 5 + k = omega arith in
        ap (λ (p : ℕ). get_or l p 0) e ∙ h.kept_at k q ∙ sym (tallies-first most_tallies account.kept account.broken k q)
    behind k b (no q) =
        let e : suc (suc (suc (suc (suc k)))) ≡ 260 + (k - most_tallies) = omega arith in
        let f : most_tallies + (k - most_tallies) ≡ k = omega arith in
        let within : k - most_tallies < most_tallies = omega arith in
        ap (λ (p : ℕ). get_or l p 0) e ∙ h.broken-at (k - most_tallies) within
        ∙ sym (tallies-second most_tallies account.kept account.broken (k - most_tallies) within)
        ∙ ap (λ (p : ℕ). get_or tallies p 0) f

    each : (i : ℕ) → i < 515 → get_or l i 0 ≡ get_or (write_account account) i 0
    each zero b = h.count_at
    each (suc zero) b = h.last-at
    each (suc (suc zero)) b = h.what-at
    each (suc (suc (suc zero))) b = h.moment_at
    each (suc (suc (suc (suc zero)))) b = h.rule-at
    each (suc (suc (suc (suc (suc k))))) b = behind k (omega arith) (dec_lt k most_tallies)

-- 515 numbers, read and written again, are the same.
pub write_read : (l : List ℕ) → length l ≡ 515 → write_account (read_account l) ≡ l
unfolding read_account
write_read l long = sym (holds-written l (read_account l) (record {
  long = long;
  count_at = refl;
  last-at = refl;
  what-at = refl;
  moment_at = refl;
  rule-at = refl;
  kept_at = λ j h. sym (numbers-at most_tallies l 5 j h);
  broken-at = λ j h. sym (numbers-at most_tallies l 260 j h);
}))

-- A refusal leaves the 515 numbers as they were.
pub refused-unchanged : {sheet before piece after : List ℕ} {n : ℕ} → length before ≡ 515 → AuditedOut sheet before piece n after
    → (n ≡ 0 → ⊥) → after ≡ before
refused-unchanged {before = before} {after = after} {n = n} long out refused = out.written ∙ by out.promise
  where
    by : {sheet piece : List ℕ} {place : ℕ} {back : Account} → Audited sheet (read_account before) piece n place back
        → write_account back ≡ before
    by (faulty f e m p b) = ap write_account b ∙ write_read before long
    by (past e over m p b) = ap write_account b ∙ write_read before long
    by (done e within m p b) = absurd (refused m)

-- The five numbers stored, and then the tallies copied to their places, are the account written out.
pub numbers-written : (account : Account) (before kept all : List ℕ) → length before ≡ 515 → get_or before 0 0 ≡ account.count
    → get_or before 1 0 ≡ account.last
    → get_or before 2 0 ≡ account.what → get_or before 3 0 ≡ account.moment → get_or before 4 0 ≡ account.rule
    → Copied most_tallies account.kept 0 before 5 kept → Copied most_tallies account.broken 0 kept 260 all → all ≡ write_account account
numbers-written account before kept all long e0 e1 e2 e3 e4 k b = holds-written all account (record {
  long = b.long ∙ k.long ∙ long;
  count_at = b.below 0 (omega arith) ∙ k.below 0 (omega arith) ∙ e0;
  last-at = b.below 1 (omega arith) ∙ k.below 1 (omega arith) ∙ e1;
  what-at = b.below 2 (omega arith) ∙ k.below 2 (omega arith) ∙ e2;
  moment_at = b.below 3 (omega arith) ∙ k.below 3 (omega arith) ∙ e3;
  rule-at = b.below 4 (omega arith) ∙ k.below 4 (omega arith) ∙ e4;
  kept_at = λ j h. b.below (5 + j) (omega arith) ∙ k.here j h ∙ from_front account.kept j;
  broken-at = λ j h. b.here j h ∙ from_front account.broken j;
})
  where
    from_front : (l : List ℕ) (j : ℕ) → get_or l (0 + j) 0 ≡ get_or l j 0
    from_front l j = let e : 0 + j ≡ j = omega arith in ap (λ (k : ℕ). get_or l k 0) e

-- the five numbers in front of a list, with these tallies
abbrev five : (l kept broken : List ℕ) → Account
five l kept broken = record {
  count = get_or l 0 0;
  last = get_or l 1 0;
  what = get_or l 2 0;
  moment = get_or l 3 0;
  rule = get_or l 4 0;
  kept = kept;
  broken = broken;
}

-- With the tallies read from their places they are the account that the numbers stand for.
pub account-read : (l kept broken : List ℕ) → kept ≡ numbers_at most_tallies l 5 → broken ≡ numbers_at most_tallies l 260
    → five l kept broken ≡ read_account l
unfolding read_account
account-read l kept broken k b = ap₂ (five l) k b
