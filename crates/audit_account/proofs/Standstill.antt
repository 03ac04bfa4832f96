-- States that come by one and the same move, noted at once, are those states noted one by one (carried_same). A log that stands still has a
-- breach to tell at its first such move or at none (told-once), so noting it once more only counts (noted-again). Assumes nothing.
use mathlib.Core.Path.{◌≡◌, refl, sym, ◌∙◌, ap, ap₂, subst}
use mathlib.Core.Logic.{◌⊎◌, inl, inr}
use mathlib.Core.Bool.{Bool, true, false, cond, not, ◌&&◌}
use mathlib.Core.List.{List}
use Prim.Native.Nat.{ℕ, zero, suc, ◌+◌, ◌≤◌, ◌<◌}
use native.Mathlib.Omega.{arith}
use borrow.Author.Tests.{ne_eqb}
use lib.Dec.{eqb}
use lib.ListN.{length, get_or, drop}
use lib.Seq.{drop-cons}
use Rattle.rules.specs.Book.{book_lawful, book_first, steps_of}
use Rattle.audit_account.specs.Account.{Account, nothing, unlawful, broke_first, broke_step}
use Rattle.audit_account.specs.Book.{kept_by, broken_by, bumped, book_is, book_broke, book_breaks, book_tallies, is_first, rule_told}
use Rattle.audit_account.specs.Book.{book_noted}
use Rattle.audit_account.specs.Book.{book_carried, Standing, SameMoves}
use Rattle.audit_account.proofs.Tallies.{bumped-twice}

-- ---- once more the same

-- What a state that is not the log's first is, where the log stands still at it.
abbrev still_is : List ℕ → ℕ → ℕ
still_is book s = cond (book_lawful book s) (cond (not (eqb (book_broke book s s) 0)) broke_step nothing) unlawful

-- the account still at its last state, with a breach told now or not
abbrev after : (account : Account) (count is rule : ℕ) (first : Bool) (kept broken : List ℕ) → Account
after account count is rule first kept broken = record {
  count = count;
  last = account.last;
  what = cond first is account.what;
  moment = cond first account.count account.moment;
  rule = cond first rule account.rule;
  kept = kept;
  broken = broken;
}

-- the account after `times` such states
abbrev still_noted : List ℕ → Account → ℕ → Account
still_noted book account times =
    after account (account.count + times) (still_is book account.last)
    (rule_told (still_is book account.last) (book_broke book account.last account.last))
    (is_first account.what (still_is book account.last))
    (bumped times (kept_by book account.last account.last) (steps_of book) account.kept)
    (bumped times (broken_by book account.last account.last) (steps_of book) account.broken)

noted-still : (book : List ℕ) (account : Account) (times : ℕ) → eqb account.count 0 ≡ false
    → book_noted book account account.last times ≡ still_noted book account times
unfolding book_noted book_is book_breaks book_tallies
noted-still book account times later = ap shape later
  where
    is : Bool → ℕ
    is none =
        cond (book_lawful book account.last)
        (cond none (cond (book_first book account.last) nothing broke_first)
        (cond (not none && not (eqb (book_broke book account.last account.last) 0)) broke_step nothing))
        unlawful

    shape : Bool → Account
    shape none =
        after account (account.count + times) (is none) (rule_told (is none) (book_broke book account.last account.last))
        (is_first account.what (is none))
        (cond none account.kept (bumped times (kept_by book account.last account.last) (steps_of book) account.kept))
        (cond none account.broken (bumped times (broken_by book account.last account.last) (steps_of book) account.broken))

-- A breach told is not told again, and what was none before is none again.
told-once : (what is : ℕ) → is_first (cond (is_first what is) is what) is ≡ false
unfolding is_first
told-once what is = by (eqb what nothing) (eqb is nothing) refl refl
  where
    by : (p q : Bool) → eqb what nothing ≡ p → eqb is nothing ≡ q → (eqb (cond (p && not q) is what) nothing && not q) ≡ false
    by true true e f = ap (λ (b : Bool). b && false) e
    by true false e f = ap (λ (b : Bool). b && true) f
    by false q e f = ap (λ (b : Bool). b && not q) e

noted-again : (book : List ℕ) (account : Account) (times : ℕ) → (account.count ≡ 0 → ⊥)
    → book_noted book (book_noted book account account.last times) account.last 1 ≡ book_noted book account account.last (times + 1)
noted-again book account times some =
    let later : eqb account.count 0 ≡ false = ne_eqb account.count 0 some in
    let sum : account.count + times + 1 ≡ account.count + (times + 1) = omega arith in
    let later_still : eqb (account.count + times) 0 ≡ false = ne_eqb (account.count + times) 0 (λ e. some (omega arith)) in
    ap (λ (a : Account). book_noted book a account.last 1) (noted-still book account times later)
    ∙ noted-still book (still_noted book account times) 1 later_still
    ∙ (λ i. after (still_noted book account times) (sum i) (still_is book account.last)
    (rule_told (still_is book account.last) (book_broke book account.last account.last))
    (told-once account.what (still_is book account.last) i)
    (bumped-twice times 1 (kept_by book account.last account.last) (steps_of book) account.kept i)
    (bumped-twice times 1 (broken_by book account.last account.last) (steps_of book) account.broken i))
    ∙ sym (noted-still book account (times + 1) later)

-- ---- what is left of a piece

-- One state noted leaves the others.
carried-one : (book states : List ℕ) (account : Account) (i t : ℕ) → i < length states → get_or states i 0 ≡ t
    → book_carried book (book_noted book account t 1) (drop (i + 1) states) ≡ book_carried book account (drop i states)
unfolding book_carried
carried-one book states account i t h here =
    let one : i + 1 ≡ suc i = omega arith in
    ap₂ (λ (x k : ℕ). book_carried book (book_noted book account x 1) (drop k states)) (sym here) one
    ∙ sym (ap (book_carried book account) (drop-cons states i 0 h))

-- So do as many as the log stands still.
carried-still : (book states : List ℕ) (account : Account) (i more : ℕ) → (account.count ≡ 0 → ⊥) → Standing states i account.last
    (more + 1)
    → book_carried book (book_noted book account account.last (more + 1)) (drop (i + (more + 1)) states) ≡ book_carried book account
    (drop i states)
carried-still book states account i zero some stands =
    let at : i + 0 ≡ i = omega arith in
    carried-one book states account i account.last (omega (arith, stands.within)) (ap (λ (k : ℕ). get_or states k 0) (sym at)
    ∙ stands.same 0 (omega arith))
carried-still book states account i (suc more) some stands =
    let fewer : Standing states i account.last (more + 1) =
    record { within = omega (arith, stands.within); same = λ j h. stands.same j (omega arith) } in
    let count : suc more + 1 ≡ more + 1 + 1 = omega arith in
    let place : i + (suc more + 1) ≡ i + (more + 1) + 1 = omega arith in
    ap₂ (λ (n k : ℕ). book_carried book (book_noted book account account.last n) (drop k states)) count place
    ∙ sym (ap (λ (a : Account). book_carried book a (drop (i + (more + 1) + 1) states)) (noted-again book account (more + 1) some))
    ∙ carried-one book states (book_noted book account account.last (more + 1)) (i + (more + 1)) account.last
    (omega (arith, stands.within))
    (stands.same (more + 1) (omega arith))
    ∙ carried-still book states account i more some fewer

-- Either way: what is left after the states that come by the same move carries on to what the whole would.
pub carried_same : (book states : List ℕ) (account : Account) (i times : ℕ) → SameMoves states i account.count account.last times
    → book_carried book (book_noted book account (get_or states i 0) times) (drop (i + times) states) ≡ book_carried book account (drop i states)
carried_same book states account i times same = by same.alike
  where
    by : (times ≡ 1) ⊎ ((account.count ≡ 0 → ⊥) × Standing states i account.last times)
        → book_carried book (book_noted book account (get_or states i 0) times) (drop (i + times) states) ≡ book_carried book account
        (drop i states)
    by (inl one) =
        ap (λ (n : ℕ). book_carried book (book_noted book account (get_or states i 0) n) (drop (i + n) states)) one
        ∙ carried-one book states account i (get_or states i 0) (omega (arith, same.within, same.some)) refl
    by (inr (some, stands)) = from times same.some stands
      where
        from : (n : ℕ) → 1 ≤ n → Standing states i account.last n
            → book_carried book (book_noted book account (get_or states i 0) n) (drop (i + n) states) ≡ book_carried book account (drop i states)
        from zero few stands = absurd (omega arith)
        from (suc more) few stands =
            let one : suc more ≡ more + 1 = omega arith in
            let at : i + 0 ≡ i = omega arith in
            let here : get_or states i 0 ≡ account.last = ap (λ (k : ℕ). get_or states k 0) (sym at) ∙ stands.same 0 (omega arith) in
            ap₂ (λ (t n : ℕ). book_carried book (book_noted book account t n) (drop (i + n) states)) here one
            ∙ carried-still book states account i more some (subst (Standing states i account.last) one stands)
