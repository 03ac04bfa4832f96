-- The loop over a piece: what is left to carry on equals the whole (Following), at the start (following-none), with the states more that
-- come by one and the same move (following-next) and at the end (following-all). Assumes nothing.
use mathlib.Core.Path.{◌≡◌, refl, sym, ◌∙◌, ap, ap₂}
use mathlib.Core.Bool.{Bool}
use mathlib.Core.List.{List}
use Prim.Native.Nat.{ℕ, ◌+◌, ◌≤◌}
use native.Mathlib.Omega.{arith}
use lib.ListN.{length, get_or, drop, drop_of_length-le}
use Rattle.audit_account.specs.Account.{Account}
use Rattle.audit_account.specs.Carry.{most_moments}
use Rattle.audit_account.specs.Book.{book_noted, book_carried, book_breaks, Within, Carriable, Moved, SameMoves}
use Rattle.audit_account.proofs.Tallies.{moved-within}
use Rattle.audit_account.proofs.Standstill.{carried_same}
use Rattle.audit_follow.specs.Heads.{head_noted, with_tallies}
use Rattle.audit_follow.specs.declared.Head as Head

-- after i states: bounds, and what is left
pub record Following (book states : List ℕ) (account now : Account) (i : ℕ) : Type 0 where
  pub few : i ≤ length states
  pub count-is : now.count ≡ account.count + i
  pub fits : account.count + length states ≤ most_moments
  pub kept : Within (most_moments + i) now.kept
  pub broken : Within (most_moments + i) now.broken
  pub left : book_carried book now (drop i states) ≡ book_carried book account states

pub following-none : (book states : List ℕ) (account : Account) → Carriable account (length states)
    → Following book states account account 0
following-none book states account c = record {
  few = omega arith;
  count-is = (let e : account.count ≡ account.count + 0 = omega arith in e);
  fits = c.few;
  kept = record { within = λ i h. omega (arith, c.kept.within i h) };
  broken = record { within = λ i h. omega (arith, c.broken.within i h) };
  left = refl;
}

-- The count and the tallies have room for the states that come by the next move.
pub following-fits : {book states : List ℕ} {account now : Account} {i : ℕ} (times : ℕ) → Following book states account now i
    → i + times ≤ length states
    → Within (most_moments + most_moments) now.kept × Within (most_moments + most_moments) now.broken × (now.count + times ≤ most_moments)
following-fits {book} {states} {account} {now} {i} times f h = (
  record { within = λ j k. omega (arith, f.kept.within j k, f.fits) },
  record { within = λ j k. omega (arith, f.broken.within j k, f.fits) },
  omega (arith, f.count-is, f.fits),
)

-- The five numbers and the tallies after such states are the account with these noted.
noted-is : (book : List ℕ) (head : Head.Head) (kept broken : List ℕ) (t times : ℕ) (kept' broken' : List ℕ) (broke : Bool)
    (next : Head.Head)
    → Moved book (with_tallies head kept broken) t times kept' broken' broke → next ≡ head_noted book head broke t times
    → with_tallies next kept' broken' ≡ book_noted book (with_tallies head kept broken) t times
unfolding book_noted head_noted
noted-is book head kept broken t times kept' broken' broke next m e =
    ap (λ (h : Head.Head). with_tallies h kept' broken') (e ∙ ap (λ (b : Bool). head_noted book head b t times) m.says)
    ∙ ap₂ (λ (k x : List ℕ). with_tallies (head_noted book head (book_breaks book (with_tallies head kept broken) t) t times) k x) m.keeps
    m.breaks

pub following-next : (book states : List ℕ) (account : Account) (head : Head.Head) (kept broken : List ℕ) (i times : ℕ)
    (kept' broken' : List ℕ)
    (broke : Bool) (next : Head.Head) → Following book states account (with_tallies head kept broken) i
    → SameMoves states i head.count head.last times → Moved book (with_tallies head kept broken) (get_or states i 0) times kept'
    broken' broke
    → next ≡ head_noted book head broke (get_or states i 0) times → Following book states account (with_tallies next kept' broken') (i + times)
unfolding head_noted
following-next book states account head kept broken i times kept' broken' broke next f same m e =
    let grown = moved-within book (with_tallies head kept broken) (get_or states i 0) times (most_moments + i) kept' broken' broke m f.kept
    f.broken in
    let noted = noted-is book head kept broken (get_or states i 0) times kept' broken' broke next m e in
    record {
      few = same.within;
      count-is =
          ap (λ (x : Head.Head). x.count) e ∙ ap (λ (n : ℕ). n + times) f.count-is
          ∙ (let s : account.count + i + times ≡ account.count + (i + times) = omega arith in s);
      fits = f.fits;
      kept = record { within = λ j k. omega (arith, grown.0.within j k) };
      broken = record { within = λ j k. omega (arith, grown.1.within j k) };
      left =
          ap (λ (a : Account). book_carried book a (drop (i + times) states)) noted
          ∙ carried_same book states (with_tallies head kept broken) i times same
          ∙ f.left;
    }

pub following-all : {book states : List ℕ} {account now : Account} {i : ℕ} → Following book states account now i → length states ≤ i
    → now ≡ book_carried book account states
unfolding book_carried
following-all {book} {states} {account} {now} {i} f over =
    sym (ap (book_carried book now) (drop_of_length-le states over)) ∙ f.left
