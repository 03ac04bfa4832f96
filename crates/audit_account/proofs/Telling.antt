-- What one state is (is-by), the rule that a breach is told with (told-step, told-other), and that an account within the bound may be
-- carried on (carriable). Assumes nothing.
use mathlib.Core.Path.{◌≡◌, sym, ◌∙◌, ap}
use mathlib.Core.Logic.{inl, inr}
use mathlib.Core.Bool.{Bool, cond}
use mathlib.Core.List.{List}
use Prim.Native.Nat.{ℕ, ◌+◌, ◌≤◌, ◌<◌}
use native.Mathlib.Omega.{arith}
use borrow.Author.Tests.{eq-eqb, ne_eqb}
use lib.Dec.{eqb}
use lib.ListN.{get_or}
use Rattle.rules.specs.Book.{book_lawful, book_first}
use Rattle.audit_account.specs.Account.{Account, most_tallies, nothing, unlawful, broke_first, broke_step}
use Rattle.audit_account.specs.Carry.{most_moments, PastBy, SomePast}
use Rattle.audit_account.specs.Book.{book_is, rule_told, Within, Carriable}

-- ---- what a state is

-- By the tests, whichever way they come out.
pub is-by : (book : List ℕ) (count : ℕ) (broke : Bool) (t : ℕ) {a b f z : Bool} → book_lawful book t ≡ a → eqb count 0 ≡ b
    → book_first book t ≡ f → broke ≡ z
    → book_is book count broke t ≡ cond a (cond b (cond f nothing broke_first) (cond z broke_step nothing)) unlawful
unfolding book_is
is-by book count broke t p q r s =
    λ i. cond (p i) (cond (q i) (cond (r i) nothing broke_first) (cond (s i) broke_step nothing)) unlawful

-- ---- the rule told

-- The rule that a breach is told with.
pub told-step : (is rule broke : ℕ) → is ≡ broke_step → rule ≡ broke → rule ≡ rule_told is broke
unfolding rule_told
told-step is rule broke e r = r ∙ sym (ap (λ (b : Bool). cond b broke 0) (eq-eqb is broke_step e))

pub told-other : (is broke : ℕ) → (is ≡ broke_step → ⊥) → 0 ≡ rule_told is broke
unfolding rule_told
told-other is broke e = sym (ap (λ (b : Bool). cond b broke 0) (ne_eqb is broke_step e))

-- ---- what is past the bound

-- An account that is not past the bound may be carried on.
pub carriable : (account : Account) (more : ℕ) → (PastBy account more → ⊥) → Carriable account more
carriable account more fits =
    let few : most_moments < account.count + more → ⊥ = λ p. fits (inl (inr p)) in
    record {
      few = omega (arith, few);
      kept = within account.kept (λ p. fits (inr (inl p)));
      broken = within account.broken
          (λ p. fits (inr (inr p)));
    }
  where
    within : (tallies : List ℕ) → (SomePast tallies → ⊥) → Within most_moments tallies
    within tallies none = record { within = λ i h. at i h (λ p. none (record { at = i; within = h; past = p })) }
      where
        at : (i : ℕ) → i < most_tallies → (most_moments < get_or tallies i 0 → ⊥) → get_or tallies i 0 ≤ most_moments
        at i h n = omega (arith, n)
