-- The five numbers after a state, with a breach told and without (noted-by, noted-breach-numbers); whether a breach is the first
-- (told-before, none-now, first-now). Assumes nothing.
use mathlib.Core.Path.{◌≡◌, refl, sym, ◌∙◌, ap, ap₂}
use mathlib.Core.Bool.{Bool, true, false, cond, not, ◌&&◌}
use mathlib.Core.List.{List}
use Prim.Native.Nat.{ℕ, ◌+◌}
use native.Mathlib.Omega.{arith}
use borrow.Author.Tests.{eq-eqb, ne_eqb}
use lib.Dec.{eqb}
use Rattle.audit_account.specs.Book.{book_is, book_broke, is_first, rule_told}
use Rattle.audit_follow.specs.Heads.{breach_number, head_noted}
use Rattle.audit_follow.specs.declared.Breach.{Breach}
use Rattle.audit_follow.specs.declared.Breach.TheVariants.{Unlawful, FirstRule, StepRule}
use Rattle.audit_follow.specs.declared.Head as Head

-- the five numbers with `times` more states t, which are `is`, with a breach told now or not
abbrev head_with : (book : List ℕ) (head : Head.Head) (t times is : ℕ) (first : Bool) → Head.Head
head_with book head t times is first = record {
  count = head.count + times;
  last = t;
  what = cond first is head.what;
  moment = cond first head.count head.moment;
  rule = cond first (rule_told is (book_broke book head.last t)) head.rule;
}

-- They are what is noted.
pub noted-by : (book : List ℕ) (head : Head.Head) (broke : Bool) (t times is : ℕ) (first : Bool) → is ≡ book_is book head.count broke t
    → is_first head.what is ≡ first → head_noted book head broke t times ≡ head_with book head t times is first
unfolding head_noted
noted-by book head broke t times is first e f =
    sym (ap (λ (x : ℕ). head_with book head t times x (is_first head.what x)) e) ∙ ap (head_with book head t times is) f

-- So it is with a breach, where the rule told is known by another name.
pub noted-breach-numbers : (book : List ℕ) (head : Head.Head) (broke : Bool) (t times is rule : ℕ) → is ≡ book_is book head.count broke t
    → is_first head.what is ≡ true → rule ≡ rule_told is (book_broke book head.last t)
    → ◌≡◌ {A = Head.Head} (record { count = head.count + times; last = t; what = is; moment = head.count; rule = rule })
    (head_noted book head broke t times)
noted-breach-numbers book head broke t times is rule e f r =
    ap (λ (k : ℕ). record { count = head.count + times; last = t; what = is; moment = head.count; rule = k }) r
    ∙ sym (noted-by book head broke t times is true e f)

-- No breach has the number of none.
pub some-breach : (breach : Breach) → breach_number breach ≡ 0 → ⊥
some-breach Unlawful e = omega arith
some-breach FirstRule e = omega arith
some-breach StepRule e = omega arith

-- A breach is not the first where one was told, or where there is none; else it is.
pub told-before : (what is : ℕ) → (what ≡ 0 → ⊥) → is_first what is ≡ false
unfolding is_first
told-before what is h = ap (λ (b : Bool). b && not (eqb is 0)) (ne_eqb what 0 h)

pub none-now : (what is : ℕ) → is ≡ 0 → is_first what is ≡ false
unfolding is_first
none-now what is e = ap (λ (b : Bool). eqb what 0 && not b) (eq-eqb is 0 e) ∙ never (eqb what 0)
  where
    never : (b : Bool) → b && false ≡ false
    never true = refl
    never false = refl

pub first-now : (what is : ℕ) → what ≡ 0 → (is ≡ 0 → ⊥) → is_first what is ≡ true
unfolding is_first
first-now what is e h = ap₂ (λ (a b : Bool). a && not b) (eq-eqb what 0 e) (ne_eqb is 0 h)
