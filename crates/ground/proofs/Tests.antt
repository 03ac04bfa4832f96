-- Laws of tests: that one passes (passed, passes, not-passing), that none answers both ways (no_both), and two tests at once (and_left,
-- and_right, and_both, both-and, second-false, one-false). That true is not false, and what `&&` does with true and false,
-- mathlib.Core.Bool says. Assumes nothing.
use mathlib.Core.Path.{◌≡◌, refl, sym, subst}
use mathlib.Core.Logic.{◌⊎◌, inl, inr}
use mathlib.Core.Bool.{Bool, true, false, ◌&&◌}
use lib.Dec.{T}

-- A test that passes is true.
pub passed : (b : Bool) → T b → b ≡ true
passed true t = refl
passed false t = absurd t

-- A test that is true passes.
pub passes : (b : Bool) → b ≡ true → T b
passes b e = subst T (sym e) tt

-- A test that is not true is false.
pub not-passing : (b : Bool) → (b ≡ true → ⊥) → b ≡ false
not-passing true f = absurd (f refl)
not-passing false f = refl

-- A test does not answer both ways.
pub no_both : {b : Bool} → b ≡ true → b ≡ false → ⊥
no_both {b} p q = subst T q (passes b p)

-- Of two tests that are true together the first is true.
pub and_left : (a b : Bool) → a && b ≡ true → a ≡ true
and_left true b e = refl
and_left false b e = e

-- So is the second.
pub and_right : (a b : Bool) → a && b ≡ true → b ≡ true
and_right true b e = e
and_right false b e = absurd (passes false e)

-- So are both.
pub and_both : (a b : Bool) → a && b ≡ true → (a ≡ true) × (b ≡ true)
and_both a b e = (and_left a b e, and_right a b e)

-- Two tests that are true are true together.
pub both-and : (a b : Bool) → a ≡ true → b ≡ true → a && b ≡ true
both-and true b e h = h
both-and false b e h = e

-- Where the second test is false, both together are.
pub second-false : (a b : Bool) → b ≡ false → a && b ≡ false
second-false true b e = e
second-false false b e = refl

-- Of two tests that are not true together one is false.
pub one-false : (a b : Bool) → a && b ≡ false → (a ≡ false) ⊎ (b ≡ false)
one-false true b e = inr e
one-false false b e = inl refl
