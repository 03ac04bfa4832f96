-- What a test says: yes of what holds, no of what does not (says-yes, says-no), its own value (says-test, says_is), and the same of what is
-- so exactly if it is (says-as). Assumes nothing.
use mathlib.Core.Path.{◌≡◌, refl, sym, ◌∙◌}
use mathlib.Core.Bool.{Bool, true, false}
use lib.Dec.{T}
use Rattle.ground.specs.Says.{Says}
use Rattle.ground.proofs.Tests.{passed, passes, no_both}

-- What holds is said by true.
pub says-yes : {P : Type 0} → P → Says P true
says-yes p = record { yes = λ e. p; never = λ e _. no_both refl e }

-- What does not hold is said by false.
pub says-no : {P : Type 0} → (P → ⊥) → Says P false
says-no n = record { yes = λ e. absurd (no_both e refl); never = λ e. n }

-- An answer that is yes exactly where P holds.
pub says_is : {P : Type 0} (b : Bool) → (b ≡ true → P) → (P → b ≡ true) → Says P b
says_is b to back = record { yes = to; never = λ e p. no_both (back p) e }

-- A test's own value says whether it holds.
pub says-test : {r : Bool} (b : Bool) → r ≡ b → Says (T b) r
says-test {r} b e = says_is r (λ t. passes b (sym e ∙ t)) (λ h. e ∙ passed b h)

-- A test says as much of what holds exactly if it does.
pub says-as : {P Q : Type 0} {r : Bool} → (P → Q) → (Q → P) → Says P r → Says Q r
says-as there back s = record { yes = λ t. there (s.yes t); never = λ f q. s.never f (back q) }
