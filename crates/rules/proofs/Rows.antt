-- Writes behind what stands: everything below stays, place by place. Assumes nothing.
use mathlib.Core.Path.{refl, ◌∙◌}
use mathlib.Core.List.{List}
use Prim.Native.Nat.{ℕ, ◌≤◌}
use native.Mathlib.Omega.{arith}
use Rattle.rules.specs.Rows.{KeptBelow}

pub kept-all : (m : ℕ) (l : List ℕ) → KeptBelow m l l
kept-all m l = record { long = refl; same = λ j h. refl }

-- What two writes keep in turn, both keep.
pub kept_then : {m k : ℕ} {a b c : List ℕ} → m ≤ k → KeptBelow m a b → KeptBelow k b c → KeptBelow m a c
kept_then le p q = record { long = q.long ∙ p.long; same = λ j h. q.same j (omega arith) ∙ p.same j h }

pub kept_less : {m k : ℕ} {a b : List ℕ} → m ≤ k → KeptBelow k a b → KeptBelow m a b
kept_less le p = record { long = p.long; same = λ j h. p.same j (omega arith) }
