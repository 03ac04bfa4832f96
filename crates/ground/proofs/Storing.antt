-- What a store leaves, place by place: at its own place (set_here) and at every other (set_apart). Assumes nothing.
use mathlib.Core.Path.{◌≡◌, sym, subst}
use mathlib.Core.List.{List}
use Prim.Native.Nat.{ℕ, ◌<◌}
use lib.ListN.{length, get_or, set}
use lib.Seq.{get_or-set_same, get_or-set_other}

-- A store changes no other place.
pub set_apart : (l : List ℕ) (k j x : ℕ) → (j ≡ k → ⊥) → get_or (set l k x) j 0 ≡ get_or l j 0
set_apart l k j x h = get_or-set_other l k j x 0 h

-- At its place the new value stands.
pub set_here : (l : List ℕ) (k j x : ℕ) → j ≡ k → k < length l → get_or (set l k x) j 0 ≡ x
set_here l k j x e h = subst (λ n. get_or (set l k x) n 0 ≡ x) (sym e) (get_or-set_same l k x 0 h)
