-- The least next state, listed with room for one: whether there is one, and where the first place is that will do. Assumes nothing.
use mathlib.Core.Path.{◌≡◌, refl, sym, subst, ap, ◌∙◌}
use mathlib.Core.List.{List, [], ◌∷◌}
use Prim.Native.Nat.{ℕ, suc, min, ◌≤◌, ◌<◌}
use Rattle.std.proofs.Common.{Some}
use native.Mathlib.Omega.{arith}
use lib.ListN.{length, get_or, set, length-set}
use lib.Seq.{sets, get_or-set_same}
use Rattle.meaning.specs.System.{In}
use Rattle.meaning.proofs.Writing.{sets-past}
use Rattle.ground.proofs.Rising.{rises-le}
use Rattle.rules.specs.Book.{book_system}
use Rattle.walk_listing.specs.Listing.{Listing}
use Rattle.table_lookup.specs.Lookup.{StandsAt, Splits}
use Rattle.ends_tests.specs.Phases.{Counts, Sought, found}
use Rattle.ends_tests.proofs.Answers.{Passed}

-- x is a state of P, and none is less
pub record Least (P : ℕ → Type 0) (x : ℕ) : Type 0 where
  pub one_of : P x
  pub least : (y : ℕ) → P y → x ≤ y

-- With room for one, the first of the list is written.
sets-one : (old list : List ℕ) → length old ≡ 1 → 0 < length list → get_or (sets old 0 list) 0 0 ≡ get_or list 0 0
sets-one old [] e h = absurd (omega arith)
sets-one old (x ∷ list) e h =
    ap (λ (l : List ℕ). get_or l 0 0) (sets-past (set old 0 x) 1 list (omega (arith, length-set old 0 x, e)))
    ∙ get_or-set_same old 0 x 0 (omega arith)

told-some : (n k : ℕ) → n ≡ min k 2 → (n ≡ 0 → ⊥) → 0 < k
told-some n k e z = omega arith

module _ {P : ℕ → Type 0} (old new : List ℕ) (n : ℕ) (L : Listing P old new n) (room : length old ≡ 1) where
  told : n ≡ min (length L.list) 2
  told = L.told ∙ ap (λ (k : ℕ). min (length L.list) (suc k)) room

  -- Else the least is written.
  pub listed-least : (n ≡ 0 → ⊥) → Least P (get_or new 0 0)
  listed-least some = subst (Least P) (sym here) (record { one_of = L.lists.sound 0 inside; least = λ y p. by y (L.lists.whole y p) })
    where
      inside : 0 < length L.list
      inside = told-some n (length L.list) told some

      here : get_or new 0 0 ≡ get_or L.list 0 0
      here = ap (λ (l : List ℕ). get_or l 0 0) L.written ∙ sets-one old L.list room inside

      by : (y : ℕ) → In L.list y → get_or L.list 0 0 ≤ y
      by y (i, h, e) = subst (λ (x : ℕ). get_or L.list 0 0 ≤ x) e (rises-le L.list L.lists.rises 0 i (omega arith) h)

module _ (book table words : List ℕ) (v r s lo : ℕ) where
  module _ (x p : ℕ) (L : Least ((book_system book).Move s) x) (S : Splits table r x p) where
    -- Before the least next state's place there is none.
    pub least-passed : Passed book table words v s lo p
    least-passed = record { nothing = λ m a b c t. let d = L.least (get_or table m 0) t in let e = S.below m b in omega arith }

    -- If it stands there and counts, it is found.
    pub least-found : StandsAt table r p x → Counts v (get_or words p 0) → Sought book table words v r s lo (Some p)
    least-found T c =
        found p refl T.inside c (subst (λ (y : ℕ). (book_system book).Move s y) (sym T.there) L.one_of)
        least-passed.nothing
