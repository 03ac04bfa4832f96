-- The loop that lines up the places with one value, turn by turn. Assumes nothing.
use mathlib.Core.Path.{◌≡◌, sym, ap, subst, ◌∙◌}
use mathlib.Core.List.{List}
use Prim.Native.Nat.{ℕ, suc, ◌+◌, ◌-◌, ◌≤◌, ◌<◌}
use native.Mathlib.Decide.{ℕ_discrete}
use native.Mathlib.Numerals.{add-one}
use native.Mathlib.Omega.{arith}
use lib.ListN.{length, get_or, set}
use lib.Seq.{get_or-set_same, get_or-set_other}
use Rattle.ground.specs.Listed.{Between}
use Rattle.distances.specs.Far.{far, gone}
use Rattle.distances.specs.Values.{LinedUp}

module _ (v : ℕ) (near : List ℕ) (i tail : ℕ) (list : List ℕ) (l : LinedUp v near i tail list) where
  -- A place with another value is passed by.
  pub lined-past : get_or near i 0 ≤ far → (get_or near i 0 ≡ v → ⊥) → LinedUp v near (i + 1) tail list
  lined-past most other = subst (λ (n : ℕ). LinedUp v near n tail list) (sym (add-one i)) (record {
    few = let a = l.few in omega arith;
    room = λ z. let a = l.room z in omega arith;
    counted = λ f. let a = l.counted f in let n : get_or near i 0 ≡ far → ⊥ = λ e. other (e ∙ sym f) in omega arith;
    rises = l.rises;
    each = λ t h. let u = l.each t h in let a = u.0 in (omega arith, u.1);
    whole = λ m h e. at m (ℕ_discrete m i) h e;
  })
    where
      at : (m : ℕ) → Dec (m ≡ i) → m < suc i → get_or near m 0 ≡ v → Between list 0 tail m
      at m (yes q) h e = absurd (other (subst (λ (x : ℕ). get_or near x 0 ≡ v) q e))
      at m (no q) h e = l.whole m (omega arith) e

  -- A place with the value is put behind the others.
  pub lined-more : get_or near i 0 ≡ v → tail < length list → LinedUp v near (i + 1) (tail + 1) (set list tail i)
  lined-more here inside = subst (λ (n : ℕ). LinedUp v near n (tail + 1) (set list tail i)) (sym (add-one i)) (record {
    few = let a = l.few in omega arith;
    room = λ z. let a = l.room z in let b : get_or near i 0 - gone ≡ 0 = ap (λ (x : ℕ). x - gone) (here ∙ z) in omega arith;
    counted = λ f. let a = l.counted f in let b : get_or near i 0 - gone ≡ 1 = ap (λ (x : ℕ). x - gone) (here ∙ f) in omega arith;
    rises = λ s t h k. rise s t (ℕ_discrete t tail) h k;
    each = λ t h. each_at t (ℕ_discrete t tail) h;
    whole = λ m h e. at m (ℕ_discrete m i) h e;
  })
    where
      list' : List ℕ
      list' = set list tail i

      last : get_or list' tail 0 ≡ i
      last = get_or-set_same list tail i 0 inside

      kept : (t : ℕ) → (t ≡ tail → ⊥) → get_or list' t 0 ≡ get_or list t 0
      kept t q = get_or-set_other list tail t i 0 q

      rise : (s t : ℕ) → Dec (t ≡ tail) → s < t → t < tail + 1 → get_or list' s 0 < get_or list' t 0
      rise s t (yes q) h k =
          let a = kept s (λ e. omega arith) in
          let b : get_or list' t 0 ≡ i = ap (λ (x : ℕ). get_or list' x 0) q ∙ last in
          let c = (l.each s (omega arith)).0 in
          omega arith
      rise s t (no q) h k = let a = kept s (λ e. omega arith) in let b = kept t q in let c = l.rises s t h (omega arith) in omega arith

      each_at : (t : ℕ) → Dec (t ≡ tail) → t < tail + 1 → (get_or list' t 0 < suc i) × (get_or near (get_or list' t 0) 0 ≡ v)
      each_at t (yes q) h =
          let e : get_or list' t 0 ≡ i = ap (λ (x : ℕ). get_or list' x 0) q ∙ last in
          (omega arith, ap (λ (x : ℕ). get_or near x 0) e ∙ here)
      each_at t (no q) h =
          let e = kept t q in
          let u = l.each t (omega arith) in
          let a = u.0 in
          (omega arith, ap (λ (x : ℕ). get_or near x 0) e ∙ u.1)

      at : (m : ℕ) → Dec (m ≡ i) → m < suc i → get_or near m 0 ≡ v → Between list' 0 (tail + 1) m
      at m (yes q) h e = (tail, omega arith, omega arith, last ∙ sym q)
      at m (no q) h e = shift (l.whole m (omega arith) e)
        where
          shift : Between list 0 tail m → Between list' 0 (tail + 1) m
          shift (t, a, b, f) = (t, a, omega arith, kept t (λ g. omega arith) ∙ f)
