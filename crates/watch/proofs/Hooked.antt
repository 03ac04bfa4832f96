-- Hanging places without a witness on one that hangs: no chain passed them, so the chains of all others are as they were. Assumes nothing.
use mathlib.Core.Path.{◌≡◌, sym, subst, ◌∙◌}
use mathlib.Core.Logic.{◌⊎◌, inl, inr}
use mathlib.Core.List.{List}
use Prim.Native.Nat.{ℕ, zero, suc, ◌<◌}
use native.Mathlib.Omega.{arith}
use lib.ListN.{length, get_or}
use Rattle.distances.specs.Far.{Unstruck}
use Rattle.watch.specs.Witness.{nobody, itself, Pointed, HungIn, Hung, AllHung, SameOwn, Hangs}

-- what happens to place i: it is as it was; or it had no witness, and hangs now on h, which is unstruck, has one, and is a next place
pub data Hooks (words row : List ℕ) (M : ℕ → ℕ → Type 0) (i new : ℕ) : Type 0 where
  as_was : new ≡ get_or row i 0 → Hooks words row M i new
  hooked : (h : ℕ) → get_or row i 0 ≡ nobody → new ≡ h → h < length row → Unstruck words h → (get_or row h 0 ≡ nobody → ⊥) → M i h
      → Hooks words row M i new

-- this happened to each place of a row
pub record Hooked (words row new : List ℕ) (M : ℕ → ℕ → Type 0) : Type 0 where
  pub long : length new ≡ length row
  pub each : (i : ℕ) → i < length row → Hooks words row M i (get_or new i 0)

module _ (words old row : List ℕ) (M : ℕ → ℕ → Type 0) (was : Hangs words old row M) (new : List ℕ) (hooks : Hooked words row new M) where
  -- who has a witness keeps it
  kept : (i : ℕ) → i < length row → (get_or row i 0 ≡ nobody → ⊥) → get_or new i 0 ≡ get_or row i 0
  kept i h other = by (hooks.each i h)
    where
      by : Hooks words row M i (get_or new i 0) → get_or new i 0 ≡ get_or row i 0
      by (as_was e) = e
      by (hooked j f e a z o l) = absurd (other f)

  -- no chain passes a place without a witness
  chain-kept : (n i : ℕ) → HungIn words row n i → HungIn words new n i
  chain-kept zero i (h, z, g) = let e = hooks.long in (omega arith, z, kept i h (λ f. omega arith) ∙ g)
  chain-kept (suc n) i (h, z, l, rest) =
      let e = hooks.long in
      let few = was.pointed.few in
      let s = kept i h (λ f. omega arith) in
      (omega arith, z, omega arith, subst (λ (x : ℕ). HungIn words new n x) (sym s) (chain-kept n (get_or row i 0) rest))

  hung-new : AllHung words new
  hung-new i h z other = by (hooks.each i (let e = hooks.long in omega arith))
    where
      stays : Hung words row i → Hung words new i
      stays (n, c) = (n, chain-kept n i c)

      joins : (j : ℕ) → get_or new i 0 ≡ j → j < length row → Hung words row j → Hung words new i
      joins j e a (n, c) =
          let f = hooks.long in
          (suc n, (h, z, omega arith, subst (λ (x : ℕ). HungIn words new n x) (sym e) (chain-kept n j c)))

      by : Hooks words row M i (get_or new i 0) → Hung words new i
      by (as_was e) = stays (was.hung i (let f = hooks.long in omega arith) z (λ f. other (e ∙ f)))
      by (hooked j f e a y o l) = joins j e a (was.hung j a y o)

  pointed-new : Pointed new M
  pointed-new = record {
    few = let e = hooks.long in let a = was.pointed.few in omega arith;
    each = λ i h. at i (hooks.each i (let e = hooks.long in omega arith)) (was.pointed.each i (let e = hooks.long in omega arith));
    leads = λ i h l. leads i h l (hooks.each i (let e = hooks.long in omega arith));
  }
    where
      at : (i : ℕ) → Hooks words row M i (get_or new i 0) → (get_or row i 0 ≡ nobody) ⊎ (get_or row i 0 ≡ itself) ⊎ (get_or row i 0 < length row)
          → (get_or new i 0 ≡ nobody) ⊎ (get_or new i 0 ≡ itself) ⊎ (get_or new i 0 < length new)
      at i (hooked j f e a y o l) w = let g = hooks.long in inr (inr (omega arith))
      at i (as_was e) (inl f) = inl (e ∙ f)
      at i (as_was e) (inr (inl f)) = inr (inl (e ∙ f))
      at i (as_was e) (inr (inr f)) = let g = hooks.long in inr (inr (omega arith))

      leads : (i : ℕ) → i < length new → get_or new i 0 < length new → Hooks words row M i (get_or new i 0) → M i (get_or new i 0)
      leads i h l (hooked j f e a y o m) = subst (M i) (sym e) m
      leads i h l (as_was e) =
          let g = hooks.long in
          subst (M i) (sym e) (was.pointed.leads i (omega arith) (omega arith))

  own_new : SameOwn old new
  own_new i h = by (hooks.each i (let e = hooks.long in omega arith)) (was.own i (let e = hooks.long in omega arith))
    where
      by : Hooks words row M i (get_or new i 0) → (get_or row i 0 ≡ itself → get_or old i 0 ≡ itself)
          × (get_or old i 0 ≡ itself → get_or row i 0 ≡ itself)
          → (get_or new i 0 ≡ itself → get_or old i 0 ≡ itself) × (get_or old i 0 ≡ itself → get_or new i 0 ≡ itself)
      by (as_was e) (a, b) = (λ g. a (sym e ∙ g), λ g. e ∙ b g)
      by (hooked j f e a y o l) (b, c) =
          (λ g. absurd (let few = was.pointed.few in omega arith), λ g. absurd (let d = c g in omega arith))

  only-new : (i : ℕ) → i < length new → get_or new i 0 ≡ nobody → get_or old i 0 ≡ nobody
  only-new i h n = by (hooks.each i (let e = hooks.long in omega arith))
    where
      by : Hooks words row M i (get_or new i 0) → get_or old i 0 ≡ nobody
      by (as_was e) = was.only i (let g = hooks.long in omega arith) (sym e ∙ n)
      by (hooked j f e a y o l) = absurd (let few = was.pointed.few in omega arith)

  -- The new row hangs too.
  pub hangs-hooked : Hangs words old new M
  hangs-hooked = record { long = hooks.long ∙ was.long; pointed = pointed-new; hung = hung-new; own = own_new; only = only-new }
