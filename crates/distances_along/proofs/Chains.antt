-- Walking along a chain of places: of two places on it, which comes first, and who stands before the next. Assumes nothing.
use mathlib.Core.Path.{◌≡◌, refl, sym, subst}
use mathlib.Core.Logic.{◌⊎◌, inl, inr}
use mathlib.Core.List.{List}
use Prim.Native.Nat.{ℕ, zero, suc, ◌≤◌, ◌<◌}
use native.Mathlib.Decide.{ℕ_discrete}
use native.Mathlib.Omega.{arith}
use Rattle.meaning.specs.Promises.{most_states}
use Rattle.moves.specs.Layout.{no_link, links_of, link_at, LinkedIn, Linked, Ascending}
use Rattle.moves.proofs.Chains.{linked-more, linked-below}

-- Of two places on a chain, the second is no later, or stands on the chain that begins behind the first.
chain-order : (r : ℕ) (back : List ℕ) → Ascending r back → (n m c i j : ℕ) → c < r → LinkedIn (links_of back) n c i
    → LinkedIn (links_of back) m c j
    → (j ≤ i) ⊎ ((link_at back i < most_states) × Linked back (link_at back i) j)
chain-order r back up zero zero c i j h p q = inl (omega arith)
chain-order r back up zero (suc m) c i j h p (a, l) =
    subst (λ (x : ℕ). (j ≤ x) ⊎ ((link_at back x < most_states) × Linked back (link_at back x) j)) p (inr (a, (m, l)))
chain-order r back up (suc n) zero c i j h p q = inl (omega (arith, q, (linked-below r back up (suc n) c i h p).0))
chain-order r back up (suc n) (suc m) c i j h (a, p) (b, q) =
    chain-order r back up n m (link_at back c) i j (linked-below r back up 1 c (link_at back c) h (a, refl)).1 p q

-- the places on c's chain before place i
abbrev pub OnChain : (back : List ℕ) (c i j : ℕ) → Type 0
OnChain back c i j = Linked back c j × (j < i)

module _ (r : ℕ) (back : List ℕ) (c : ℕ) (few : r ≤ most_states) (up : Ascending r back) (inside : c < r) where
  -- None stands before its first place,
  pub chain-begins : (j : ℕ) → OnChain back c c j → ⊥
  chain-begins j ((d, e), h) = omega (arith, h, (linked-below r back up d c j inside e).0)

  -- and all stand before its end.
  pub chain-ends : (i j : ℕ) → r ≤ i → Linked back c j → OnChain back c i j
  chain-ends i j over (d, e) = ((d, e), omega (arith, over, (linked-below r back up d c j inside e).1))

  module _ (i k : ℕ) (more : i < r) (here : Linked back c i) (is : k ≡ link_at back i) where
    -- The link leads on,
    pub chain-on : i < k
    chain-on = by (up i more)
      where
        by : (link_at back i ≡ no_link) ⊎ ((i < link_at back i) × (link_at back i < r)) → i < k
        by (inl e) = omega (arith, e, is, more, few)
        by (inr (a, b)) = omega (arith, a, is)

    -- to a place of the chain,
    pub chain_next : k < r → Linked back c k
    chain_next h = let (d, l) = here in (suc d, linked-more (links_of back) d c i k l (sym is) (omega (arith, h, few)))

    -- before which stand this place and who stood before it,
    pub chain-widens : (j : ℕ) → OnChain back c i j ⊎ (j ≡ i) → OnChain back c k j
    chain-widens j (inl (l, h)) = (l, omega (arith, h, chain-on))
    chain-widens j (inr q) = (subst (λ (x : ℕ). Linked back c x) (sym q) here, omega (arith, q, chain-on))

    -- and nobody else.
    pub chain-narrows : (j : ℕ) → OnChain back c k j → OnChain back c i j ⊎ (j ≡ i)
    chain-narrows j ((d, l), h) = by (ℕ_discrete j i)
      where
        late : (j ≤ i) ⊎ ((link_at back i < most_states) × Linked back (link_at back i) j) → j ≤ i
        late (inl q) = q
        late (inr (a, (e, f))) = absurd (on (up i more))
          where
            on : (link_at back i ≡ no_link) ⊎ ((i < link_at back i) × (link_at back i < r)) → ⊥
            on (inl q) = omega (arith, q, a)
            on (inr (p, q)) = omega (arith, h, is, (linked-below r back up e (link_at back i) j q f).0)

        low : j ≤ i
        low = let (e, f) = here in late (chain-order r back up e d c i j inside f l)

        by : Dec (j ≡ i) → OnChain back c i j ⊎ (j ≡ i)
        by (yes q) = inr q
        by (no q) = inl ((d, l), omega (arith, low, q))
