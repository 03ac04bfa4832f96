-- The layers: what the values say from place to place and from layer to layer; a layer that adds nothing or leaves nothing shuts them, so
-- that they are the distances. Assumes nothing.
use mathlib.Core.Path.{◌≡◌, subst}
use mathlib.Core.Logic.{inl, inr}
use mathlib.Core.List.{List}
use Prim.Native.Nat.{ℕ, suc, ◌+◌, ◌≤◌, ◌<◌}
use native.Mathlib.Decide.{dec_lt, ℕ_discrete}
use native.Mathlib.Omega.{arith}
use lib.ListN.{get_or}
use Rattle.meaning.specs.System.{System}
use Rattle.distances.specs.Far.{Unstruck, gone}
use Rattle.distances.specs.Values.{fars, Reaches, as_was, reached, Spread, Opened, Near}
use Rattle.distances.proofs.Shut.{
  Shut,
  reaches-keeps,
  spread-counts,
  none-far,
  reached-near,
  near-live,
  sure-spread,
  spread-here,
  shut-near,
}
use Rattle.distances_tests.specs.Layers.{Done, Layered}

module _ (S : System) (G : ℕ → Type 0) (table words : List ℕ) (r : ℕ) where
  -- At the beginning no place of the first layer is spread from.
  pub layered-none : (near : List ℕ) → Opened S G table words r near → Layered S G table words r 0 0 0 near
  layered-none near o = record {
    sure = o.sure;
    low = λ i h l. let z = o.at_goal i h l in (omega arith, omega arith);
    steps = λ i m _ _ _ _ _ done. absurd (never (get_or near m 0) m done);
  }
    where
      never : (x m : ℕ) → Done 0 0 m x → ⊥
      never x m (inl h) = omega arith
      never x m (inr (h, l)) = omega arith

  module _ (d j got : ℕ) (old : List ℕ) (L : Layered S G table words r d j got old) (small : suc d < gone) where
    -- Passing by a place that is not of layer d.
    pub layered-past : (get_or old j 0 ≡ d → ⊥) → Layered S G table words r d (j + 1) got old
    layered-past other = record {
      sure = L.sure;
      low = L.low;
      steps = λ i m h k a b v done. L.steps i m h k a b v (back m done);
    }
      where
        back : (m : ℕ) → Done d (j + 1) m (get_or old m 0) → Done d j m (get_or old m 0)
        back m (inl h) = inl h
        back m (inr (e, h)) = inr (e, (let n : m ≡ j → ⊥ = λ q. other (subst (λ (x : ℕ). get_or old x 0 ≡ d) q e) in omega arith))

    -- Passing by a place of layer d for which place k serves: whoever moves to it is near enough by the move to k.
    pub layered-served : (k : ℕ) → k < r → get_or old j 0 ≡ d → Done d j k (get_or old k 0)
        → ((i : ℕ) → i < r → S.Move (get_or table i 0) (get_or table j 0) → S.Move (get_or table i 0) (get_or table k 0))
        → Layered S G table words r d (j + 1) got old
    layered-served k place here known wider = record {
      sure = L.sure;
      low = L.low;
      steps = λ i m h g a b v done. step i m h g a b v (ℕ_discrete m j) done;
    }
      where
        most : (x : ℕ) → Done d j k x → x ≤ d
        most x (inl l) = omega arith
        most x (inr (e, l)) = omega arith

        at_most : get_or old k 0 ≤ d
        at_most = most (get_or old k 0) known

        step : (i m : ℕ) → i < r → m < r → Unstruck words i → Unstruck words m → S.Move (get_or table i 0) (get_or table m 0)
            → Dec (m ≡ j) → Done d (j + 1) m (get_or old m 0) → get_or old i 0 ≤ suc (get_or old m 0)
        step i m h g a b v q (inl l) = L.steps i m h g a b v (inl l)
        step i m h g a b v (no q) (inr (e, l)) = L.steps i m h g a b v (inr (e, omega arith))
        step i m h g a b v (yes q) (inr (e, l)) =
            let u = wider i h (subst (λ (x : ℕ). S.Move (get_or table i 0) (get_or table x 0)) q v) in
            let near-k = at_most in
            let w = L.steps i k h place a (near-live S G table words r old L.sure k place (omega arith)) u known in
            omega arith

    -- Where no place is left to be reached, the rest of the layer is as good as spread.
    pub layered-full : fars old r ≡ 0 → Layered S G table words r d r got old
    layered-full nothing = record {
      sure = L.sure;
      low = L.low;
      steps = λ i m h k a b v done. by i m h k a b v done;
    }
      where
        by : (i m : ℕ) → i < r → m < r → Unstruck words i → Unstruck words m → S.Move (get_or table i 0) (get_or table m 0)
            → Done d r m (get_or old m 0) → get_or old i 0 ≤ suc (get_or old m 0)
        by i m h k a b v (inl l) = L.steps i m h k a b v (inl l)
        by i m h k a b v (inr (e, l)) =
            let u = reached-near S G table words r i (get_or old i 0) (L.sure.each i h a) (none-far r old nothing i h) in
            let w = (L.low i h u.0).0 in
            omega arith

    -- Spreading from a place of layer d.
    pub layered-spread : (P : ℕ → Type 0) (new : List ℕ) (more : ℕ) → j < r → get_or old j 0 ≡ d
        → ((i : ℕ) → i < r → S.Move (get_or table i 0) (get_or table j 0) → P i)
        → ((i : ℕ) → i < r → P i → S.Move (get_or table i 0) (get_or table j 0))
        → Spread P (suc d) r old new more → Layered S G table words r d (j + 1) (got + more) new
    layered-spread P new more inside here into out s = record {
      sure = sure-spread S G table words r old L.sure P j d new more inside here small out s;
      low = λ i h l. at i h l (s.each i h);
      steps = λ i m h k a b v done. step i m h k a b v (ℕ_discrete m j) (s.each m k) done;
    }
      where
        at : (i : ℕ) → i < r → get_or new i 0 < gone → Reaches (P i) (suc d) (get_or old i 0) (get_or new i 0)
            → (get_or new i 0 ≤ suc d) × (get_or new i 0 ≤ d + (got + more))
        at i h l (as_was e f) = let u = L.low i h (omega arith) in let a = u.0 in let b = u.1 in (omega arith, omega arith)
        at i h l (reached e p f) = (omega arith, (let c = spread-counts P (suc d) r old new more i s small h e f in omega arith))

        -- a move to a place that was known before this spread
        known : (i m : ℕ) → i < r → get_or new m 0 ≡ get_or old m 0 → get_or old m 0 ≤ d → get_or old i 0 ≤ suc (get_or old m 0)
            → get_or new i 0 ≤ suc (get_or new m 0)
        known i m h e b l = let k = reaches-keeps (s.each i h) (omega arith) in omega arith

        step : (i m : ℕ) → i < r → m < r → Unstruck words i → Unstruck words m → S.Move (get_or table i 0) (get_or table m 0)
            → Dec (m ≡ j) → Reaches (P m) (suc d) (get_or old m 0) (get_or new m 0) → Done d (j + 1) m (get_or new m 0)
            → get_or new i 0 ≤ suc (get_or new m 0)
        step i m h k a b v q (reached e p f) (inl g) = absurd (omega arith)
        step i m h k a b v q (reached e p f) (inr (g, o)) = absurd (omega arith)
        step i m h k a b v q (as_was e f) (inl g) = known i m h e (omega arith) (L.steps i m h k a b v (inl (omega arith)))
        step i m h k a b v (no q) (as_was e f) (inr (g, o)) =
            known i m h e (omega arith) (L.steps i m h k a b v (inr (omega arith, omega arith)))
        step i m h k a b v (yes q) (as_was e f) (inr (g, o)) =
            let p = into i h (subst (λ (x : ℕ). S.Move (get_or table i 0) (get_or table x 0)) q v) in
            let l = spread-here S G table words r old L.sure P d new more small s i h a p (λ n. (L.low i h n).0) in
            omega arith

  -- A layer spread from all its places, with something added, leads to the next.
  pub layered-next : (d got : ℕ) (old : List ℕ) → Layered S G table words r d r got old → Layered S G table words r (d + 1) 0 0 old
  layered-next d got old L = record {
    sure = L.sure;
    low = λ i h l. let a = (L.low i h l).0 in (omega arith, omega arith);
    steps = λ i m h k a b v done. L.steps i m h k a b v (back m k done);
  }
    where
      back : (m : ℕ) → m < r → Done (d + 1) 0 m (get_or old m 0) → Done d r m (get_or old m 0)
      back m k (inr (e, h)) = absurd (omega arith)
      back m k (inl h) = by (dec_lt (get_or old m 0) d)
        where
          by : Dec (get_or old m 0 < d) → Done d r m (get_or old m 0)
          by (yes l) = inl l
          by (no l) = inr (omega arith, k)

  -- A layer that adds nothing ends the search.
  pub quiet-near : (d : ℕ) (old : List ℕ) → Layered S G table words r d r 0 old → Near S G table words r old
  quiet-near d old L = shut-near S G table words r old L.sure shut
    where
      shut : Shut S G table words r old
      shut i m h k a b v l = L.steps i m h k a b v (by (dec_lt (get_or old m 0) d))
        where
          by : Dec (get_or old m 0 < d) → Done d r m (get_or old m 0)
          by (yes q) = inl q
          by (no q) = let e = (L.low m k l).1 in inr (omega arith, k)

  -- So does one that leaves no place to be reached.
  pub full-near : (d : ℕ) (old : List ℕ) → Layered S G table words r d 0 0 old → fars old r ≡ 0 → Near S G table words r old
  full-near d old L none = shut-near S G table words r old L.sure shut
    where
      shut : Shut S G table words r old
      shut i m h k a b v l = by (dec_lt (get_or old m 0) d)
        where
          by : Dec (get_or old m 0 < d) → get_or old i 0 ≤ suc (get_or old m 0)
          by (yes q) = L.steps i m h k a b v (inl q)
          by (no q) =
              let u = reached-near S G table words r i (get_or old i 0) (L.sure.each i h a) (none-far r old none i h) in
              let c = (L.low i h u.0).1 in
              omega arith
