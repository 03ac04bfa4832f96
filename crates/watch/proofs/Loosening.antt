-- Cutting off: what the loop of `loosen` knows turn by turn, and that who is not cut off hangs. Assumes nothing.
use mathlib.Core.Path.{◌≡◌, sym, ap, subst, ◌∙◌}
use mathlib.Core.Logic.{◌⊎◌, inl, inr}
use mathlib.Core.List.{List}
use Prim.Native.Nat.{ℕ, zero, suc, ◌+◌, ◌≤◌, ◌<◌}
use native.Mathlib.Decide.{ℕ_discrete, dec_lt}
use native.Mathlib.Omega.{arith}
use lib.ListN.{length, get_or}
use Rattle.ground.specs.Listed.{Between}
use Rattle.meaning.specs.Promises.{most_states}
use Rattle.distances.specs.Far.{Unstruck}
use Rattle.watch.specs.Witness.{nobody, ChainIn, HungIn, AllHung, Rested}
use Rattle.watch.specs.Turns.{Turnable, Redirects, turns, stays, Redirected, Loosened}
use Rattle.watch.proofs.Cuts.{
  Loses,
  Cut,
  cut-none,
  cut-then,
  cut-redirected,
  cut-behind,
  cut-alone,
  cut-within,
  cut-place,
  cut-turn,
  cut-leads,
}

-- what is known at turn h: who hangs on a struck or lost place hangs on one that stands in the log from h on
pub record Loosening (words old row before log : List ℕ) (m tail h : ℕ) : Type 0 where
  pub cut : Cut words old row before log m tail
  pub pending : (i : ℕ) → i < length old → Unstruck words i → get_or row i 0 < length old
      → (Unstruck words (get_or row i 0) × (get_or row (get_or row i 0) 0 ≡ nobody → ⊥)) ⊎ Between log h tail (get_or row i 0)

-- Before the first turn nobody is lost.
pub loosening-none : {words row log : List ℕ} {M : ℕ → ℕ → Type 0} {from m : ℕ} → Rested words row M log from m
    → Loosening words row row log log m m from
loosening-none {words = words} {row = row} {log = log} {from = from} {m = m} R =
    record { cut = cut-none words row log m; pending = λ i h u l. by i (R.noted i h u l) l }
  where
    by : (i : ℕ) → Unstruck words (get_or row i 0) ⊎ Between log from m (get_or row i 0) → get_or row i 0 < length row
        → (Unstruck words (get_or row i 0) × (get_or row (get_or row i 0) 0 ≡ nobody → ⊥)) ⊎ Between log from m (get_or row i 0)
    by i (inl u) l = inl (u, R.helped (get_or row i 0) l u)
    by i (inr s) l = inr s

module _ {words old row before log : List ℕ} {M : ℕ → ℕ → Type 0} {from m tail h : ℕ} (R : Rested words old M before from m)
    (L : Loosening words old row before log m tail h) where
  -- There are no more places in the log than there are.
  pub loosening-within : tail ≤ length old
  loosening-within = cut-within R.log_is R.helped L.cut

  -- The log's place at h is one, struck or lost.
  pub loosening-place : from ≤ h → h < tail → get_or log h 0 < length old
  loosening-place since inside = by (dec_lt h m)
    where
      by : Dec (h < m) → get_or log h 0 < length old
      by (yes q) = cut-place R.log_is R.helped L.cut q
      by (no q) = (L.cut.places h (omega arith) inside).0

  -- Those that hang on it may be redirected.
  pub loosening-turn : from ≤ h → h < tail → length before ≤ most_states → Turnable words row (get_or log h 0) nobody log tail
  loosening-turn since inside most =
      cut-turn R.log_is R.helped L.cut (loosening-place since inside) R.pointed.few most

  -- A turn: who hung on that place is lost. P holds of all that move to it.
  pub loosening-more : {P : ℕ → Type 0} {row' log' : List ℕ} {tail' : ℕ} → ((i : ℕ) → i < length old → M i (get_or log h 0) → P i) → from ≤ h
      → h < tail
      → Redirected P words (get_or log h 0) nobody row row' tail log log' tail'
      → Loosening words old row' before log' m tail' (h + 1)
  loosening-more {P = P} {row' = row'} {log' = log'} {tail' = tail'} covers since inside T = record {
    cut = cut-then L.cut (cut-redirected (omega (arith, place, L.cut.long)) (omega (arith, few, L.cut.long)) T);
    pending = λ i k u l. pending-at i k u l (T.each i (omega (arith, k, L.cut.long)));
  }
    where
      place : get_or log h 0 < length old
      place = loosening-place since inside

      few : length old ≤ most_states
      few = R.pointed.few

      pending-at : (i : ℕ) → i < length old → Unstruck words i → get_or row' i 0 < length old
          → Redirects (P i) (get_or words i 0) (get_or log h 0) nobody (get_or row i 0) (get_or row' i 0)
          → (Unstruck words (get_or row' i 0) × (get_or row' (get_or row' i 0) 0 ≡ nobody → ⊥)) ⊎ Between log' (h + 1) tail' (get_or row' i 0)
      pending-at i k u l (turns p v was f) = absurd (omega (arith, f, l, few))
      pending-at i k u l (stays same n) =
          subst (λ (x : ℕ). (Unstruck words x × (get_or row' x 0 ≡ nobody → ⊥)) ⊎ Between log' (h + 1) tail' x) (sym same)
          (at (L.pending i k u (omega (arith, same, l))))
        where
          below : get_or row i 0 < length old
          below = omega (arith, same, l)

          hangs : M i (get_or row i 0)
          hangs = cut-leads R.log_is R.helped L.cut M few R.pointed.leads i k below

          turned : Redirects (P (get_or row i 0)) (get_or words (get_or row i 0) 0) (get_or log h 0) nobody (get_or row (get_or row i 0) 0)
              (get_or row' (get_or row i 0) 0)
              → Unstruck words (get_or row i 0) → (get_or row (get_or row i 0) 0 ≡ nobody → ⊥)
              → (Unstruck words (get_or row i 0) × (get_or row' (get_or row i 0) 0 ≡ nobody → ⊥)) ⊎ Between log' (h + 1) tail' (get_or row i 0)
          turned (turns p v was f) w helped =
              let s = T.whole (get_or row i 0) (omega (arith, below, L.cut.long)) w was f in
              inr (s.0, omega (arith, s.1, inside), s.2, s.3)
          turned (stays e x) w helped = inl (w, λ z. helped (sym e ∙ z))

          noted : (s : Between log h tail (get_or row i 0)) → Dec (s.0 ≡ h) → Between log' (h + 1) tail' (get_or row i 0)
          noted s (no q) = cut-behind log log' h tail tail' (get_or row i 0) T.kept T.grows s q
          noted s (yes q) =
              let e : get_or log h 0 ≡ get_or row i 0 = ap (λ (x : ℕ). get_or log x 0) (sym q) ∙ s.3 in
              absurd (n (covers i k (subst (M i) (sym e) hangs)) u (sym e))

          at : (Unstruck words (get_or row i 0) × (get_or row (get_or row i 0) 0 ≡ nobody → ⊥)) ⊎ Between log h tail (get_or row i 0)
              → (Unstruck words (get_or row i 0) × (get_or row' (get_or row i 0) 0 ≡ nobody → ⊥)) ⊎ Between log' (h + 1) tail' (get_or row i 0)
          at (inl p) = turned (T.each (get_or row i 0) (omega (arith, below, L.cut.long))) p.0 p.1
          at (inr s) = inr (noted s (ℕ_discrete s.0 h))

  -- When no turn is left, who is not lost hangs: a chain of witnesses never leaves those.
  pub loosening-done : tail ≤ h → Loosened words old row before log m tail
  loosening-done over = record {
    long = L.cut.long;
    loses = L.cut.loses;
    hung = hung;
    log_long = L.cut.log_long;
    kept = L.cut.kept;
    grows = L.cut.grows;
    within = loosening-within;
    places = L.cut.places;
    alone = cut-alone R.log_is R.helped L.cut;
  }
    where
      same : (i : ℕ) → i < length old → (get_or row i 0 ≡ nobody → ⊥) → get_or row i 0 ≡ get_or old i 0
      same i k n = by (L.cut.loses i k)
        where
          by : Loses old row i → get_or row i 0 ≡ get_or old i 0
          by (inl s) = s
          by (inr s) = absurd (n s.0)

      along : (n i : ℕ) → ChainIn old n i → Unstruck words i → (get_or row i 0 ≡ nobody → ⊥) → HungIn words row n i
      along zero i c u n = (omega (arith, c.0, L.cut.long), u, same i c.0 n ∙ c.1)
      along (suc n) i c u x = by (same i c.0 x) (L.pending i c.0 u (omega (arith, same i c.0 x, c.1)))
          (along n (get_or old i 0) c.2)
        where
          by : get_or row i 0 ≡ get_or old i 0
              → (Unstruck words (get_or row i 0) × (get_or row (get_or row i 0) 0 ≡ nobody → ⊥)) ⊎ Between log h tail (get_or row i 0)
              → (Unstruck words (get_or old i 0) → (get_or row (get_or old i 0) 0 ≡ nobody → ⊥) → HungIn words row n (get_or old i 0))
              → HungIn words row (suc n) i
          by e (inr s) rest = absurd (omega (arith, s.1, s.2, over))
          by e (inl p) rest = (
            omega (arith, c.0, L.cut.long),
            u,
            omega (arith, e, c.1, L.cut.long),
            subst (λ (y : ℕ). HungIn words row n y) (sym e)
                (rest (ap (λ (y : ℕ). get_or words y 0) (sym e) ∙ p.0) (λ z. p.1 (ap (λ (y : ℕ). get_or row y 0) e ∙ z))),
          )

      hung : AllHung words row
      hung i k u n = let kk : i < length old = omega (arith, k, L.cut.long) in
          let s = same i kk n in
          let c = R.chained i kk u (λ e. n (s ∙ e)) in
          (c.0, along c.0 i c.1 u n)
