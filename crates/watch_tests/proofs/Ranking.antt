-- The line of those who watch by tests: filling it, and bringing places to its front by letting two change. Assumes nothing.
use Rattle.std.specs.List.{SwappedAt}
use mathlib.Core.Path.{◌≡◌, refl, sym, ap, subst, ◌∙◌}
use mathlib.Core.Logic.{◌⊎◌, inl, inr}
use mathlib.Core.List.{List}
use Prim.Native.Nat.{ℕ, ◌+◌, ◌-◌, ◌≤◌, ◌<◌}
use native.Mathlib.Decide.{ℕ_discrete, dec_lt}
use native.Mathlib.Omega.{arith}
use lib.ListN.{length, get_or, set, length-set}
use lib.Seq.{get_or-set_same, get_or-set_other}
use Rattle.ground.specs.Listed.{Between}
use Rattle.distances.specs.Far.{Unstruck}
use Rattle.watch.specs.Witness.{nobody, Hangable}
use Rattle.watch_tests.specs.Tests.{Brought, Fronted, Copied, Ranked, Pending}

-- ---- two numbers of the line change places

-- What swapping two does.
pub brought-swap : {before line : List ℕ} {n g : ℕ} → SwappedAt before line n g → length line ≡ length before → Brought before line n g
brought-swap S long = record { long = long; here = S.0 0; there = S.1 0; other = λ s p q. S.2 s 0 p q }

module _ {before line : List ℕ} {n g : ℕ} (B : Brought before line n g) (after : n ≤ g) where
  -- Who stood behind the first n stands behind one more, unless it is the one brought.
  pub brought-behind : (k i : ℕ) → g < k → Between before n k i → (i ≡ get_or before g 0) ⊎ Between line (n + 1) k i
  brought-behind k i more (s, a, b, e) = by (ℕ_discrete s g) (ℕ_discrete s n)
    where
      by : Dec (s ≡ g) → Dec (s ≡ n) → (i ≡ get_or before g 0) ⊎ Between line (n + 1) k i
      by (yes q) d = inl (sym e ∙ ap (λ (x : ℕ). get_or before x 0) q)
      by (no q) (yes p) = inr (g, omega arith, more, B.there ∙ ap (λ (x : ℕ). get_or before x 0) (sym p) ∙ e)
      by (no q) (no p) = inr (s, omega arith, b, B.other s p q ∙ e)

  -- Who stood before it stands there still, and the one brought behind them.
  pub brought-front : (a j : ℕ) → Between before a n j → Between line a (n + 1) j
  brought-front a j (s, h, l, e) = (s, h, omega arith, B.other s (λ q. omega arith) (λ q. omega arith) ∙ e)

  pub brought-here : (a : ℕ) → a ≤ n → Between line a (n + 1) (get_or before g 0)
  brought-here a h = (n, h, omega arith, B.here)

  -- Who stood from g on stands from the next on, unless it is the one brought.
  pub brought-later : (k i : ℕ) → Between before g k i → (i ≡ get_or before g 0) ⊎ Between line (g + 1) k i
  brought-later k i (s, a, b, e) = by (ℕ_discrete s g)
    where
      by : Dec (s ≡ g) → (i ≡ get_or before g 0) ⊎ Between line (g + 1) k i
      by (yes q) = inl (sym e ∙ ap (λ (x : ℕ). get_or before x 0) q)
      by (no q) = inr (s, omega arith, b, B.other s (λ p. omega arith) q ∙ e)

  -- Who stands there now stood there,
  pub brought-from : (k s : ℕ) → g < k → s < k → Between before 0 k (get_or line s 0)
  brought-from k s more inside = by (ℕ_discrete s n) (ℕ_discrete s g)
    where
      by : Dec (s ≡ n) → Dec (s ≡ g) → Between before 0 k (get_or line s 0)
      by (yes p) d = (g, omega arith, more, sym (ap (λ (x : ℕ). get_or line x 0) p ∙ B.here))
      by (no p) (yes q) = (n, omega arith, omega arith, sym (ap (λ (x : ℕ). get_or line x 0) q ∙ B.there))
      by (no p) (no q) = (s, omega arith, inside, sym (B.other s p q))

  -- between the front and g, too.
  pub brought-tested : (s : ℕ) → n + 1 ≤ s → s < g + 1 → Between before n g (get_or line s 0)
  brought-tested s low high = by (ℕ_discrete s g)
    where
      by : Dec (s ≡ g) → Between before n g (get_or line s 0)
      by (yes q) = (n, omega arith, omega arith, sym (ap (λ (x : ℕ). get_or line x 0) q ∙ B.there))
      by (no q) = (s, omega arith, omega arith, sym (B.other s (λ p. omega arith) q))

-- ---- copying the log's places

-- a line's first n places are unstruck and have a witness
abbrev pub Front : (words row line : List ℕ) (n : ℕ) → Type 0
Front words row line n =
    (s : ℕ) → s < n → (get_or line s 0 < length row) × Unstruck words (get_or line s 0) × (get_or row (get_or line s 0) 0 ≡ nobody → ⊥)

-- Where those in front have a witness, and all who stand alone are copied behind them, the line is ranked.
pub copied-ranked : {words row : List ℕ} {M : ℕ → ℕ → Type 0} {log : List ℕ} {m tail : ℕ} {before line : List ℕ} {n k : ℕ}
    → Hangable words row M log m tail → Front words row before n → Copied log m tail before line n k → Ranked words row line n k
copied-ranked {words = words} {row = row} {log = log} {m = m} {tail = tail} {before = before} {line = line} {n = n} {k = k} H F C = record {
  ordered = C.grows;
  places = λ s h. place_at s h (dec_lt s n);
  helped = λ s h f. (F s h).2 (sym (ap (λ (x : ℕ). get_or row x 0) (C.kept s h)) ∙ f);
  alone = λ i h u e. at i (H.alone i h u e);
}
  where
    place_at : (s : ℕ) → s < k → Dec (s < n) → (get_or line s 0 < length row) × Unstruck words (get_or line s 0)
    place_at s h (yes q) =
        let e = C.kept s q in
        let p = F s q in
        let a = p.0 in
        (omega arith, ap (λ (x : ℕ). get_or words x 0) e ∙ p.1)
    place_at s h (no q) =
        let b : n + (s - n) ≡ s = omega arith in
        let e : get_or line s 0 ≡ get_or log (m + (s - n)) 0 = sym (ap (λ (x : ℕ). get_or line x 0) b) ∙ C.same (s - n) (omega arith) in
        let p = H.places (m + (s - n)) (omega arith) (let a = C.count in omega arith) in
        let a = p.0 in
        (omega arith, ap (λ (x : ℕ). get_or words x 0) e ∙ p.1)

    at : (i : ℕ) → Between log m tail i → Between line n k i
    at i (t, a, b, e) =
        let c = C.count in
        let d : n + (t - m) < k = omega arith in
        let f : m + (t - m) ≡ t = omega arith in
        (n + (t - m), omega arith, d, C.same (t - m) d ∙ ap (λ (x : ℕ). get_or log x 0) f ∙ e)

-- Where all who have a witness stand in front, who waits waits for one of them.
pub fronted-pending : {words row log : List ℕ} {m tail : ℕ} {before line line' : List ℕ} {n k : ℕ} (M : ℕ → ℕ → Type 0)
    → Fronted words row (length row) before line n → Copied log m tail line line' n k → Pending words row M line' 0 n
fronted-pending {line = line} {line' = line'} {n = n} M F C i j a b z y l f o = still (F.whole j b y o)
  where
    still : Between line 0 n j → Between line' 0 n j
    still (s, c, d, e) = (s, c, d, C.kept s d ∙ e)

-- At first none is copied;
pub copied_none : (log : List ℕ) (m : ℕ) (line : List ℕ) (n : ℕ) → Copied log m m line line n n
copied_none log m line n = record {
  long = refl;
  kept = λ s h. refl;
  grows = omega arith;
  count = omega arith;
  same = λ s h. absurd (omega arith);
}

-- then one more at a time,
pub copied_more : {log : List ℕ} {m g : ℕ} {before line : List ℕ} {n k : ℕ} → Copied log m g before line n k → k < length line
    → Copied log m (g + 1) before (set line k (get_or log g 0)) n (k + 1)
copied_more {log = log} {m = m} {g = g} {line = line} {n = n} {k = k} C inside = record {
  long = length-set line k (get_or log g 0) ∙ C.long;
  kept = λ s h. get_or-set_other line k s (get_or log g 0) 0 (λ q. let a = C.grows in omega arith) ∙ C.kept s h;
  grows = let a = C.grows in omega arith;
  count = let a = C.count in omega arith;
  same = λ s h. at s h (ℕ_discrete (n + s) k);
}
  where
    at : (s : ℕ) → n + s < k + 1 → Dec (n + s ≡ k) → get_or (set line k (get_or log g 0)) (n + s) 0 ≡ get_or log (m + s) 0
    at s h (yes q) =
        let e : g ≡ m + s = let a = C.count in omega arith in
        ap (λ (x : ℕ). get_or (set line k (get_or log g 0)) x 0) q ∙ get_or-set_same line k (get_or log g 0) 0 inside ∙ ap (λ (x : ℕ). get_or log x 0)
        e
    at s h (no q) = get_or-set_other line k (n + s) (get_or log g 0) 0 q ∙ C.same s (omega arith)

-- up to the last.
pub copied-done : {log : List ℕ} {m g tail : ℕ} {before line : List ℕ} {n k : ℕ} → Copied log m g before line n k → g ≤ tail → tail ≤ g
    → Copied log m tail before line n k
copied-done {log = log} {m = m} {before = before} {line = line} {n = n} {k = k} C a b =
    let e = same a b in
    subst (λ (x : ℕ). Copied log m x before line n k) e C
  where
    same : {g tail : ℕ} → g ≤ tail → tail ≤ g → g ≡ tail
    same a b = omega arith
