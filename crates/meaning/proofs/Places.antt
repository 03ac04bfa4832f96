-- Which place of a paper each moment of its endless reading has: place-goes-on and place-turns (one moment), place-below, place-early,
-- place-late, place-in-loop and place-returns. Assumes nothing.
use Prim.Native.Nat.{ℕ, zero, suc, ◌+◌, ◌-◌, ◌≤◌, ◌<◌}
use mathlib.Core.Path.{◌≡◌, refl, ap, ◌∙◌}
use mathlib.Core.Logic.{◌⊎◌, inl, inr, ⊎_elim}
use native.Mathlib.Decide.{dec_lt, dec_le}
use native.Mathlib.Omega.{arith}
use borrow.Author.Tests.{lt-ltb, le-ltb}
use Rattle.meaning.specs.Papers.{place}

-- The place after one that is not the last.
pub place-goes-on : (a b i : ℕ) → suc (place a b i) < b → place a b (suc i) ≡ suc (place a b i)
place-goes-on a b i h = rw (lt-ltb (suc (place a b i)) b h)

-- The place after the last is a.
pub place-turns : (a b i : ℕ) → b ≤ suc (place a b i) → place a b (suc i) ≡ a
place-turns a b i h = rw (le-ltb (suc (place a b i)) b h)

-- Every place is on the paper.
pub place-below : (a b i : ℕ) → a < b → place a b i < b
place-below a b zero h = omega arith
place-below a b (suc i) h = by (dec_lt (suc (place a b i)) b)
  where
    by : Dec (suc (place a b i) < b) → place a b (suc i) < b
    by (yes q) = rw (place-goes-on a b i q) q
    by (no q) = rw (place-turns a b i (omega arith)) h

-- A moment below b stands at its own place.
pub place-early : (a b i : ℕ) → i < b → place a b i ≡ i
place-early a b zero h = refl
place-early a b (suc i) h = rw (place-goes-on a b i (rw (place-early a b i (omega arith)) h), place-early a b i (omega arith))

-- A place is the moment itself, or lies in the part that is read again and again.
pub place-late : (a b i : ℕ) → (place a b i ≡ i) ⊎ (a ≤ place a b i)
place-late a b zero = inl refl
place-late a b (suc i) = by (dec_lt (suc (place a b i)) b) (place-late a b i)
  where
    by : Dec (suc (place a b i) < b) → (place a b i ≡ i) ⊎ (a ≤ place a b i) → (place a b (suc i) ≡ suc i) ⊎ (a ≤ place a b (suc i))
    by (yes q) (inl e) = inl (place-goes-on a b i q ∙ ap suc e)
    by (yes q) (inr h) = inr (rw (place-goes-on a b i q) (omega arith))
    by (no q) w = inr (rw (place-turns a b i (omega arith)) (omega arith))

-- From moment a on, the reading stays at or after place a.
pub place-in-loop : (a b i : ℕ) → a ≤ i → a ≤ place a b i
place-in-loop a b i l = ⊎_elim (λ e. omega arith) (λ h. h) (place-late a b i)

-- from where it is the reading walks on to any later place of the paper
place-walks : (a b q d i : ℕ) → q < b → place a b i + d ≡ q → (j : ℕ) × (i ≤ j) × (place a b j ≡ q)
place-walks a b q zero i h e = (i, omega arith, omega arith)
place-walks a b q (suc d) i h e =
    let n : place a b (suc i) ≡ suc (place a b i) = place-goes-on a b i (omega arith) in
    let r : (j : ℕ) × (suc i ≤ j) × (place a b j ≡ q) = place-walks a b q d (suc i) h (omega arith) in
    (r.0, omega arith, r.2)

-- whatever the moment i, the reading comes back to each place from a on
pub place-returns : (a b q i : ℕ) → a ≤ q → q < b → (j : ℕ) × (i ≤ j) × (place a b j ≡ q)
place-returns a b q i l h = by (dec_le (place a b i) q)
  where
    turned : (j : ℕ) × (i ≤ j) × (suc (place a b j) ≡ b) → (j : ℕ) × (i ≤ j) × (place a b j ≡ q)
    turned e =
        let t : place a b (suc e.0) ≡ a = place-turns a b e.0 (omega arith) in
        let r : (j : ℕ) × (suc e.0 ≤ j) × (place a b j ≡ q) = place-walks a b q (q - a) (suc e.0) h (omega arith) in
        (r.0, omega arith, r.2)

    by : Dec (place a b i ≤ q) → (j : ℕ) × (i ≤ j) × (place a b j ≡ q)
    by (yes m) = place-walks a b q (q - place a b i) i h (omega arith)
    by (no m) =
        let w : place a b i < b = place-below a b i (omega arith) in
        let r : (j : ℕ) × (i ≤ j) × (place a b j ≡ b - 1) = place-walks a b (b - 1) ((b - 1) - place a b i) i (omega arith) (omega arith) in
        turned (r.0, r.1, omega arith)
