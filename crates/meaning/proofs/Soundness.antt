-- An accepted strike list leaves no obeying run, over any system. Document 01, "The two checkers", second paragraph.
-- listed-on-no-fair-path (the law), then accepted-strikes-no-run and listed-not-livable. The argument: along a path that keeps every
-- promise again and again the word of a listed state falls, at once for reason 0, and by the next kept moment for another reason.
-- Assumes nothing.
use mathlib.Core.Path.{◌≡◌, refl, sym, subst, subst₂}
use mathlib.Core.List.{List}
use Prim.Native.Nat.{ℕ, zero, suc, ◌+◌, ◌-◌, ◌%◌, ◌≤◌, ◌<◌}
use native.Mathlib.Decide.{dec_lt}
use native.Mathlib.Omega.{arith}
use lib.ListN.{get_or}
use Rattle.meaning.specs.System.{System, CanBeKept, Livable, In}
use Rattle.meaning.specs.Papers.{StrikesAccepted, Listed, EntryRight}

-- the state at moment i of the path f is listed with word w
abbrev WordAt : List ℕ → List ℕ → (ℕ → ℕ) → ℕ → ℕ → Type 0
WordAt states words f w i = Listed states words (λ v. v ≡ w) (f i)

module _ (S : System) (states words : List ℕ) (A : StrikesAccepted S states words) (f : ℕ → ℕ) (goes : (i : ℕ)
    → S.Move (f i) (f (suc i))) where
  word-right : (w i : ℕ) → WordAt states words f w i → EntryRight S states words (w % 32) w (f i)
  word-right w i e = subst₂ (λ (v s : ℕ). EntryRight S states words (v % 32) v s) e.3 e.2 (A.entries e.0 e.1)

  word-reason : (w i : ℕ) → WordAt states words f w i → w % 32 ≤ S.promises
  word-reason w i e = subst (λ (v : ℕ). v % 32 ≤ S.promises) e.3 (A.reasons e.0 e.1)

  -- at reason k + 1 and with no smaller word on the path, promise k is broken for ever
  stays-broken : (w k : ℕ) → w % 32 ≡ suc k → ((v : ℕ) → v < w → (i : ℕ) → WordAt states words f v i → ⊥)
      → (d i j : ℕ) → i + d ≡ j → WordAt states words f w i → S.Kept k (f j) → ⊥
  stays-broken w k r below zero i j q e kept =
      let t : EntryRight S states words (suc k) w (f i) = rw r at (word-right w i e) in
      let m : j ≡ i = omega arith in
      t.0 (subst (λ (x : ℕ). S.Kept k (f x)) m kept)
  stays-broken w k r below (suc d) i j q e kept =
      let t : EntryRight S states words (suc k) w (f i) = rw r at (word-right w i e) in
      by (λ n. stays-broken w k r below d (suc i) j (omega arith) n kept) (t.1 (f (suc i)) (goes i))
    where
      by : (WordAt states words f w (suc i) → ⊥) → Listed states words (λ v. v ≤ w) (f (suc i)) → ⊥
      by same n = at (dec_lt (get_or words n.0 0) w)
        where
          at : Dec (get_or words n.0 0 < w) → ⊥
          at (yes l) = below (get_or words n.0 0) l (suc i) (n.0, n.1, n.2, refl)
          at (no l) = let h : get_or words n.0 0 ≤ w = n.3 in same (n.0, n.1, n.2, omega arith)

  clear_at : (w : ℕ) → ((k : ℕ) → k < S.promises → (i : ℕ) → (j : ℕ) × (i ≤ j) × S.Kept k (f j))
      → ((v : ℕ) → v < w → (i : ℕ) → WordAt states words f v i → ⊥) → (i : ℕ) → WordAt states words f w i → ⊥
  clear_at w keeps below i e = by (w % 32) refl (word-right w i e)
    where
      by : (r : ℕ) → w % 32 ≡ r → EntryRight S states words r w (f i) → ⊥
      by zero q t = let n = t (f (suc i)) (goes i) in below (get_or words n.0 0) n.3 (suc i) (n.0, n.1, n.2, refl)
      by (suc k) q t =
          let l : w % 32 ≤ S.promises = word-reason w i e in
          let m = keeps k (omega arith) i in
          stays-broken w k q below (m.0 - i) i m.0 (omega arith) e m.2

  clear-below : ((k : ℕ) → k < S.promises → (i : ℕ) → (j : ℕ) × (i ≤ j) × S.Kept k (f j))
      → (n w : ℕ) → w < n → (i : ℕ) → WordAt states words f w i → ⊥
  clear-below keeps zero w l i e = omega arith
  clear-below keeps (suc n) w l i e = clear_at w keeps (λ v h. clear-below keeps n v (omega arith)) i e

-- Whatever moves for ever and keeps every promise again and again never meets a listed state; it need not start in a first state.
pub listed-on-no-fair-path : {S : System} {states words : List ℕ} → StrikesAccepted S states words → (f : ℕ → ℕ)
    → ((i : ℕ) → S.Move (f i) (f (suc i))) → ((k : ℕ) → k < S.promises → (i : ℕ) → (j : ℕ) × (i ≤ j) × S.Kept k (f j))
    → (i : ℕ) → In states (f i) → ⊥
listed-on-no-fair-path {S} {states} {words} A f goes keeps i l =
    clear-below S states words A f goes keeps (suc (get_or words l.0 0)) (get_or words l.0 0) (omega arith) i (l.0, l.1, l.2, refl)

-- Where a strike list is accepted, the sheet cannot be kept.
pub accepted-strikes-no-run : {S : System} {states words : List ℕ} → StrikesAccepted S states words → CanBeKept S → ⊥
accepted-strikes-no-run A r = listed-on-no-fair-path A r.0 r.1.run.goes r.1.keeps 0 (A.firsts (r.0 0) r.1.run.starts)

-- No state of an accepted strike list is livable.
pub listed-not-livable : {S : System} {states words : List ℕ} → StrikesAccepted S states words → (s : ℕ) → In states s → Livable S s → ⊥
listed-not-livable {S} {states} A s l r =
    listed-on-no-fair-path A r.run r.obeys.run.goes r.obeys.keeps r.moment (subst (In states) (sym r.there) l)
