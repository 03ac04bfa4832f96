-- The livable states by their places in the table: livability can be decided, so the sample run exists, and it has only so many pairs of
-- state and aim. Assumes nothing.
use mathlib.Core.Path.{◌≡◌, sym, ap, subst, ◌∙◌}
use mathlib.Core.List.{List}
use Prim.Native.Nat.{ℕ, ◌*◌, ◌≤◌, ◌<◌}
use native.Mathlib.Decide.{ℕ_discrete}
use native.Mathlib.Omega.{arith}
use lib.ListN.{get_or}
use Rattle.meaning.specs.System.{System, Livable, Finite}
use Rattle.meaning.specs.Sample.{Sample}
use Rattle.meaning.proofs.Search.{any_below}
use Rattle.meaning.proofs.Pigeonhole.{pairs-fit}
use Rattle.meaning.proofs.SampleRun.{obeying-livable, sample-livable, aim-below}
use Rattle.meaning.proofs.Exists.{sample-exists}
use Rattle.sample_step.specs.Rows.{Livables, aims_of}

module _ {S : System} {table : List ℕ} {r : ℕ} (L : Livables S table r) where
  -- It can be said whether a state is livable.
  livable? : (s : ℕ) → Dec (Livable S s)
  livable? s = by (any_below {P = λ x. get_or table x 0 ≡ s} (λ x. ℕ_discrete (get_or table x 0) s) r)
    where
      by : Dec ((x : ℕ) × (x < r) × (get_or table x 0 ≡ s)) → Dec (Livable S s)
      by (yes w) = yes (subst (Livable S) w.2 (L.sound w.0 w.1))
      by (no none) = no (λ l. none (L.whole s l))

  -- With a livable state at all, there is a sample run.
  pub the-sample : Finite S → 1 ≤ r → (f : ℕ → ℕ) × (aim : ℕ → ℕ) × Sample S f aim
  the-sample fin h = let l = L.sound 0 (omega arith) in sample-exists fin livable? (l.run, l.obeys)

  -- Some place holds a first state.
  pub some_first : 1 ≤ r → (x : ℕ) × (x < r) × S.First (get_or table x 0)
  some_first h =
      let l = L.sound 0 (omega arith) in
      let w = L.whole (l.run 0) (obeying-livable l.obeys 0) in
      (w.0, w.1, subst S.First (sym w.2) l.obeys.run.starts)

  -- So many moments with different pairs of state and aim there are at most.
  pub pairs-within : {f aim : ℕ → ℕ} → Sample S f aim → (n : ℕ) → ((i j : ℕ) → i < j → j < n → f i ≡ f j → aim i ≡ aim j → ⊥)
      → n ≤ r * aims_of S
  pairs-within {f} {aim} x n apart = pairs-fit r (aims_of S) n place aim (λ i h. (L.whole (f i) (sample-livable x i)).1)
      (λ i h. aim-below x i)
      (λ i j p q e. apart i j p q (sym (stands i) ∙ ap (λ (y : ℕ). get_or table y 0) e ∙ stands j))
    where
      place : ℕ → ℕ
      place i = (L.whole (f i) (sample-livable x i)).0

      stands : (i : ℕ) → get_or table (place i) 0 ≡ f i
      stands i = (L.whole (f i) (sample-livable x i)).2
