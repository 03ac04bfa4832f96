-- Looking for a kept promise from a on, and the whole run, over any system and any list of states. Assumes nothing.
use mathlib.Core.Path.{◌≡◌, subst}
use mathlib.Core.Bool.{Bool}
use mathlib.Core.List.{List}
use Prim.Native.Nat.{ℕ, suc, ◌+◌, ◌-◌, ◌≤◌, ◌<◌}
use native.Mathlib.Decide.{dec_lt}
use native.Mathlib.Omega.{arith}
use borrow.Author.Count.{below_more}
use lib.ListN.{length, get_or}
use Rattle.meaning.specs.System.{System}
use Rattle.meaning.specs.Papers.{RunAccepted}
use Rattle.ground.specs.Says.{Says}
use Rattle.runcheck.specs.Run.{MovesOn, AllKept}

-- no state from a up to place i keeps promise k
abbrev pub Missed : System → List ℕ → (a k i : ℕ) → Type 0
Missed S l a k i = (j : ℕ) → a ≤ j → j < i → S.Kept k (get_or l j 0) → ⊥

pub missed_more : (S : System) (l : List ℕ) (a k i : ℕ) → Missed S l a k i → (S.Kept k (get_or l i 0) → ⊥) → Missed S l a k (i + 1)
missed_more S l a k i missed here j from below =
    below_more (λ j. a ≤ j → S.Kept k (get_or l j 0) → ⊥) i (λ j q p. missed j p q) (λ _. here) j below from

-- A state and the following one, by their places.
abbrev pub Moves : System → List ℕ → ℕ → ℕ → Type 0
Moves S l i j = S.Move (get_or l i 0) (get_or l j 0)

-- A relation between each place and the following one, tested from place 1 up.
module _ (P : ℕ → ℕ → Type 0) (i : ℕ) where
  -- One more place.
  pub steps-more : 1 ≤ i → ((j : ℕ) → suc j < i → P j (suc j)) → P (i - 1) i → (j : ℕ) → suc j < i + 1 → P j (suc j)
  steps-more from before here j h = by (dec_lt (suc j) i)
    where
      by : Dec (suc j < i) → P j (suc j)
      by (yes q) = before j q
      by (no q) =
          let e : i - 1 ≡ j = omega arith in
          let f : i ≡ suc j = omega arith in
          subst (λ (k : ℕ). P j k) f (subst (λ (k : ℕ). P k i) e here)

  -- What holds at every place holds at this one.
  pub step-at : 1 ≤ i → {total : ℕ} → i < total → ((j : ℕ) → suc j < total → P j (suc j)) → P (i - 1) i
  step-at from {total} below all =
      let e : suc (i - 1) ≡ i = omega arith in
      let h : suc (i - 1) < total = omega arith in
      subst (λ (k : ℕ). P (i - 1) k) e (all (i - 1) h)

-- Where all but the promises is in order, the promises decide.
pub promises-decide : {S : System} {l : List ℕ} {a end : ℕ} {r : Bool} → a < length l → suc end ≡ length l → S.First (get_or l 0 0)
    → MovesOn S l
    → S.Move (get_or l end 0) (get_or l a 0) → Says (AllKept S l a) r → Says (RunAccepted S l a) r
promises-decide {S} {l} {a} {end} back at-end first moves closes kept = record {
  yes = λ t. record {
    back = back;
    first = first;
    moves = moves;
    closes = λ i e. subst (λ (x : ℕ). S.Move (get_or l x 0) (get_or l a 0)) (last-is i e) closes;
    keeps = kept.yes t;
  };
  never = λ f h. kept.never f h.keeps;
}
  where
    last-is : (i : ℕ) → suc i ≡ length l → end ≡ i
    last-is i e = omega arith
