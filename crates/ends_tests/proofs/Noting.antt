-- What falls is written into the log, place by place. Assumes nothing.
use mathlib.Core.Path.{◌≡◌, refl, sym, subst, ◌∙◌}
use mathlib.Core.List.{List}
use Prim.Native.Nat.{ℕ, ◌+◌, ◌≤◌, ◌<◌}
use native.Mathlib.Decide.{ℕ_discrete}
use native.Mathlib.Omega.{arith}
use lib.ListN.{length, get_or, set, length-set}
use lib.Seq.{get_or-set_same, get_or-set_other}
use Rattle.ground.specs.Listed.{Between}
use Rattle.distances.specs.Far.{Unstruck}
use Rattle.watch.specs.Witness.{Log}

module _ (r : ℕ) (old before : List ℕ) (m : ℕ) where
  -- the log is as it was below m; what fell stands in it from m on and before `end`
  pub record Noting (end : ℕ) (words log : List ℕ) : Type 0 where
    pub long : length log ≡ length before
    pub kept : (t : ℕ) → t < m → get_or log t 0 ≡ get_or before t 0
    pub grows : m ≤ end
    pub places : (t : ℕ) → t < end → get_or log t 0 < r
    pub noted : (i : ℕ) → i < r → Unstruck old i → (Unstruck words i → ⊥) → Between log m end i

  -- Before the first place nothing fell.
  pub noting-none : Log old r before m → Noting m old before
  noting-none G = record {
    long = refl;
    kept = λ t h. refl;
    grows = omega arith;
    places = G.places;
    noted = λ i h z n. absurd (n z);
  }

  -- Place i falls, and is written behind the last.
  pub noting-more : (end i v : ℕ) (words log : List ℕ) → Noting end words log → i < r → end < length log
      → Noting (end + 1) (set words i v) (set log end i)
  noting-more end i v words log N inside room = record {
    long = length-set log end i ∙ N.long;
    kept = λ t h. let a = N.grows in get_or-set_other log end t i 0 (λ e. omega arith) ∙ N.kept t h;
    grows = let a = N.grows in omega arith;
    places = λ t h. place_at t h (ℕ_discrete t end);
    noted = λ j h z n. noted-at j h z n (ℕ_discrete j i);
  }
    where
      place_at : (t : ℕ) → t < end + 1 → Dec (t ≡ end) → get_or (set log end i) t 0 < r
      place_at t h (yes e) = subst (λ (x : ℕ). get_or (set log end i) x 0 < r) (sym e)
          (subst (λ (x : ℕ). x < r) (sym (get_or-set_same log end i 0 room)) inside)
      place_at t h (no e) = subst (λ (x : ℕ). x < r) (sym (get_or-set_other log end t i 0 e)) (N.places t (omega arith))

      longer : (j : ℕ) → Between log m end j → Between (set log end i) m (end + 1) j
      longer j (t, a, b, e) = (t, a, omega arith, get_or-set_other log end t i 0 (λ q. omega arith) ∙ e)

      noted-at : (j : ℕ) → j < r → Unstruck old j → (Unstruck (set words i v) j → ⊥) → Dec (j ≡ i) → Between (set log end i) m (end + 1) j
      noted-at j h z n (yes e) = (end, N.grows, omega arith, get_or-set_same log end i 0 room ∙ sym e)
      noted-at j h z n (no e) = longer j (N.noted j h z (λ y. n (get_or-set_other words i j v 0 e ∙ y)))
