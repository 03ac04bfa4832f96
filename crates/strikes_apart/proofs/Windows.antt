-- The passes that look for a state that stands twice: what one has seen after i places, how it begins, goes on and ends. A number of the
-- window is marked when it is met; one that is not marked yet stands at no earlier place. Assumes nothing.
use mathlib.Core.Path.{◌≡◌, refl, sym, ◌∙◌, ap}
use mathlib.Core.Bool.{Bool, true, false}
use mathlib.Core.List.{List}
use Prim.Native.Nat.{ℕ, ◌+◌, ◌-◌, ◌/◌, ◌%◌, ◌^◌, ◌≤◌, ◌<◌, min}
use native.Mathlib.Decide.{dec_lt}
use native.Mathlib.Omega.{arith}
use borrow.Author.Count.{below_more}
use borrow.Author.Tests.{eqb-false}
use lib.Bits.{bit_or}
use lib.Dec.{eqb}
use lib.ListN.{length, get_or, set, length-set}
use Rattle.ground.specs.Bits.{word_marks}
use Rattle.ground.specs.States.{all_states}
use Rattle.strikes_apart.specs.Apart.{apart, Different}
use Rattle.strikes_apart.specs.Marks.{mark_at}
use Rattle.strikes_apart.specs.Windows.{window_size, AllSmall, Settled}
use Rattle.strikes_apart.proofs.Apart.{apart-false}
use Rattle.strikes_apart.proofs.Marking.{mark_set, mark-stays}

-- ---- one pass

-- place j is looked at: a number of the window stands at no earlier place, and is marked; one above it is at least `next`
pub record Placed (l : List ℕ) (low : ℕ) (marks : List ℕ) (next j : ℕ) : Type 0 where
  pub once : (k : ℕ) → get_or l j 0 ≡ low + k → k < window_size → apart l j (get_or l j 0) ≡ true
  pub marked : (k : ℕ) → get_or l j 0 ≡ low + k → k < window_size → mark_at marks k ≡ 1
  pub later : low + window_size ≤ get_or l j 0 → next ≤ get_or l j 0

-- the first i places are
pub record Seen (l : List ℕ) (low : ℕ) (marks : List ℕ) (next i : ℕ) : Type 0 where
  pub small : AllSmall l
  pub long : length marks ≡ 256
  pub above : low < next
  pub placed : (j : ℕ) → j < i → Placed l low marks next j

pub seen_none : {l : List ℕ} {low : ℕ} (marks : List ℕ) → length marks ≡ 256 → (low < all_states) × AllSmall l
    → Seen l low marks all_states 0
seen_none marks long pre = record { small = pre.1; long = long; above = pre.0; placed = λ j h. absurd (omega arith) }

module _ {l : List ℕ} {low : ℕ} {marks : List ℕ} {next i : ℕ} (m : Seen l low marks next i) {s : ℕ} (s_is : s ≡ get_or l i 0) where
  -- A place more: what was placed stays placed, and this one is.
  seen_more : (marks' : List ℕ) (next' : ℕ) → length marks' ≡ length marks → low < next'
      → ((j : ℕ) → Placed l low marks next j → Placed l low marks' next' j) → Placed l low marks' next' i → Seen l low marks' next'
      (i + 1)
  seen_more marks' next' same above keeps here = record {
    small = m.small;
    long = same ∙ m.long;
    above = above;
    placed = below_more (Placed l low marks' next') i (λ j h. keeps j (m.placed j h)) here;
  }

  -- A number below the window.
  pub seen_below : s < low → Seen l low marks next (i + 1)
  seen_below below =
      seen_more marks next refl m.above (λ j p. p)
      (record { once = λ k e h. absurd (omega arith); marked = λ k e h. absurd (omega arith); later = λ h. absurd (omega arith) })

  -- A number above the window.
  pub seen-later : low + window_size ≤ s → {r : ℕ} → r ≡ min next s → Seen l low marks r (i + 1)
  seen-later above {r} least =
      seen_more marks r refl (omega (arith, m.above))
      (λ j p. record { once = p.once; marked = p.marked; later = λ h. omega (arith, p.later h) })
      (record { once = λ k e h. absurd (omega arith); marked = λ k e h. absurd (omega arith); later = λ h. omega arith })

  -- A number of the window that is not marked.
  pub seen-marked : (k : ℕ) → s ≡ low + k → k < window_size → {met : Bool} → met ≡ eqb (mark_at marks k) 1 → met ≡ false → {w : ℕ}
      → w ≡ bit_or (get_or marks (k / word_marks) 0) (2 ^ (k % word_marks)) → Seen l low (set marks (k / word_marks) w) next (i + 1)
  seen-marked k at inside met-is unmet {w} w-is =
      seen_more (set marks (k / word_marks) w) next (length-set marks (k / word_marks) w) m.above
      (λ j p. record { once = p.once; marked = λ n e h. mark-stays marks k w room w-is n (p.marked n e h); later = p.later })
      (record {
        once = λ n e h. first (apart l i (get_or l i 0)) refl;
        marked = λ n e h.
            let same : k ≡ n = omega arith in
            ap (mark_at (set marks (k / word_marks) w)) (sym same) ∙ mark_set marks k w room w-is;
        later = λ h. absurd (omega arith);
      })
    where
      room : k / word_marks < length marks
      room = omega (arith, m.long)

      first : (a : Bool) → apart l i (get_or l i 0) ≡ a → a ≡ true
      first true e = refl
      first false e =
          let a = apart-false l i (get_or l i 0) e in
          absurd (eqb-false (mark_at marks k) 1 (sym met-is ∙ unmet) ((m.placed a.0 a.1).marked k (a.2 ∙ sym s_is ∙ at) inside))

-- All places are looked at: numbers below the next one are settled, and all are where there is no next one.
module _ {l : List ℕ} {low : ℕ} {marks : List ℕ} {next i : ℕ} (m : Seen l low marks next i) (done : length l ≤ i)
    (before : Settled l low) where
  pub seen-settled : Settled l next
  seen-settled j h below = by (dec_lt (get_or l j 0) low) (dec_lt (get_or l j 0) (low + window_size)) (m.placed j (omega arith))
    where
      by : Dec (get_or l j 0 < low) → Dec (get_or l j 0 < low + window_size) → Placed l low marks next j → apart l j (get_or l j 0) ≡ true
      by (yes p) d at = before j h p
      by (no p) (yes q) at = at.once (get_or l j 0 - low) (omega arith) (omega arith)
      by (no p) (no q) at = absurd (omega (arith, at.later (omega arith)))

  pub seen-different : all_states ≤ next → Different l
  seen-different none_left j h = seen-settled j h (omega (arith, m.small j h))
