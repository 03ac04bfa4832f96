-- What the tests say, and what a search along the places has found. Assumes nothing.
use mathlib.Core.Path.{◌≡◌, refl}
use Rattle.std.proofs.Common.{Option, Some, None}
use mathlib.Core.List.{List}
use Prim.Native.Nat.{ℕ, max, ◌+◌, ◌≤◌, ◌<◌}
use native.Mathlib.Decide.{dec_lt, ℕ_discrete}
use native.Mathlib.Omega.{arith}
use lib.ListN.{get_or}
use Rattle.rules.specs.Book.{book_system}
use Rattle.ends_tests.specs.Phases.{Counts, Sought, none, found}

-- no place from lo on and below j counts and is moved to from s
pub record Passed (book table words : List ℕ) (v s lo j : ℕ) : Type 0 where
  pub nothing : (m : ℕ) → lo ≤ m → m < j → Counts v (get_or words m 0) → (book_system book).Move s (get_or table m 0) → ⊥

module _ (book table words : List ℕ) (v s lo : ℕ) where
  abbrev GoesTo : ℕ → Type 0
  GoesTo j = Counts v (get_or words j 0) × (book_system book).Move s (get_or table j 0)

  -- Before the first place nothing is passed.
  pub passed_none : Passed book table words v s lo lo
  passed_none = record { nothing = λ m h l. absurd (omega arith) }

  -- A place that will not do is passed.
  pub passed-more : (j : ℕ) → Passed book table words v s lo j → (GoesTo j → ⊥) → Passed book table words v s lo (j + 1)
  passed-more j p no-go = record { nothing = λ m h l. by m h l (ℕ_discrete m j) }
    where
      by : (m : ℕ) → lo ≤ m → m < j + 1 → Dec (m ≡ j) → Counts v (get_or words m 0) → (book_system book).Move s (get_or table m 0) → ⊥
      by m h l (no q) = p.nothing m h (omega arith)
      by m h l (yes q) = λ k t. no-go (rw (← q) k, rw (← q) t)

  -- Nothing is passed twice.
  pub passed-max : (j k : ℕ) → k ≡ max lo j → Passed book table words v s lo j → Passed book table words v s lo k
  passed-max j k e p = record { nothing = λ m h l. p.nothing m h (omega (arith, e, h, l)) }

  module _ (r : ℕ) where
    -- A place that will do is found.
    pub sought-found : (j : ℕ) → Passed book table words v s lo j → j < r → GoesTo j → Sought book table words v r s lo (Some j)
    sought-found j p h g = found j refl h g.0 g.1 p.nothing

    -- Past the last place there is none.
    pub sought-none : (j : ℕ) → Passed book table words v s lo j → r ≤ j → Sought book table words v r s lo None
    sought-none j p h = none refl (λ m a b. p.nothing m a (omega arith))

    -- What is found from a later place on is found from lo on, if nothing before that place will do.
    pub sought-from : (k : ℕ) (q : Option ℕ) → Passed book table words v s lo k → Sought book table words v r s k q
        → Sought book table words v r s lo q
    sought-from k q p (none e f) = none e (λ m a b c t. by m a b c t (dec_lt m k))
      where
        by : (m : ℕ) → lo ≤ m → m < r → Counts v (get_or words m 0) → (book_system book).Move s (get_or table m 0) → Dec (m < k) → ⊥
        by m a b c t (yes l) = p.nothing m a l c t
        by m a b c t (no l) = f m (omega arith) b c t
    sought-from k q p (found j e h g w f) = found j e h g w (λ m a b c t. by m a b c t (dec_lt m k))
      where
        by : (m : ℕ) → lo ≤ m → m < j → Counts v (get_or words m 0) → (book_system book).Move s (get_or table m 0) → Dec (m < k) → ⊥
        by m a b c t (yes l) = p.nothing m a l c t
        by m a b c t (no l) = f m (omega arith) b c t

    -- What is found among the first k is found among all.
    pub sought-front : (k i : ℕ) → k ≤ r → Sought book table words v k s lo (Some i) → Sought book table words v r s lo (Some i)
    sought-front k i h (none e f) = cc
    sought-front k i h (found j e l g w f) = found j e (omega arith) g w f

  -- If nothing is found among the first k, nothing among them will do.
  pub sought-passed : (k : ℕ) → Sought book table words v k s lo None → Passed book table words v s lo k
  sought-passed k (none e f) = record { nothing = f }
  sought-passed k (found j e l g w f) = cc
