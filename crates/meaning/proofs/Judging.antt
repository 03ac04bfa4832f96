-- What the theory gives for any finite system, put together as the judge's promise needs it: which states are livable and whether the
-- system can be kept can be decided, R can be counted, the livable states can be listed, and where nothing can be kept every state is
-- struck in time. Assumes nothing.
use mathlib.Core.Path.{refl}
use mathlib.Core.Logic.Dec
use mathlib.Core.List.{List, [], ◌∷◌}
use Prim.Native.Nat.{ℕ}
use native.Mathlib.Omega.{arith}
use lib.ListN.{length}
use Rattle.meaning.specs.System.{System, Finite, Livable, Reachable, CanBeKept, Lists, Number}
use Rattle.meaning.specs.Strike.{Left}
use Rattle.meaning.proofs.Lists.{lists-exist, number-exists}
use Rattle.meaning.proofs.Rounds.{quiet-left-is-livable}
use Rattle.meaning.proofs.Decide.{reachable-below, livable-reachable, reachable?, left?, quiet-exists}

-- Whether a state is livable can be decided: once a round strikes nothing, what is left is what is livable.
pub livable? : {S : System} → Finite S → (s : ℕ) → Dec (Livable S s)
livable? {S} F s =
    let (n, quiet) = quiet-exists F in
    Dec.of_iff (quiet-left-is-livable n quiet s) (left? F n s)

-- The livable states can be listed.
pub livable-list : {S : System} → Finite S → (l : List ℕ) × Lists (Livable S) l
livable-list {S} F = lists-exist (livable? F) F.bound (λ s v. reachable-below F (livable-reachable v))

-- A list of the states of P counts them.
pub lists-number : {P : ℕ → Type 0} {l : List ℕ} → Lists P l → Number P (length l)
lists-number {l = l} lists = record { list = l; lists = lists; counted = refl }

-- R is some number: the reachable states can be counted.
pub number-of-reachable : {S : System} → Finite S → (r : ℕ) × Number (Reachable S) r
number-of-reachable F = number-exists (reachable? F) F.bound (λ s. reachable-below F)

-- A livable state's run keeps the system.
pub livable-kept : {S : System} {s : ℕ} → Livable S s → CanBeKept S
livable-kept v = (v.run, v.obeys)

-- A system that can be kept has a livable state: the first of an obeying run.
pub kept-livable : {S : System} → CanBeKept S → (s : ℕ) × Livable S s
kept-livable (f, obeys) = (f 0, record { run = f; obeys = obeys; moment = 0; there = refl })

-- Whether the system can be kept can be decided: it can exactly where some state is livable.
pub can-be-kept? : {S : System} → Finite S → Dec (CanBeKept S)
can-be-kept? {S} F = by (livable-list F).0 (livable-list F).1
  where
    by : (l : List ℕ) → Lists (Livable S) l → Dec (CanBeKept S)
    by [] lists = no (λ kept. omega (arith, (lists.whole _ (kept-livable kept).1).1))
    by (s ∷ l) lists = yes (livable-kept (lists.sound 0 (omega arith)))

-- Where nothing can be kept, some phase leaves no state.
pub nothing_left : {S : System} → Finite S → (CanBeKept S → ⊥) → (n : ℕ) × ((s : ℕ) → Left S n s → ⊥)
nothing_left {S} F never =
    let (n, quiet) = quiet-exists F in
    (n, λ s left. never (livable-kept ((quiet-left-is-livable n quiet s).0 left)))
