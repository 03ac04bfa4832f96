-- The two ways of walking, along stored moves and by tests of pairs: what each has to be lent. Assumes nothing.
use mathlib.Core.Path.{◌≡◌}
use mathlib.Core.Bool.{Bool, true}
use mathlib.Core.List.{List}
use Prim.Native.Nat.{ℕ, ◌*◌, ◌≤◌}
use native.Mathlib.Omega.{arith}
use lib.ListN.{length, replicate, length-replicate}
use Rattle.ground.proofs.Tests.{no_both}
use Rattle.rules.specs.Book.{book_system}
use Rattle.rules_signs.specs.Signs.{Signed}
use Rattle.moves_both.specs.Web.{StoredRows, none, both}
use Rattle.sample_step.specs.Follow.{Followable}
use Rattle.sample_step.proofs.Lent.{none-followable}
use Rattle.sample_step.specs.Rows.{aims_of, LivableTable}
use Rattle.sample_step.specs.Step.{Onward}
use Rattle.sample_walk.specs.Walk.{Steerable}
use Rattle.sample_walk.proofs.Trails.{few-rows}

-- Arrays of zeros for n places are room for the distances and the queue of r places. Their lengths come by a law; computed, they would cost
-- by the arrays' size.
pub lent_rows : {book table : List ℕ} {r : ℕ} → LivableTable book table r → (m n : ℕ) → r ≤ n → m ≡ 16 * n
    → (aims_of (book_system book) * r ≤ length (replicate {A = ℕ} m 0)) × (r ≤ length (replicate {A = ℕ} n 0))
lent_rows {book = book} {r = r} t m n few rows = (
  omega (arith, length-replicate {A = ℕ} m 0, few-rows t n few),
  omega (arith, length-replicate {A = ℕ} n 0),
)

-- With such arrays, and with signs, the run may be walked by tests.
pub tests-ready : {book table words signs : List ℕ} {r : ℕ} (m n : ℕ) → Steerable book table words r → Signed book table r signs → r ≤ n
    → m ≡ 16 * n
    → Steerable book table words r × (aims_of (book_system book) * r ≤ length (replicate {A = ℕ} m 0))
    × (r ≤ length (replicate {A = ℕ} n 0)) × Signed book table r signs
tests-ready m n A signed few rows = let room = lent_rows A.states m n few rows in (A, room.0, room.1, signed)

-- the next moments and the distances can be found
abbrev pub Ways : (book table : List ℕ) (r : ℕ) (forth back queue signs : List ℕ) → Type 0
Ways book table r forth back queue signs = Onward book table r forth signs × Followable book table r back queue signs

-- Stored moves need no signs.
pub stored-ways : {book table : List ℕ} {r : ℕ} {forth back : List ℕ} {stored : Bool} (queue signs : List ℕ)
    → StoredRows book table r forth back stored → stored ≡ true
    → r ≤ length queue → Ways book table r forth back queue signs
stored-ways queue signs (none e) some room = absurd (no_both some e)
stored-ways queue signs (both e f b) some room = (
  record { stored = λ _. f; tested = λ z. absurd (omega (arith, f.long)) },
  record { stored = λ _. b; tested = λ z. absurd (omega (arith, b.long)); in_queue = room },
)

-- Where none are stored, signs are enough.
pub tested-ways : {book table : List ℕ} {r : ℕ} {signs : List ℕ} (moves queue : List ℕ) → length moves ≡ 0 → Signed book table r signs
    → r ≤ length queue
    → Ways book table r moves moves queue signs
tested-ways moves queue e signed room =
    (record { stored = λ some. absurd (some e); tested = λ _. signed }, none-followable _ _ _ moves queue _ e signed room)
