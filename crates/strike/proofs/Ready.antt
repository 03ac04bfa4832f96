-- What `strike` asks gives what each way asks: room for the rows and the signs, and moves that can be stored. Assumes nothing.
use mathlib.Core.Path.{◌≡◌}
use mathlib.Core.List.{List}
use Prim.Native.Nat.{ℕ, ◌*◌, ◌≤◌, ◌<◌}
use native.Mathlib.Omega.{arith}
use lib.ListN.{length, get_or, replicate, length-replicate, get_or-replicate}
use Rattle.ground.specs.Wiping.{Zeros}
use Rattle.meaning.specs.Promises.{most_states}
use Rattle.meaning.proofs.Lists.{rising-apart}
use Rattle.rules.specs.Book.{promises_of}
use Rattle.moves.specs.Moves.{Storable}
use Rattle.moves.proofs.Rows.{storable}
use Rattle.rules.specs.Table.{LawfulTable}
use Rattle.rules_signs.specs.Signs.{head_size, Signed}
use Rattle.rules_signs.proofs.Rowing.{lent-signs}
use Rattle.rounds.specs.Phases.{Strikable}
use Rattle.rounds.specs.Rows.{RoomForRows}
use Rattle.rounds.proofs.Rows.{row_inside}
use Rattle.rounds.proofs.Running.{strikable-lawful, strikable-rises}
use Rattle.rounds_tests.specs.Tests.{StrikableByTests}

-- Arrays of zeros for n places are room for r: 17 rows of them are enough. Their lengths come by a law; computed, they would cost by the
-- arrays' size.
pub rows-room : {book table words : List ℕ} {r : ℕ} (m n : ℕ) → Strikable book table words r → r ≤ n → n ≤ most_states → m ≡ 17 * n
    → RoomForRows book r (replicate m 0) (replicate n 0) (replicate n 0)
rows-room {book = book} {r = r} m n A few small whole =
    let rows = length-replicate {A = ℕ} m 0 in
    let places = length-replicate {A = ℕ} n 0 in
    record {
      room = let a = row_inside (promises_of book) 16 r (17 * r) A.shaped.few-promises (omega arith) in omega (arith, a, few, rows, whole);
      in-log = omega (arith, few, places);
      log_few = omega (arith, small, places);
      in_line = omega (arith, few, places);
      line_few = omega (arith, small, places);
    }

-- With such arrays, and with signs, the rounds by tests may be run.
pub tests-ready : {book table words : List ℕ} {r : ℕ} {signs : List ℕ} (m n : ℕ) → Strikable book table words r → Zeros words r
    → Signed book table r signs → r ≤ n → n ≤ most_states → m ≡ 17 * n
    → StrikableByTests book table words r signs (replicate m 0) (replicate n 0) (replicate n 0) × Zeros words r
tests-ready m n A zeros signed few small whole = (
  record {
    asked = A;
    signed = signed;
    roomed = rows-room m n A few small whole;
    pointers = λ i h. get_or-replicate m i 0 0 (omega (arith, h, few, whole));
  },
  zeros,
)

-- An array of n zeros is room for the signs.
pub signs-ready : {book table words : List ℕ} {r : ℕ} (n : ℕ) → Strikable book table words r → head_size ≤ n
    → LawfulTable book table r × (head_size ≤ length (replicate {A = ℕ} n 0))
signs-ready n A enough = (strikable-lawful _ _ _ _ A, lent-signs n enough)

-- The moves between the states can be stored.
pub strikable-storable : {book table words : List ℕ} {r : ℕ} → Strikable book table words r → Storable book table r
strikable-storable {table = table} {r = r} A =
    storable (strikable-lawful _ _ _ _ A)
    (λ i j h k. rising-apart ◌<◌ (λ a b c p q. omega arith) (λ a p. omega arith) {f = λ m. get_or table m 0} {n = r}
    (strikable-rises _ _ _ _ A) i j h k)
