-- With the livable states listed: how many they are, what steering asks, and that the sheet can be kept. Assumes nothing.
use mathlib.Core.List.{List}
use Prim.Native.Nat.{ℕ, ◌≤◌}
use lib.ListN.{length}
use Rattle.meaning.specs.System.{CanBeKept}
use Rattle.meaning.specs.Promises.{Lent, most_states}
use Rattle.meaning.proofs.Judging.{livable-kept}
use Rattle.rules.specs.Book.{book_system}
use Rattle.table_order.proofs.Fronts.{front-sound}
use Rattle.sample_walk.specs.Walk.{Steerable}
use Rattle.sample_walk.proofs.Papers.{steerable-of}
use Rattle.judge_answer.proofs.Rooms.{Places, capacity-places}
use Rattle.judge_kept.specs.Kept.{Kept}

kept-places : {book : List ℕ} {lent : Lent} {k : ℕ} → Kept book lent k → Places lent k
kept-places {lent = lent} {k} h = capacity-places lent k h.within

-- There are at most 16,384.
pub kept_small : {book : List ℕ} {lent : Lent} {k : ℕ} → Kept book lent k → k ≤ most_states
kept_small h = (kept-places h).small

-- They stand in the table.
pub kept-in-table : {book : List ℕ} {lent : Lent} {k : ℕ} → Kept book lent k → k ≤ length lent.table
kept-in-table h = (kept-places h).in_table

-- What steering asks.
pub kept-steerable : {book : List ℕ} {lent : Lent} {k : ℕ} → Kept book lent k → Steerable book lent.table lent.words k
kept-steerable h = let p = kept-places h in steerable-of h.shaped h.some p.small p.in_table p.in_words h.lists

-- A livable state's run keeps the sheet.
pub kept-can : {book : List ℕ} {lent : Lent} {k : ℕ} → Kept book lent k → CanBeKept (book_system book)
kept-can {lent = lent} {k} h = livable-kept (front-sound lent.table k (kept-in-table h) h.lists 0 h.some)
