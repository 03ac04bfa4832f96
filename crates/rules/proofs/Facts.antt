-- A book's tests as the facts of its system: a lawful state, a first state, a kept promise and a move are tests passed, and what is
-- reached is lawful. The crates above take these facts from here and need not look into the system for them. Assumes nothing.
use mathlib.Core.Path.{◌≡◌, refl}
use mathlib.Core.Bool.{true, ◌&&◌}
use mathlib.Core.List.{List}
use Prim.Native.Nat.{ℕ, zero, suc, ◌^◌, ◌<◌}
use borrow.Author.Tests.{lt-ltb, ltb-true}
use lib.Dec.{ltb}
use Rattle.meaning.specs.System.{Reachable}
use Rattle.ground.proofs.Tests.{passed, passes, and_left, and_right, both-and}
use Rattle.rules.specs.Book.{letters_of, promises_of, limits_ok, firsts_ok, steps_ok, book_lawful, book_first, book_moves, book_kept}
use Rattle.rules.specs.Book.{book_system}

-- ---- what the system says, and what the book tests

-- The system has the book's promises.
pub promises-are : (book : List ℕ) → (book_system book).promises ≡ promises_of book
unfolding book_system
promises-are book = refl

-- A lawful state passes the book's test.
pub lawful-true : (book : List ℕ) (s : ℕ) → (book_system book).Lawful s → book_lawful book s ≡ true
unfolding book_system
lawful-true book s l = passed (book_lawful book s) l

-- What the book's test takes for a first state is one.
pub first-is : (book : List ℕ) (s : ℕ) → book_first book s ≡ true → (book_system book).First s
unfolding book_system
first-is book s e = passes (book_first book s) e

-- A first state passes the book's test.
pub first-true : (book : List ℕ) (s : ℕ) → (book_system book).First s → book_first book s ≡ true
unfolding book_system
first-true book s f = passed (book_first book s) f

-- What the book's test takes for kept is kept.
pub kept-is : (book : List ℕ) (k s : ℕ) → book_kept book k s ≡ true → (book_system book).Kept k s
unfolding book_system
kept-is book k s e = passes (book_kept book k s) e

-- A kept promise passes the book's test.
pub kept-true : (book : List ℕ) (k s : ℕ) → (book_system book).Kept k s → book_kept book k s ≡ true
unfolding book_system
kept-true book k s g = passed (book_kept book k s) g

-- ---- the parts of a lawful state, of a first state and of a move

-- A lawful state is a number below 2 to the power of the letters.
pub lawful-below : (book : List ℕ) (s : ℕ) → book_lawful book s ≡ true → s < 2 ^ letters_of book
unfolding book_lawful
lawful-below book s l = ltb-true s (2 ^ letters_of book) (and_left (ltb s (2 ^ letters_of book)) (limits_ok book s) l)

-- Every limit holds in a lawful state.
pub lawful-limits : (book : List ℕ) (s : ℕ) → book_lawful book s ≡ true → limits_ok book s ≡ true
unfolding book_lawful
lawful-limits book s l = and_right (ltb s (2 ^ letters_of book)) (limits_ok book s) l

-- A number below that in which every limit holds is a lawful state.
pub limits-lawful : (book : List ℕ) (s : ℕ) → s < 2 ^ letters_of book → limits_ok book s ≡ true → book_lawful book s ≡ true
unfolding book_lawful
limits-lawful book s h e = both-and (ltb s (2 ^ letters_of book)) (limits_ok book s) (lt-ltb s (2 ^ letters_of book) h) e

-- A first state is lawful.
pub first-lawful : (book : List ℕ) (s : ℕ) → (book_system book).First s → book_lawful book s ≡ true
unfolding book_first
first-lawful book s f = and_left (book_lawful book s) (firsts_ok book s) (first-true book s f)

-- Every first rule is true in a first state.
pub first-rules : (book : List ℕ) (s : ℕ) → (book_system book).First s → firsts_ok book s ≡ true
unfolding book_first
first-rules book s f = and_right (book_lawful book s) (firsts_ok book s) (first-true book s f)

-- A lawful state in which every first rule is true is a first state.
pub rules-first : (book : List ℕ) (s : ℕ) → book_lawful book s ≡ true → firsts_ok book s ≡ true → (book_system book).First s
unfolding book_first
rules-first book s l e = first-is book s (both-and (book_lawful book s) (firsts_ok book s) l e)

-- A move goes between lawful states.
move-lawful : (book : List ℕ) (s t : ℕ) → (book_system book).Move s t → book_lawful book s && book_lawful book t ≡ true
unfolding book_system book_moves
move-lawful book s t m = and_left (book_lawful book s && book_lawful book t) (steps_ok book s t) (passed (book_moves book s t) m)

-- A move goes from a lawful state.
pub move-from : (book : List ℕ) (s t : ℕ) → (book_system book).Move s t → book_lawful book s ≡ true
move-from book s t m = and_left (book_lawful book s) (book_lawful book t) (move-lawful book s t m)

-- A move goes to a lawful state.
pub move-to : (book : List ℕ) (s t : ℕ) → (book_system book).Move s t → book_lawful book t ≡ true
move-to book s t m = and_right (book_lawful book s) (book_lawful book t) (move-lawful book s t m)

-- Every step rule allows a move.
pub move-steps : (book : List ℕ) (s t : ℕ) → (book_system book).Move s t → steps_ok book s t ≡ true
unfolding book_system book_moves
move-steps book s t m = and_right (book_lawful book s && book_lawful book t) (steps_ok book s t) (passed (book_moves book s t) m)

-- Between lawful states, what every step rule allows is a move.
pub steps-move : (book : List ℕ) (s t : ℕ) → book_lawful book s ≡ true → book_lawful book t ≡ true → steps_ok book s t ≡ true
    → (book_system book).Move s t
unfolding book_system book_moves
steps-move book s t a b e = passes (book_moves book s t)
    (both-and (book_lawful book s && book_lawful book t) (steps_ok book s t) (both-and (book_lawful book s) (book_lawful book t) a b) e)

-- What is reached is lawful.
pub reached-lawful : (book : List ℕ) (s : ℕ) → Reachable (book_system book) s → book_lawful book s ≡ true
reached-lawful book s (zero, first) = first-lawful book s first
reached-lawful book s (suc n, (r, reached, move)) = move-to book r s move
