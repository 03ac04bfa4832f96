-- What is known when a sheet turns out to be one that can be kept, and how it is answered. Assumes nothing.
use Rattle.std.specs.Prelude.{◌≡◌, List, ℕ, ◌≤◌, ◌<◌, take}
use Rattle.meaning.specs.System.{Livable, Lists}
use Rattle.meaning.specs.Promises.{Lent, capacity}
use Rattle.answers.specs.Answers.{done, short_run}
use Rattle.rules.specs.Book.{Shaped, book_system}
use Rattle.judge_answer.specs.declared.Judgement.{Judgement}
use Rattle.judge_answer.specs.Judging.{RoomFor, LeftOver, refused}

-- the livable states, at least one, are listed in the table's first k places
pub record Kept (book : List ℕ) (lent : Lent) (k : ℕ) : Type 0 where
  pub shaped : Shaped book
  pub lists : Lists (Livable (book_system book)) (take k lent.table)
  pub some : 1 ≤ k
  pub room : RoomFor (book_system book) lent
  pub within : k ≤ capacity lent

-- the five numbers of a sheet that is kept by k states, with a run of b states that goes back to moment a
abbrev pub handed : (k a b : ℕ) → Judgement
handed k a b = record { answer = done; count = k; a = a; b = b; place = 0 }

-- What is answered, and left of the slices, where there is room for so many states of the run: 12 and its length if its b states do not
-- fit, else 0 and the table's first k states.
pub data HandedOver (k a b room : ℕ) (table words scratch table' words' scratch' : List ℕ) (j : Judgement) : Type 0 where
  too_long : room < b → j ≡ refused short_run b 0 → LeftOver 0 0 table words scratch table' words' scratch'
      → HandedOver k a b room table words scratch table' words' scratch' j
  in_room : b ≤ room → j ≡ handed k a b → LeftOver k 0 table words scratch table' words' scratch'
      → HandedOver k a b room table words scratch table' words' scratch' j
