-- The live step rules of a table: those that ask something after some of its states, in a list. Assumes nothing.
use Rattle.std.specs.Prelude.{◌≡◌, Bool, true, List, ℕ, ◌≤◌, ◌<◌, length, get_or}
use Rattle.ground.specs.Listed.{Has}
use Rattle.rules.specs.Book.{Shaped, most_rules, steps_of, step_at, all_at, asks_toward}

-- step rule i asks something after the state at place p
abbrev pub AsksAfter : (book table : List ℕ) (i p : ℕ) → Type 0
AsksAfter book table i p = all_at book (step_at i) (get_or table p 0) ≡ true

-- the first n of the list are step rules of the book
pub record Ruled (book live : List ℕ) (n : ℕ) : Type 0 where
  pub shaped : Shaped book
  pub long : length live ≡ most_rules
  pub few : n ≤ most_rules
  pub rules : (b : ℕ) → b < n → get_or live b 0 < steps_of book

-- and every step rule is among them that asks something after one of the first r states
pub record Live (book table : List ℕ) (r : ℕ) (live : List ℕ) (n : ℕ) : Type 0 where
  pub ruled : Ruled book live n
  pub all : (i : ℕ) → i < steps_of book → (p : ℕ) → p < r → AsksAfter book table i p → Has live n i

-- Of the c-th rule of the list: whether it asks something after s (`ahead`), or is not met by s.
abbrev pub sign_test : (ahead : Bool) (book live : List ℕ) (s : ℕ) → ℕ → Bool
sign_test ahead book live s c = asks_toward ahead book s (get_or live c 0)
