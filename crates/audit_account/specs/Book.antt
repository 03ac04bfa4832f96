-- The same account carried on by a compiled sheet, as the code does it: the tallies rule by rule from the first, what a state is by the
-- book's tests, and states that come by one and the same move all at once. proofs/Compiled.antt shows that for a sheet's own book this, one
-- state at a time, is what Carry.antt says of the sheet; proofs/Standstill.antt that all at once is the same. Assumes nothing.
use Rattle.std.specs.Prelude.{◌≡◌, ◌⊎◌, Bool, cond, not, ◌&&◌, List, [], ◌∷◌, ℕ, zero, suc, ◌+◌, ◌≤◌, ◌<◌, eqb, length, get_or, set}
use Rattle.rules.specs.Book.{step_at, right_at, steps_of, all_at, some_at, book_lawful, book_first}
use Rattle.audit_account.specs.Account.{Account, most_tallies, nothing, unlawful, broke_first, broke_step}
use Rattle.audit_account.specs.Carry.{most_moments}

-- ---- one move

-- the move from s to t keeps step rule i, or breaks it, its left side having been true; rules are counted from 0 here
unfoldable pub kept_by : List ℕ → (s t i : ℕ) → Bool
kept_by book s t i = all_at book (step_at i) s && some_at book (right_at i) t

unfoldable pub broken_by : List ℕ → (s t i : ℕ) → Bool
broken_by book s t i = all_at book (step_at i) s && not (some_at book (right_at i) t)

-- `times` more at place i where the test passes
unfoldable pub bump : (times : ℕ) → List ℕ → ℕ → Bool → List ℕ
bump times l i b = set l i (get_or l i 0 + cond b times 0)

-- the same for every place below n
unfoldable pub bumped : (times : ℕ) → (ℕ → Bool) → ℕ → List ℕ → List ℕ
unfolding bump
bumped times test zero l = l
bumped times test (suc n) l = bump times (bumped times test n l) n (test n)

-- the first number below n that passes, counted from 1; 0 if none does
unfoldable pub first_of : (ℕ → Bool) → ℕ → ℕ
first_of test zero = 0
first_of test (suc n) = cond (eqb (first_of test n) 0) (cond (test n) (suc n) 0) (first_of test n)

-- what counting the move `times` times for step rule i leaves, and whether it broke the rule
pub record Ruled (book : List ℕ) (s t times i : ℕ) (kept broken kept' broken' : List ℕ) (r : Bool) : Type 0 where
  pub says : r ≡ broken_by book s t i
  pub keeps : kept' ≡ bump times kept i (kept_by book s t i)
  pub breaks : broken' ≡ bump times broken i (broken_by book s t i)

-- the same for the first n step rules, and whether one of them was broken
pub record Tallied (book : List ℕ) (s t times n : ℕ) (kept broken kept' broken' : List ℕ) (some : Bool) : Type 0 where
  pub says : some ≡ not (eqb (first_of (broken_by book s t) n) 0)
  pub keeps : kept' ≡ bumped times (kept_by book s t) n kept
  pub breaks : broken' ≡ bumped times (broken_by book s t) n broken

-- the first step rule that the move breaks, counted from 1; 0 if none
unfoldable pub book_broke : List ℕ → (s t : ℕ) → ℕ
unfolding first_of broken_by
book_broke book s t = first_of (broken_by book s t) (steps_of book)

-- ---- states by one and the same move

-- What the next state t is, where `count` states came before and the move into it broke a step rule or did not.
unfoldable pub book_is : List ℕ → (count : ℕ) (broke : Bool) (t : ℕ) → ℕ
book_is book count broke t =
    cond (book_lawful book t) (cond (eqb count 0) (cond (book_first book t) nothing broke_first) (cond broke broke_step nothing)) unlawful

-- the move into t breaks a step rule; a log's first state is no move
unfoldable pub book_breaks : List ℕ → Account → ℕ → Bool
unfolding book_broke
book_breaks book account t = not (eqb account.count 0) && not (eqb (book_broke book account.last t) 0)

-- the tallies after the move into t, made `times` times
unfoldable pub book_tallies : (ℕ → ℕ → ℕ → Bool) → List ℕ → Account → (t times : ℕ) → List ℕ → List ℕ
unfolding bumped
book_tallies test book account t times l = cond (eqb account.count 0) l (bumped times (test account.last t) (steps_of book) l)

-- a breach of this kind is the first; the step rule that it is told with
unfoldable pub is_first : (what is : ℕ) → Bool
is_first what is = eqb what nothing && not (eqb is nothing)

unfoldable pub rule_told : (is broke : ℕ) → ℕ
rule_told is broke = cond (eqb is broke_step) broke 0

-- The account with `times` more states t, all by the same move. The first of them tells what there is to tell.
unfoldable pub book_noted : List ℕ → Account → (t times : ℕ) → Account
unfolding book_is book_broke book_breaks book_tallies is_first rule_told
book_noted book account t times =
    let is = book_is book account.count (book_breaks book account t) t in
    record {
      count = account.count + times;
      last = t;
      what = cond (is_first account.what is) is account.what;
      moment = cond (is_first account.what is) account.count account.moment;
      rule = cond (is_first account.what is) (rule_told is (book_broke book account.last t)) account.rule;
      kept = book_tallies (kept_by book) book account t times account.kept;
      broken = book_tallies (broken_by book) book account t times account.broken;
    }

-- what the tallies are then, and whether the move broke a step rule
pub record Moved (book : List ℕ) (account : Account) (t times : ℕ) (kept broken : List ℕ) (broke : Bool) : Type 0 where
  pub says : broke ≡ book_breaks book account t
  pub keeps : kept ≡ book_tallies (kept_by book) book account t times account.kept
  pub breaks : broken ≡ book_tallies (broken_by book) book account t times account.broken

-- a piece of states, one at a time
unfoldable pub book_carried : List ℕ → Account → List ℕ → Account
unfolding book_noted
book_carried book account [] = account
book_carried book account (t ∷ piece) = book_carried book (book_noted book account t 1) piece

-- ---- a log that stands still

-- from this place on there are n states s
pub record Standing (states : List ℕ) (from s n : ℕ) : Type 0 where
  pub within : from + n ≤ length states
  pub same : (j : ℕ) → j < n → get_or states (from + j) 0 ≡ s

-- the next `times` states come by one and the same move: there is but one, or the log stands still at its last state
pub record SameMoves (states : List ℕ) (i count last times : ℕ) : Type 0 where
  pub some : 1 ≤ times
  pub within : i + times ≤ length states
  pub alike : (times ≡ 1) ⊎ ((count ≡ 0 → ⊥) × Standing states i last times)

-- ---- bounds, so that no sum wraps

-- the most that a tally can hold
abbrev pub most_tally : ℕ
most_tally = 4294967295

-- no tally is above b
pub record Within (b : ℕ) (tallies : List ℕ) : Type 0 where
  pub within : (i : ℕ) → i < most_tallies → get_or tallies i 0 ≤ b

-- an account that may be carried on by `more` states
pub record Carriable (account : Account) (more : ℕ) : Type 0 where
  pub few : account.count + more ≤ most_moments
  pub kept : Within most_moments account.kept
  pub broken : Within most_moments account.broken

-- ---- numbers copied from one list into another

-- the first n of the numbers from place `at` on stand in the other from place `to` on; below that it is as it was, and as long
pub record Copied (n : ℕ) (from : List ℕ) (at : ℕ) (into : List ℕ) (to : ℕ) (after : List ℕ) : Type 0 where
  pub long : length after ≡ length into
  pub below : (j : ℕ) → j < to → get_or after j 0 ≡ get_or into j 0
  pub here : (j : ℕ) → j < n → get_or after (to + j) 0 ≡ get_or from (at + j) 0
