-- What compiling a sheet promises: a book that tests every state and every move as the sheet does. Assumes nothing.
use Rattle.std.specs.Prelude.{◌≡◌, List, [], ℕ, ◌<◌, length, get_or}
use Rattle.meaning.specs.Sheet.{Sheet, StepRule, step_of}
use Rattle.meaning.specs.Rules.{lawful, first_state, moves, kept, all_literals_true, some_literal_true}
use Rattle.rules.specs.Book.{Shaped, book_lawful, book_first, book_moves, book_kept, promises_of, steps_of, all_at, some_at, step_at, right_at}

-- the sheet's step rule i, from 0 (past the last: one that asks nothing and allows nothing)
abbrev pub rule_of : Sheet → ℕ → StepRule
rule_of sheet i = get_or sheet.steps i (step_of [])

-- the book of a sheet: every test that it makes is the sheet's own (so its system is the sheet's: proofs/Same.antt)
pub record BookOf (sheet : Sheet) (book : List ℕ) : Type 0 where
  pub shaped : Shaped book
  pub lawful_is : (s : ℕ) → book_lawful book s ≡ lawful sheet s
  pub first-is : (s : ℕ) → book_first book s ≡ first_state sheet s
  pub moves_is : (s t : ℕ) → book_moves book s t ≡ moves sheet s t
  pub promises_is : promises_of book ≡ length sheet.promises
  pub kept-is : (k s : ℕ) → book_kept book k s ≡ kept sheet k s
  pub steps_is : steps_of book ≡ length sheet.steps
  pub left_is : (i s : ℕ) → i < steps_of book → all_at book (step_at i) s ≡ all_literals_true s (rule_of sheet i).left
  pub right_is : (i s : ℕ) → i < steps_of book → some_at book (right_at i) s ≡ some_literal_true s (rule_of sheet i).right
