-- What the tests of a number against a book say of an equal number, such as one read from a paper. Assumes nothing.
use mathlib.Core.Path.{◌≡◌, ◌∙◌, ap, ap₂}
use mathlib.Core.Bool.{Bool}
use mathlib.Core.List.{List}
use Prim.Native.Nat.{ℕ}
use Rattle.ground.specs.Says.{Says}
use Rattle.ground.proofs.Saying.{says-test}
use Rattle.rules.specs.Book.{book_system, book_lawful, book_first, book_moves, book_kept}

module _ (book : List ℕ) where
  -- Whether it is lawful.
  pub lawful-says : {r : Bool} {s x : ℕ} → s ≡ x → r ≡ book_lawful book s → Says ((book_system book).Lawful x) r
  unfolding book_system
  lawful-says e t = says-test _ (t ∙ ap (book_lawful book) e)

  -- Whether it is a first state.
  pub first_says : {r : Bool} {s x : ℕ} → s ≡ x → r ≡ book_first book s → Says ((book_system book).First x) r
  unfolding book_system
  first_says e t = says-test _ (t ∙ ap (book_first book) e)

  -- Whether it is a move.
  pub move-says : {r : Bool} {s x t y : ℕ} → s ≡ x → t ≡ y → r ≡ book_moves book s t → Says ((book_system book).Move x y) r
  unfolding book_system
  move-says e f t = says-test _ (t ∙ ap₂ (book_moves book) e f)

  -- Whether promise k is kept there.
  pub kept-says : (k : ℕ) {r : Bool} {s x : ℕ} → s ≡ x → r ≡ book_kept book k s → Says ((book_system book).Kept k x) r
  unfolding book_system
  kept-says k e t = says-test _ (t ∙ ap (book_kept book k) e)
