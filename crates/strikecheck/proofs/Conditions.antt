-- The strike checker's conditions: a word's reason, and that lawful states are numbers of letters. Assumes nothing.
use mathlib.Core.Path.{◌≡◌, ap}
use mathlib.Core.List.{List}
use Prim.Native.Nat.{ℕ, ◌%◌, ◌≤◌, ◌<◌}
use native.Mathlib.Omega.{arith}
use lib.ListN.{get_or}
use Rattle.ground.proofs.States.{state-small}
use Rattle.rules.specs.Book.{Shaped, book_system, promises_of}
use Rattle.rules.proofs.Facts.{lawful-true, lawful-below}
use Rattle.strikes_apart.specs.Windows.{AllSmall}
use Rattle.strikes_covers.specs.Asks.{AllLawful}

-- A word's reason is at most the number of promises, or above it.
module _ (book : List ℕ) {word x promises : ℕ} (word-is : word ≡ x) (promises-are : promises ≡ promises_of book) where
  pub reason-fits : word % 32 ≤ promises → x % 32 ≤ (book_system book).promises
  unfolding book_system
  reason-fits h = let e = ap (λ (w : ℕ). w % 32) word-is in omega arith

  pub reason-above : promises < word % 32 → x % 32 ≤ (book_system book).promises → ⊥
  unfolding book_system
  reason-above h fits = let e = ap (λ (w : ℕ). w % 32) word-is in omega arith

-- Lawful states are among those that the most letters make.
pub lawful-small : {book : List ℕ} (states : List ℕ) → Shaped book → AllLawful (book_system book) states → AllSmall states
lawful-small {book} states shaped lawful i h =
    state-small shaped.few-letters (lawful-below book (get_or states i 0) (lawful-true book (get_or states i 0) (lawful i h)))
