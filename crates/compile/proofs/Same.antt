-- The book of a sheet describes the sheet's own system: every fact about the one is a fact about the other, by `subst`. Assumes nothing.
use mathlib.Core.Path.{◌≡◌}
use mathlib.Core.List.{List}
use Prim.Native.Nat.{ℕ}
use lib.Dec.{T}
use Rattle.meaning.specs.Sheet.{Sheet}
use Rattle.meaning.specs.Rules.{system_of}
use Rattle.rules.specs.Book.{book_system}
use Rattle.compile.specs.Promise.{BookOf}

pub book-system : {sheet : Sheet} {book : List ℕ} → BookOf sheet book → book_system book ≡ system_of sheet
unfolding book_system system_of
book-system b = λ i. record {
  Lawful = λ s. T (b.lawful_is s i);
  First = λ s. T (b.first-is s i);
  Move = λ s t. T (b.moves_is s t i);
  promises = b.promises_is i;
  Kept = λ k s. T (b.kept-is k s i);
}
