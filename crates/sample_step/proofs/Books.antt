-- A book's system is finite, and its livable states are lawful. Assumes nothing.
use mathlib.Core.Path.{◌≡◌}
use mathlib.Core.Bool.{true}
use mathlib.Core.List.{List}
use Prim.Native.Nat.{ℕ, ◌^◌, ◌≤◌}
use lib.ListN.{length, get_or}
use Rattle.meaning.specs.System.{Livable, Finite}
use Rattle.meaning.specs.Promises.{most_states}
use Rattle.meaning.proofs.Exists.{livable-next}
use Rattle.meaning.proofs.Parts.{T?}
use Rattle.rules.specs.Book.{Shaped, book_system, book_lawful, book_first, book_moves, book_kept, letters_of}
use Rattle.rules.proofs.Facts.{lawful-below, first-lawful, move-from, move-to}
use Rattle.sample_step.specs.Rows.{Livables, LivableTable}

-- A livable state is lawful.
pub livable-lawful : (book : List ℕ) (s : ℕ) → Livable (book_system book) s → book_lawful book s ≡ true
livable-lawful book s l = let n = livable-next l in move-from book s n.0 n.1

-- A book's system is finite.
pub finite-book : (book : List ℕ) → Finite (book_system book)
unfolding book_system
finite-book book = record {
  bound = 2 ^ letters_of book;
  first_below = λ s t. lawful-below book s (first-lawful book s t);
  move-below = λ s t m. lawful-below book t (move-to book s t m);
  lawful? = λ s. T? (book_lawful book s);
  first? = λ s. T? (book_first book s);
  move? = λ s t. T? (book_moves book s t);
  kept? = λ k s. T? (book_kept book k s);
}

-- A table of livable states is one of lawful states.
pub livable-table : {book table : List ℕ} {r : ℕ} → Shaped book → 1 ≤ r → r ≤ most_states → r ≤ length table
    → Livables (book_system book) table r
    → LivableTable book table r
livable-table {book} {table} shaped some few in_table livables = record {
  states = record {
    shaped = shaped;
    in_table = in_table;
    few = few;
    lawful = λ i h. livable-lawful book (get_or table i 0) (livables.sound i h);
  };
  some = some;
  livables = livables;
}
