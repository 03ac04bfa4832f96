-- Whether the strike checker accepts a paper on a good sheet: never where a part is not whole, else by the list; and the two public
-- promises from the one that the shared function keeps. Assumes nothing.
use mathlib.Core.Bool.{Bool, false}
use mathlib.Core.List.{List}
use Prim.Native.Nat.{ℕ}
use Rattle.meaning.specs.Sheet.{decode}
use Rattle.meaning.specs.Papers.{StrikesAccepted}
use Rattle.meaning.specs.Promises.{system_in, Placed, state_bytes, word_bytes, StrikesChecked, StrikesPlaced, StrikesBytesChecked}
use Rattle.ground.specs.Says.{Says}
use Rattle.ground.proofs.Saying.{says-no, says-as}
use Rattle.compile.proofs.Same.{book-system}
use Rattle.compile.specs.Promise.{BookOf}
use Rattle.rules.specs.Book.{book_system}
use Rattle.papers.specs.Paper.{AreWhole, whole_in, in_bytes}
use Rattle.papers.proofs.Verdict.{says-of-sheet, checked-as}
use Rattle.strikecheck.specs.Strikes.{PaperAccepted, PaperChecked}

module _ (sheet : List ℕ) (states-whole words-whole : Type 0) (states words : List ℕ) where
  pub states-not-whole : (states-whole → ⊥) → Says (PaperAccepted (system_in sheet) states-whole words-whole states words) false
  unfolding PaperAccepted
  states-not-whole odd = says-no (λ h. odd h.0)

  pub words-not-whole : (words-whole → ⊥) → Says (PaperAccepted (system_in sheet) states-whole words-whole states words) false
  unfolding PaperAccepted
  words-not-whole odd = says-no (λ h. odd h.1)

  pub by-the-list : {book : List ℕ} {b : Bool} → states-whole → words-whole → BookOf (decode sheet) book
      → Says (StrikesAccepted (book_system book) states words) b → Says (PaperAccepted (system_in sheet) states-whole words-whole states words) b
  unfolding PaperAccepted
  by-the-list s w book says =
      says-of-sheet sheet (λ S. PaperAccepted S states-whole words-whole states words) (book-system book)
      (says-as (λ ok. (s, w, ok)) (λ h. h.2) says)

-- Numbers are always whole.
pub strikes-placed : (sheet states words : List ℕ) (n place : ℕ)
    → Placed sheet (PaperChecked sheet (AreWhole states) (AreWhole words) states words) n place → StrikesPlaced sheet states words n place
unfolding PaperChecked PaperAccepted StrikesChecked StrikesPlaced
strikes-placed sheet states words n place p =
    record { number = checked-as (λ S h. h.2) (λ S h. (tt, tt, h)) p.number; where_met = p.where_met }

-- On bytes it is the promise itself: a state and a word have one width.
pub strikes-bytes-checked : (sheet states words : List ℕ) (n : ℕ)
    → PaperChecked sheet (whole_in states) (whole_in words) (in_bytes states) (in_bytes words) n → StrikesBytesChecked sheet states words n
unfolding PaperChecked PaperAccepted StrikesBytesChecked state_bytes word_bytes
strikes-bytes-checked sheet states words n h = h
