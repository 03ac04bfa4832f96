-- Whether the run checker accepts a paper on a good sheet: never where the part is not whole, else by the run; and the two public promises
-- from the one that the shared function keeps. Assumes nothing.
use mathlib.Core.Bool.{Bool, false}
use mathlib.Core.List.{List}
use Prim.Native.Nat.{ℕ}
use Rattle.meaning.specs.Sheet.{decode}
use Rattle.meaning.specs.Papers.{RunAccepted}
use Rattle.meaning.specs.Promises.{system_in, Placed, RunChecked, RunPlaced, RunBytesChecked}
use Rattle.ground.specs.Says.{Says}
use Rattle.ground.proofs.Saying.{says-no, says-as}
use Rattle.compile.proofs.Same.{book-system}
use Rattle.compile.specs.Promise.{BookOf}
use Rattle.rules.specs.Book.{book_system}
use Rattle.papers.specs.Paper.{AreWhole, whole_in, in_bytes}
use Rattle.papers.proofs.Verdict.{says-of-sheet, checked-as}
use Rattle.runcheck.specs.Run.{PaperAccepted, PaperChecked}

module _ (sheet : List ℕ) (whole : Type 0) (states : List ℕ) (a : ℕ) where
  pub not-whole : (whole → ⊥) → Says (PaperAccepted (system_in sheet) whole states a) false
  unfolding PaperAccepted
  not-whole odd = says-no (λ h. odd h.0)

  pub by-the-run : {book : List ℕ} {b : Bool} → whole → BookOf (decode sheet) book → Says (RunAccepted (book_system book) states a) b
      → Says (PaperAccepted (system_in sheet) whole states a) b
  unfolding PaperAccepted
  by-the-run w book says =
      says-of-sheet sheet (λ S. PaperAccepted S whole states a) (book-system book) (says-as (λ ok. (w, ok)) (λ h. h.1) says)

-- Numbers are always whole.
pub run-placed : (sheet states : List ℕ) (a n place : ℕ) → Placed sheet (PaperChecked sheet (AreWhole states) states a) n place
    → RunPlaced sheet states a n place
unfolding PaperChecked PaperAccepted RunChecked RunPlaced
run-placed sheet states a n place p =
    record { number = checked-as (λ S h. h.1) (λ S h. (tt, h)) p.number; where_met = p.where_met }

-- On bytes it is the promise itself.
pub run-bytes-checked : (sheet states : List ℕ) (a n : ℕ) → PaperChecked sheet (whole_in states) (in_bytes states) a n
    → RunBytesChecked sheet states a n
unfolding PaperChecked PaperAccepted RunBytesChecked
run-bytes-checked sheet states a n h = h
