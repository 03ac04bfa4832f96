-- From a book to its sheet: what is promised over the book's system is promised of the sheet; and a bad sheet's promise. Assumes nothing.
use mathlib.Core.Path.{◌≡◌, ap, subst, ◌∙◌}
use mathlib.Core.Option.{none}
use mathlib.Core.List.{List}
use Prim.Native.Nat.{ℕ}
use Rattle.meaning.specs.Sheet.{first_fault, decode}
use Rattle.meaning.specs.Rules.{system_of}
use Rattle.meaning.specs.Promises.{system_in, Lent, Outcome, Finding, bad, crowded, short, can, cannot, Roomy, Found, outcome, Judged}
use Rattle.meaning.proofs.SheetSystem.{finite-in}
use Rattle.meaning.proofs.Judging.{number-of-reachable}
use Rattle.reader.specs.declared.Verdict.{Verdict}
use Rattle.reader.proofs.Good.{Refusal}
use Rattle.rules.specs.Book.{book_system}
use Rattle.compile.specs.Promise.{BookOf}
use Rattle.compile.proofs.Same.{book-system}
use Rattle.judge_answer.specs.declared.Judgement.{Judgement}
use Rattle.judge_answer.specs.Judging.{outcome_of, refused, RoomFor, FoundBy, JudgedBy}

-- A bad sheet gets the number and the place of its first fault, and nothing is changed.
pub bad-judged : {sheet : List ℕ} {v : Verdict} {j : Judgement} (lent : Lent) → Refusal sheet v → j ≡ refused v.answer 0 v.place
    → Judged sheet lent (outcome_of j lent)
unfolding outcome
bad-judged lent refusal is = record {
  finding = bad refusal.fault;
  found = refusal.first;
  returned = λ i.
      let answer = ap (λ (k : Judgement). k.answer) is ∙ refusal.number in
      let place = ap (λ (k : Judgement). k.place) is ∙ refusal.place in
      record { answer = answer i; count = (is i).count; a = (is i).a; b = (is i).b; place = place i; leaves = lent };
}

roomy : {sheet : List ℕ} {lent : Lent} → first_fault sheet ≡ none → RoomFor (system_in sheet) lent → Roomy sheet lent
roomy good room = record { good = good; reached = room.reached; number = room.number; room = room.room }

-- For a good sheet the promise over its system is the promise of the sheet.
found_in : (sheet : List ℕ) (lent : Lent) → first_fault sheet ≡ none → (x : Finding) → FoundBy (system_in sheet) lent x → Found sheet lent x
found_in sheet lent good (bad f) never = absurd never
found_in sheet lent good crowded many =
    let (r, number) = number-of-reachable (finite-in sheet) in
    (good, (r, number, many r number))
found_in sheet lent good (short b) (room, kept, paper, long) = (roomy good room, kept, paper, long)
found_in sheet lent good (can livable states a) (room, kept, lists, paper, fits) = (roomy good room, kept, lists, paper, fits)
found_in sheet lent good (cannot states words) (room, never, list) = (roomy good room, never, list)

-- So the promise over the system of its book is.
pub good-judged : {sheet book : List ℕ} {lent : Lent} {o : Outcome} → first_fault sheet ≡ none → BookOf (decode sheet) book
    → JudgedBy (book_system book) lent o → Judged sheet lent o
unfolding system_in
good-judged {sheet} {book} {lent} {o} good book-of judged =
    let j : JudgedBy (system_of (decode sheet)) lent o = subst (λ S. JudgedBy S lent o) (book-system book-of) judged in
    record { finding = j.finding; found = found_in sheet lent good j.finding j.found; returned = j.returned }
