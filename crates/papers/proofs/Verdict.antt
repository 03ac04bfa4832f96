-- How a checker comes to its number and its place: the sheet's fault first (placed-refused), then 0 or 14 for the paper (placed-paper),
-- tested in the system of the sheet's book (says-of-sheet); and that what a checker accepts may be said in another way (checked-as).
-- Assumes nothing.
use mathlib.Core.Path.{◌≡◌, refl, sym, ◌∙◌, ap, subst}
use mathlib.Core.Bool.{Bool, true, false}
use mathlib.Core.Logic.{◌↔◌}
use mathlib.Core.Option.{none}
use mathlib.Core.List.{List}
use Prim.Native.Nat.{ℕ}
use native.Mathlib.Omega.{arith}
use Rattle.meaning.specs.System.{System}
use Rattle.meaning.specs.Sheet.{first_fault, decode}
use Rattle.meaning.specs.Rules.{system_of}
use Rattle.meaning.specs.Promises.{place_of, Placed, system_in, Checked, faulty, accepted, refused}
use Rattle.meaning.proofs.Demands.{fault-number}
use Rattle.meaning.proofs.Promised.{bad-not-good}
use Rattle.ground.specs.Says.{Says}
use Rattle.reader.specs.declared.Verdict.{Verdict}
use Rattle.reader.proofs.Good.{Refusal}
use Rattle.papers.specs.Paper.{on_paper}

-- A bad sheet's number and place are the checker's.
pub placed-refused : (sheet : List ℕ) {Ok : System → Type 0} {v : Verdict} → Refusal sheet v
    → Placed sheet (Checked sheet Ok) v.answer v.place
unfolding place_of
placed-refused sheet bad =
    record { number = faulty bad.fault bad.first bad.number; where_met = bad.place ∙ ap place_of (sym bad.first) }

-- A good sheet has no place, and a paper's number says whether it is accepted.
pub placed-paper : (sheet : List ℕ) {Ok : System → Type 0} {b : Bool} {v : Verdict} → first_fault sheet ≡ none → Says (Ok (system_in sheet)) b
    → v ≡ on_paper b → Placed sheet (Checked sheet Ok) v.answer v.place
unfolding place_of
placed-paper sheet {Ok} {b} {v} good says e =
    subst (λ (x : Verdict). Placed sheet (Checked sheet Ok) x.answer x.place) (sym e) (by b says)
  where
    no_place : 0 ≡ place_of (first_fault sheet)
    no_place = ap place_of (sym good)

    by : (b : Bool) → Says (Ok (system_in sheet)) b → Placed sheet (Checked sheet Ok) (on_paper b).answer (on_paper b).place
    by true says = record { number = accepted good (says.yes refl) refl; where_met = no_place }
    by false says = record { number = refused good (says.never refl) refl; where_met = no_place }

-- A test in the system of a sheet's book is a test in the sheet's.
pub says-of-sheet : (sheet : List ℕ) (Ok : System → Type 0) {S : System} {b : Bool} → S ≡ system_of (decode sheet) → Says (Ok S) b
    → Says (Ok (system_in sheet)) b
unfolding system_in
says-of-sheet sheet Ok {b = b} same says = subst (λ S. Says (Ok S) b) same says

-- What a checker accepts may be said in another way.
pub checked-as : {sheet : List ℕ} {Ok Ok' : System → Type 0} {n : ℕ} → ((S : System) → Ok S → Ok' S) → ((S : System) → Ok' S → Ok S)
    → Checked sheet Ok n → Checked sheet Ok' n
checked-as there back (faulty f e p) = faulty f e p
checked-as there back (accepted e ok p) = accepted e (there _ ok) p
checked-as there back (refused e no_Ok p) = refused e (λ ok. no_Ok (back _ ok)) p

-- A checker says 0 exactly if the sheet is good and the paper is accepted.
pub zero-exactly : {sheet : List ℕ} {Ok : System → Type 0} {n : ℕ} → Checked sheet Ok n
    → (n ≡ 0) ↔ ((first_fault sheet ≡ none) × Ok (system_in sheet))
zero-exactly (faulty f e p) = (λ z. absurd (omega (arith, fault-number f.why)), λ h. absurd (bad-not-good e h.0))
zero-exactly (accepted e ok p) = (λ z. (e, ok), λ h. p)
zero-exactly (refused e no_Ok p) = (λ z. absurd (omega arith), λ h. absurd (no_Ok h.1))
