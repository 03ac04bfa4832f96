-- Every input has an outcome that meets its call's promise, so none of the promises asks for what cannot be. One theorem a call; the four
-- checker calls rest on one. And no outcome of the judge makes a lent slice longer or shorter. Assumes nothing.
use mathlib.Core.Path.{◌≡◌, refl, sym, ◌∙◌, subst}
use mathlib.Core.Logic.Dec
use mathlib.Core.Option.{Option, none, some}
use mathlib.Core.List.{List, [], ◌∷◌}
use Prim.Native.Nat.{ℕ, ◌≤◌, ◌%◌}
use native.Mathlib.Decide.{ℕ_discrete, dec_le, map_dec}
use native.Mathlib.Omega.{arith}
use lib.ListN.{length, length-append, length-drop, length-replicate}
use Rattle.meaning.specs.System.{System, CanBeKept, Reachable, Number}
use Rattle.meaning.specs.Strike.{StrikeList}
use Rattle.meaning.specs.Sample.{RunPaper}
use Rattle.meaning.specs.Sheet.{Fault, number_of, first_fault}
use Rattle.meaning.specs.Promises.{
  system_in,
  read_number,
  ReadSays,
  place_of,
  Placed,
  ReadPlaced,
  ReadOut,
  Checked,
  faulty,
  accepted,
  refused,
  RunChecked,
  StrikesChecked,
  RunPlaced,
  StrikesPlaced,
  state_bytes,
  word_bytes,
  Whole,
  numbers_in,
  RunBytesChecked,
  StrikesBytesChecked,
  Lent,
  Outcome,
  capacity,
  Finding,
  bad,
  crowded,
  short,
  can,
  cannot,
  Roomy,
  Found,
  over,
  zeros,
  cleared,
  outcome,
  Judged,
  JudgedOut,
}
use Rattle.meaning.proofs.Lists.{number-unique, number-mono}
use Rattle.meaning.proofs.Decide.{livable-reachable}
use Rattle.meaning.proofs.SheetSystem.{finite-in, few-promises}
use Rattle.meaning.proofs.Judging.{livable?, livable-list, lists-number, number-of-reachable, can-be-kept?, nothing_left}
use Rattle.meaning.proofs.Exists.{run-paper-exists}
use Rattle.meaning.proofs.Strikes.{strike-list-exists, strike-list-number}
use Rattle.meaning.proofs.Checks.{run-accepted?, strikes-accepted?}

-- ---- the reader

-- Every sheet has the reader's number.
pub read-met : (sheet : List ℕ) → (n : ℕ) × ReadSays sheet n
unfolding ReadSays
read-met sheet = (read_number (first_fault sheet), refl)

-- A call that has a number has a place beside it.
placed-met : (sheet : List ℕ) (Says : ℕ → Type 0) → (n : ℕ) × Says n → (n : ℕ) × (place : ℕ) × Placed sheet Says n place
placed-met sheet Says (n, says) = (n, place_of (first_fault sheet), record { number = says; where_met = refl })

-- Every sheet has the reader's number and place.
pub read-placed-met : (sheet : List ℕ) → (n : ℕ) × (place : ℕ) × ReadPlaced sheet n place
unfolding ReadPlaced
read-placed-met sheet = placed-met sheet (ReadSays sheet) (read-met sheet)

-- So it is with naxxurbi_read_place's.
pub read-out-met : (sheet : List ℕ) → (out : List ℕ) × ReadOut sheet out
read-out-met sheet =
    let (n, place, promise) = read-placed-met sheet in
    (n ∷ place ∷ [], record { number = n; place = place; promise = promise; written = refl })

-- ---- the checkers

-- Every paper has a checker's number, where it can be decided whether it is accepted.
pub checked-met : (sheet : List ℕ) (Ok : System → Type 0) → Dec (Ok (system_in sheet)) → (n : ℕ) × Checked sheet Ok n
checked-met sheet Ok ok? = by (first_fault sheet) refl ok?
  where
    by : (o : Option Fault) → first_fault sheet ≡ o → Dec (Ok (system_in sheet)) → (n : ℕ) × Checked sheet Ok n
    by (some f) e ok? = (number_of f.why, faulty f e refl)
    by none e (yes ok) = (0, accepted e ok refl)
    by none e (no never) = (14, refused e never refl)

-- whether bytes hold whole numbers can be decided
whole? : (width : ℕ) (bytes : List ℕ) → Dec (Whole width bytes)
unfolding Whole
whole? width bytes = ℕ_discrete (length bytes % width) 0

-- Every run has the run checker's number.
pub run-checked-met : (sheet states : List ℕ) (a : ℕ) → (n : ℕ) × RunChecked sheet states a n
unfolding RunChecked
run-checked-met sheet states a = checked-met sheet _ (run-accepted? (finite-in sheet) states a)

-- Every list of states and words has the strike-list checker's number.
pub strikes-checked-met : (sheet states words : List ℕ) → (n : ℕ) × StrikesChecked sheet states words n
unfolding StrikesChecked
strikes-checked-met sheet states words = checked-met sheet _ (strikes-accepted? (finite-in sheet) states words)

-- And each has a place beside it.
pub run-placed-met : (sheet states : List ℕ) (a : ℕ) → (n : ℕ) × (place : ℕ) × RunPlaced sheet states a n place
unfolding RunPlaced
run-placed-met sheet states a = placed-met sheet (RunChecked sheet states a) (run-checked-met sheet states a)

pub strikes-placed-met : (sheet states words : List ℕ) → (n : ℕ) × (place : ℕ) × StrikesPlaced sheet states words n place
unfolding StrikesPlaced
strikes-placed-met sheet states words = placed-met sheet (StrikesChecked sheet states words) (strikes-checked-met sheet states words)

-- All bytes have the number of the firmware's run check.
pub run-bytes-checked-met : (sheet states : List ℕ) (a : ℕ) → (n : ℕ) × RunBytesChecked sheet states a n
unfolding RunBytesChecked
run-bytes-checked-met sheet states a =
    checked-met sheet _ (Dec.and (whole? state_bytes states) (run-accepted? (finite-in sheet) (numbers_in state_bytes states) a))

-- All bytes have the number of the firmware's strike-list check.
pub strikes-bytes-checked-met : (sheet states words : List ℕ) → (n : ℕ) × StrikesBytesChecked sheet states words n
unfolding StrikesBytesChecked
strikes-bytes-checked-met sheet states words =
    let accepted? = strikes-accepted? (finite-in sheet) (numbers_in state_bytes states) (numbers_in word_bytes words) in
    checked-met sheet _
    (map_dec (λ t. (t.0, t.1.0, t.1.1)) (λ t. (t.0, (t.1, t.2)))
    (Dec.and (whole? state_bytes states) (Dec.and (whole? word_bytes words) accepted?)))

-- ---- the judge

-- A sheet that can be kept has a sample run.
pub kept_run : (sheet : List ℕ) → CanBeKept (system_in sheet) → (states : List ℕ) × (a : ℕ) × RunPaper (system_in sheet) states a
kept_run sheet kept = run-paper-exists (finite-in sheet) (livable? (finite-in sheet)) kept

-- A good sheet that cannot be kept has a strike list.
pub struck-list : (sheet : List ℕ) → first_fault sheet ≡ none → (CanBeKept (system_in sheet) → ⊥)
    → (states : List ℕ) × (words : List ℕ) × StrikeList (system_in sheet) states words
struck-list sheet good never =
    let (n, none_left) = nothing_left (finite-in sheet) never in
    strike-list-exists (finite-in sheet) (omega (arith, few-promises sheet good)) n none_left

-- A good sheet with room has a finding: it can be kept, and its run fits or is too long, or it cannot be kept.
found-roomy : (sheet : List ℕ) (lent : Lent) → Roomy sheet lent → (x : Finding) × Found sheet lent x
found-roomy sheet lent roomy = by (can-be-kept? (finite-in sheet))
  where
    fits : CanBeKept (system_in sheet) → (states : List ℕ) (a : ℕ) → RunPaper (system_in sheet) states a
        → Dec (length states ≤ length lent.run) → (x : Finding) × Found sheet lent x
    fits kept states a paper (yes within) =
        let (l, lists) = livable-list (finite-in sheet) in
        (can l states a, (roomy, kept, lists, paper, within))
    fits kept states a paper (no longer) = (short (length states), (roomy, kept, (states, a, paper, refl), omega arith))

    by : Dec (CanBeKept (system_in sheet)) → (x : Finding) × Found sheet lent x
    by (yes kept) =
        let (states, a, paper) = kept_run sheet kept in
        fits kept states a paper (dec_le (length states) (length lent.run))
    by (no never) =
        let (states, words, struck) = struck-list sheet roomy.good never in
        (cannot states words, (roomy, never, struck))

-- Every input has a finding.
pub found-met : (sheet : List ℕ) (lent : Lent) → (x : Finding) × Found sheet lent x
found-met sheet lent = by (first_fault sheet) refl
  where
    counted : first_fault sheet ≡ none → (r : ℕ) → Number (Reachable (system_in sheet)) r → Dec (r ≤ capacity lent)
        → (x : Finding) × Found sheet lent x
    counted good r number (yes room) = found-roomy sheet lent (record { good = good; reached = r; number = number; room = room })
    counted good r number (no above) = (crowded, (good, (r, number, omega arith)))

    by : (o : Option Fault) → first_fault sheet ≡ o → (x : Finding) × Found sheet lent x
    by (some f) e = (bad f, e)
    by none e =
        let (r, number) = number-of-reachable (finite-in sheet) in
        counted e r number (dec_le r (capacity lent))

-- Every sheet and all that may be lent have an outcome that meets the judge's promise.
pub judged-met : (sheet : List ℕ) (lent : Lent) → (o : Outcome) × Judged sheet lent o
judged-met sheet lent =
    let (x, found) = found-met sheet lent in
    (outcome lent x, record { finding = x; found = found; returned = refl })

-- So it is with naxxurbi_judge's.
pub judged-out-met : (sheet : List ℕ) (lent : Lent) → (out : List ℕ) × (after : Lent) × JudgedOut sheet lent out after
judged-out-met sheet lent =
    let (o, promise) = judged-met sheet lent in
    (o.answer ∷ o.count ∷ o.a ∷ o.b ∷ o.place ∷ [], o.leaves, record { judged = o; promise = promise; written = refl; left = refl })

-- ---- no slice grows or shrinks

-- Two lots of four slices, of the same lengths.
pub record AsLong (before after : Lent) : Type 0 where
  pub table : length after.table ≡ length before.table
  pub words : length after.words ≡ length before.words
  pub scratch : length after.scratch ≡ length before.scratch
  pub run : length after.run ≡ length before.run

-- what fits into a slice, written over its front, leaves its length
length_over : (l slice : List ℕ) → length l ≤ length slice → length (over l slice) ≡ length slice
unfolding over
length_over l slice fits = simp (length-append, length-drop) (omega arith)

-- a slice of zeros is as long as the slice
length-zeros : (slice : List ℕ) → length (zeros slice) ≡ length slice
unfolding zeros
length-zeros slice = length-replicate (length slice) 0

-- both at once
length-over-zeros : (l slice : List ℕ) → length l ≤ length slice → length (over l (zeros slice)) ≡ length slice
length-over-zeros l slice fits = length_over l (zeros slice) (omega (arith, length-zeros slice)) ∙ length-zeros slice

-- cleared slices are as long as they were
cleared-as-long : (lent : Lent) → AsLong lent (cleared lent)
unfolding cleared
cleared-as-long lent = record {
  table = length-zeros lent.table;
  words = length-zeros lent.words;
  scratch = length-zeros lent.scratch;
  run = refl;
}

-- What a sheet with room lists fits into the table and the words.
roomy-fits : {sheet : List ℕ} {lent : Lent} {n : ℕ} (roomy : Roomy sheet lent) → n ≤ roomy.reached
    → (n ≤ length lent.table) × (n ≤ length lent.words)
unfolding capacity
roomy-fits roomy few = omega (arith, roomy.room, few)

-- The outcome of a true finding leaves slices as long as those lent, as every call must.
pub found-as-long : (sheet : List ℕ) (lent : Lent) (x : Finding) → Found sheet lent x → AsLong lent (outcome lent x).leaves
unfolding outcome
found-as-long sheet lent (bad f) p = record { table = refl; words = refl; scratch = refl; run = refl }
found-as-long sheet lent crowded p = cleared-as-long lent
found-as-long sheet lent (short b) p = cleared-as-long lent
found-as-long sheet lent (can l states a) p =
    let few = roomy-fits p.0 (number-mono (λ s. livable-reachable) (lists-number p.2) p.0.number) in
    record {
      table = length-over-zeros l lent.table few.0;
      words = length-zeros lent.words;
      scratch = length-zeros lent.scratch;
      run = length_over states lent.run p.4;
    }
found-as-long sheet lent (cannot states words) p =
    let all : length states ≡ p.0.reached = number-unique (strike-list-number p.2) p.0.number in
    let few = roomy-fits {n = length states} p.0 (omega arith) in
    record {
      table = length-over-zeros states lent.table few.0;
      words = length-over-zeros words lent.words (omega (arith, p.2.as_many, few.1));
      scratch = length-zeros lent.scratch;
      run = refl;
    }

-- So does every outcome that meets the judge's promise: code that is lent slices of fixed lengths can meet it.
pub judged-as-long : {sheet : List ℕ} {lent : Lent} {o : Outcome} → Judged sheet lent o → AsLong lent o.leaves
judged-as-long {sheet} {lent} j =
    subst (λ (o : Outcome). AsLong lent o.leaves) (sym j.returned) (found-as-long sheet lent j.finding j.found)
