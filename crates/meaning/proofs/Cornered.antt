-- The corners, proved: every example of specs/Corners.antt as one claim, each by computing from the sheet's bytes. A paper is tested
-- condition by condition, as Papers.antt puts them (`run-accepted-test`, `strikes-accepted-test`). Assumes nothing.
use mathlib.Core.Path.{◌≡◌, refl, sym, subst}
use mathlib.Core.Bool.{Bool, true, false, ◌&&◌}
use mathlib.Core.Option.{Option, none, some}
use mathlib.Core.List.{List, [], ◌∷◌, ◌++◌}
use Prim.Native.Nat.{ℕ, zero, suc, ◌%◌}
use native.Mathlib.Omega.{arith}
use lib.Dec.{T, eqb, eqb→eq}
use lib.ListN.{length, get_or}
use Rattle.meaning.specs.System.{System, CanBeKept, Livable, Lists}
use Rattle.meaning.specs.Sample.{RunPaper}
use Rattle.meaning.specs.Papers.{RunAccepted, Listed, EntryRight, StrikesAccepted}
use Rattle.meaning.specs.Sheet.{Fault, number_of, first_fault, decode}
use Rattle.meaning.specs.Rules.{lawful}
use Rattle.meaning.specs.Promises.{
  system_in,
  read_number,
  ReadSays,
  Checked,
  faulty,
  accepted,
  refused,
  RunChecked,
  StrikesChecked,
  state_bytes,
  word_bytes,
  Whole,
  numbers_in,
  RunBytesChecked,
  StrikesBytesChecked,
}
use Rattle.meaning.specs.Corners.{
  Corner,
  as_on_the_wall,
  reads,
  run,
  strikes,
  run_bytes,
  strikes_bytes,
  Shown,
  AllShown,
  twice,
  corners,
  reader_corners,
  run_corners,
  strike_corners,
  byte_corners,
}
use Rattle.meaning.proofs.Judging.{lists-number}
use Rattle.meaning.proofs.Parts.{and_parts}
use Rattle.meaning.proofs.Tests.{Test, bool?, as?, same?, le?, both?, none?, if?, each?, any?, in?, lists?}
use Rattle.meaning.proofs.Tables.{Testable, quiet?, livable?, paper?}
use Rattle.meaning.proofs.Walled.{tests-in, can-be-kept}
use Rattle.meaning.proofs.Idle.{glanced?, accepted-glanced}

-- ---- papers tested

-- a proposed run is accepted
unfoldable run-accepted-test : {S : System} → Testable S → (states : List ℕ) (a : ℕ) → Test (RunAccepted S states a)
unfolding glanced? as?
run-accepted-test F states a = as?
    (λ g. record { back = g.back; first = g.first; moves = λ i h. g.moves i (omega arith) h; closes = g.closes; keeps = g.keeps })
    accepted-glanced (glanced? F states a (length states) a)

module _ {S : System} (F : Testable S) (states words : List ℕ) where
  -- t is listed with a word that passes
  unfoldable listed-test : {W : ℕ → Type 0} → ((w : ℕ) → Test (W w)) → (t : ℕ) → Test (Listed states words W t)
  unfolding any? both? same? as?
  listed-test word? t = as? (λ (j, h, w). (j, h, w.0, w.1)) (λ (j, h, e, w). (j, h, (e, w)))
      (any? (length states) (λ j. both? (same? (get_or states j 0) t) (word? (get_or words j 0))))

  -- every next state of s is
  unfoldable nexts-test : {W : ℕ → Type 0} → ((w : ℕ) → Test (W w)) → (s : ℕ) → Test ((t : ℕ) → S.Move s t → Listed states words W t)
  unfolding each? if? listed-test as?
  nexts-test word? s = as? (λ f t m. f t (F.move-below s t m).1 m) (λ f t h m. f t m)
      (each? F.bound (λ t. if? (F.move? s t) (listed-test word? t)))

  -- an entry shows what it must
  unfoldable entry-test : (reason word s : ℕ) → Test (EntryRight S states words reason word s)
  unfolding nexts-test both? none? le?
  entry-test zero word s = nexts-test (λ w. le? (suc w) word) s
  entry-test (suc k) word s = both? (none? (F.kept? k s)) (nexts-test (λ w. le? w word) s)

  -- a proposed strike list is accepted
  unfoldable strikes-accepted-test : ((s : ℕ) → Test (S.Lawful s)) → Test (StrikesAccepted S states words)
  unfolding both? same? each? if? le? in? entry-test as?
  strikes-accepted-test lawful? = as?
      (λ w. record {
        as_many = w.0;
        rising = λ i h. w.1.0 i (omega arith) h;
        lawful = w.1.1.0;
        reasons = w.1.1.1.0;
        firsts = λ s f. w.1.1.1.1.0 s (F.first_below s f) f;
        entries = w.1.1.1.1.1;
      })
      (λ r. (r.as_many, ((λ i h. r.rising i), (r.lawful, (r.reasons, ((λ s h. r.firsts s), r.entries))))))
      (both? (same? (length words) (length states))
      (both? (each? (length states) (λ i. if? (le? (suc (suc i)) (length states)) (le? (get_or words i 0) (get_or words (suc i) 0))))
      (both? (each? (length states) (λ i. lawful? (get_or states i 0)))
      (both? (each? (length states) (λ i. le? (get_or words i 0 % 32) S.promises))
      (both? (each? F.bound (λ s. if? (F.first? s) (in? states s)))
      (each? (length states) (λ i. entry-test (get_or words i 0 % 32) (get_or words i 0) (get_or states i 0))))))))

-- ---- what a checker says

-- the number for a sheet's first fault and a paper's test
abbrev verdict : Option Fault → Bool → ℕ
verdict (some f) ok = number_of f.why
verdict none true = 0
verdict none false = 14

-- It is the checker's number.
verdict-checked : {sheet : List ℕ} {Ok : System → Type 0} (t : Test (Ok (system_in sheet)))
    → Checked sheet Ok (verdict (first_fault sheet) t.says)
verdict-checked {sheet} {Ok} t = by (first_fault sheet) t.says refl refl
  where
    by : (o : Option Fault) (b : Bool) → first_fault sheet ≡ o → t.says ≡ b → Checked sheet Ok (verdict o b)
    by (some f) b e s = faulty f e refl
    by none true e s = accepted e (t.sound (subst T (sym s) tt)) refl
    by none false e s = refused e (λ ok. subst T s (t.whole ok)) refl

-- A number that is the verdict's is the checker's.
checked-when : {sheet : List ℕ} {Ok : System → Type 0} (t : Test (Ok (system_in sheet))) (n : ℕ)
    → T (eqb (verdict (first_fault sheet) t.says) n) → Checked sheet Ok n
checked-when {sheet} {Ok} t n x = subst (Checked sheet Ok) (eqb→eq (verdict (first_fault sheet) t.says) n x) (verdict-checked t)

-- ---- a sheet's papers tested

unfoldable run-test : (sheet states : List ℕ) (a : ℕ) → Test (RunAccepted (system_in sheet) states a)
unfolding tests-in run-accepted-test
run-test sheet states a = run-accepted-test (tests-in sheet) states a

unfoldable strikes-test : (sheet states words : List ℕ) → Test (StrikesAccepted (system_in sheet) states words)
unfolding system_in tests-in strikes-accepted-test bool?
strikes-test sheet states words = strikes-accepted-test (tests-in sheet) states words (λ s. bool? (lawful (decode sheet) s))

-- bytes hold whole numbers
unfoldable whole-test : (width : ℕ) (bytes : List ℕ) → Test (Whole width bytes)
unfolding Whole same?
whole-test width bytes = same? (length bytes % width) 0

unfoldable run-bytes-test : (sheet states : List ℕ) (a : ℕ)
    → Test (Whole state_bytes states × RunAccepted (system_in sheet) (numbers_in state_bytes states) a)
unfolding both? whole-test run-test
run-bytes-test sheet states a = both? (whole-test state_bytes states) (run-test sheet (numbers_in state_bytes states) a)

unfoldable strikes-bytes-test : (sheet states words : List ℕ)
    → Test (Whole state_bytes states × Whole word_bytes words
    × StrikesAccepted (system_in sheet) (numbers_in state_bytes states) (numbers_in word_bytes words))
unfolding both? as? whole-test strikes-test
strikes-bytes-test sheet states words = as? (λ w. (w.0, w.1.0, w.1.1)) (λ w. (w.0, (w.1, w.2)))
    (both? (whole-test state_bytes states) (both? (whole-test word_bytes words)
    (strikes-test sheet (numbers_in state_bytes states) (numbers_in word_bytes words))))

-- ---- the corners

-- whether a corner is found so by computing (what stands there as on the wall is not)
unfoldable found : Corner → Bool
unfolding read_number first_fault run-test strikes-test run-bytes-test strikes-bytes-test
found (as_on_the_wall e) = false
found (reads sheet n) = eqb n (read_number (first_fault sheet))
found (run sheet states a n) = eqb (verdict (first_fault sheet) (run-test sheet states a).says) n
found (strikes sheet states words n) = eqb (verdict (first_fault sheet) (strikes-test sheet states words).says) n
found (run_bytes sheet states a n) = eqb (verdict (first_fault sheet) (run-bytes-test sheet states a).says) n
found (strikes_bytes sheet states words n) = eqb (verdict (first_fault sheet) (strikes-bytes-test sheet states words).says) n

found-shown : (c : Corner) → T (found c) → Shown c
unfolding found ReadSays RunChecked StrikesChecked RunBytesChecked StrikesBytesChecked
found-shown (as_on_the_wall e) x = absurd x
found-shown (reads sheet n) x = eqb→eq n (read_number (first_fault sheet)) x
found-shown (run sheet states a n) x = checked-when (run-test sheet states a) n x
found-shown (strikes sheet states words n) x = checked-when (strikes-test sheet states words) n x
found-shown (run_bytes sheet states a n) x = checked-when (run-bytes-test sheet states a) n x
found-shown (strikes_bytes sheet states words n) x = checked-when (strikes-bytes-test sheet states words) n x

unfoldable all_found : List Corner → Bool
unfolding found
all_found [] = true
all_found (c ∷ cs) = found c && all_found cs

all-found-shown : (cs : List Corner) → T (all_found cs) → AllShown cs
unfolding all_found
all-found-shown [] x = tt
all-found-shown (c ∷ cs) x = let w = (and_parts (found c) (all_found cs)).0 x in (found-shown c w.0, all-found-shown cs w.1)

-- with promises 1 and 1 the run stays in state 1 for a moment of each aim
twice-kept : CanBeKept (system_in twice) × Lists (Livable (system_in twice)) (0 ∷ 1 ∷ []) × RunPaper (system_in twice) (0 ∷ 1 ∷ 1 ∷ []) 1
unfolding tests-in lists? quiet? livable? paper?
twice-kept = can-be-kept twice 0 tt (0 ∷ 1 ∷ []) (0 ∷ 1 ∷ 1 ∷ []) (0 ∷ 0 ∷ 1 ∷ []) 1 tt tt

-- The corners: every example holds.
pub the-corners : AllShown corners
unfolding first_fault all_found state_bytes word_bytes numbers_in
the-corners = (
  (refl, (twice-kept.0, lists-number twice-kept.1, twice-kept.2, refl)),
  all-found-shown (reader_corners ++ (run_corners ++ (strike_corners ++ byte_corners))) tt,
)
