-- The whole sheet: the header's checks one after another, and that header and sections together are the meaning's `first_fault`.
-- Assumes nothing.
use mathlib.Core.Path.{◌≡◌, refl, sym, ◌∙◌, ap}
use mathlib.Core.Bool.{Bool, true, false, ◌&&◌}
use mathlib.Core.Option.{Option, none, some}
use mathlib.Core.List.{List}
use Prim.Native.Nat.{ℕ, ◌≤◌, ◌<◌}
use lib.Dec.{leb, eqb}
use lib.ListN.{length}
use borrow.Author.Tests.{le-leb, lt-leb, eq-eqb, ne_eqb}
use native.Mathlib.Decide.{dec_le}
use native.Mathlib.Omega.{arith}
use Rattle.meaning.specs.Sheet.{bad_size, ◌then◌, Fault, letters_in, most_letters, first_fault}
use Rattle.ground.proofs.Tests.{second-false}
use Rattle.reader.specs.declared.Why.TheVariants.{BadSize, BadVersion, BadLength, BadLetters, TooMany}
use Rattle.reader.specs.declared.Fault as F
use Rattle.reader.specs.declared.cursor.Cursor.{Cursor}
use Rattle.std.specs.Prelude.{Ok, Err}
use Rattle.meaning.specs.Sheet.{a_limit, a_first, a_step, a_promise, records_fault, firsts_at, steps_at, promises_at, end_at}
use Rattle.reader.specs.Answer.{Step, refusal, step_to, records_step, onwards, end_step}
use Rattle.reader.specs.Place.{SheetAsks}
use Rattle.reader.proofs.Sections.{onwards-records, onwards-end}
use Rattle.reader.proofs.Reading.{moved, refused}
use Rattle.meaning.proofs.FirstFault.{bounds}
use Rattle.reader.specs.Header.{version_byte, length_byte, letters_byte, limits_byte, promises_byte, records_at}
use Rattle.reader.specs.Header.{version_in, length_in, limits_in, firsts_in, steps_in, promises_in}
use Rattle.reader.proofs.Good.{first-passed}
use Rattle.reader.specs.Whole.{header_fault, sections_fault}

-- ---- two bounds

pub between : (a x b : ℕ) → a ≤ x → x ≤ b → leb a x && leb x b ≡ true
between a x b h k = ap (λ (t : Bool). t && leb x b) (le-leb a x h) ∙ le-leb x b k

pub below : (a x b : ℕ) → x < a → leb a x && leb x b ≡ false
below a x b h = ap (λ (t : Bool). t && leb x b) (lt-leb a x h)

pub above : (a x b : ℕ) → b < x → leb a x && leb x b ≡ false
above a x b h = second-false (leb a x) (leb x b) (lt-leb x b h)

outside : (a x b : ℕ) → (a ≤ x → x ≤ b → ⊥) → leb a x && leb x b ≡ false
outside a x b never = by (dec_le a x)
  where
    by : Dec (a ≤ x) → leb a x && leb x b ≡ false
    by (yes h) = above a x b (omega (arith, never h))
    by (no h) = below a x b (omega arith)

-- ---- the header's checks, each where those before it passed

module _ (s : List ℕ) where
  pub size-bad : (8 ≤ length s → length s ≤ 4096 → ⊥) → refusal BadSize 0 ≡ step_to records_at (header_fault s)
  unfolding header_fault
  size-bad never = rw (outside 8 (length s) 4096 never)

  module _ (a : 8 ≤ length s) (b : length s ≤ 4096) where
    pub version-bad : eqb (version_in s) 1 ≡ false → refusal BadVersion version_byte ≡ step_to records_at (header_fault s)
    unfolding header_fault
    version-bad q = rw (between 8 (length s) 4096 a b, q)

    module _ (v : eqb (version_in s) 1 ≡ true) where
      pub length-bad : (length_in s ≡ length s → ⊥)
          → refusal BadLength length_byte ≡ step_to records_at (header_fault s)
      unfolding header_fault
      length-bad never = rw (between 8 (length s) 4096 a b, v, ne_eqb (length_in s) (length s) never)

      module _ (l : length_in s ≡ length s) where
        pub letters-bad : (1 ≤ letters_in s → letters_in s ≤ most_letters → ⊥)
            → refusal BadLetters letters_byte ≡ step_to records_at (header_fault s)
        unfolding header_fault
        letters-bad never = rw
            (between 8 (length s) 4096 a b, v, eq-eqb (length_in s) (length s) l, outside 1 (letters_in s) most_letters never)

        module _ (c : 1 ≤ letters_in s) (d : letters_in s ≤ most_letters) where
          pub limits-bad : 32 < limits_in s → refusal TooMany limits_byte ≡ step_to records_at (header_fault s)
          unfolding header_fault
          limits-bad h = rw (
            between 8 (length s) 4096 a b,
            v,
            eq-eqb (length_in s) (length s) l,
            between 1 (letters_in s) most_letters c d,
            lt-leb (limits_in s) 32 h,
          )

          module _ (m : limits_in s ≤ 32) where
            pub promises-bad : 16 < promises_in s → refusal TooMany promises_byte ≡ step_to records_at (header_fault s)
            unfolding header_fault
            promises-bad h = rw (
              between 8 (length s) 4096 a b,
              v,
              eq-eqb (length_in s) (length s) l,
              between 1 (letters_in s) most_letters c d,
              le-leb (limits_in s) 32 m,
              lt-leb (promises_in s) 16 h,
            )

            pub header-good : promises_in s ≤ 16 → Ok (record { at = records_at }) ≡ step_to records_at (header_fault s)
            unfolding header_fault
            header-good h = rw (
              between 8 (length s) 4096 a b,
              v,
              eq-eqb (length_in s) (length s) l,
              between 1 (letters_in s) most_letters c d,
              le-leb (limits_in s) 32 m,
              le-leb (promises_in s) 16 h,
            )

-- ---- header and sections

then-assoc : (a b c : Option Fault) → ((a then b) then c) ≡ (a then b then c)
then-assoc none b c = refl
then-assoc (some f) b c = refl

-- The header's faults and then the sections' are the sheet's.
pub whole-fault : (s : List ℕ) → (header_fault s then sections_fault s) ≡ first_fault s
unfolding header_fault sections_fault first_fault letters_in
whole-fault s = simp then-assoc

-- ---- the sections, one behind the other

-- the limits, the first rules, the step rules, the promises and the end
pub sections-chain :
    (s : List ℕ)
    → onwards
    (onwards
    (onwards
    (onwards (records_step a_limit (letters_in s) s (limits_in s) records_at) (records_step a_first (letters_in s) s (firsts_in s)))
    (records_step a_step (letters_in s) s (steps_in s)))
    (records_step a_promise (letters_in s) s (promises_in s)))
    (end_step s)
    ≡ step_to (end_at s) (sections_fault s)
unfolding sections_fault firsts_at steps_at promises_at end_at records_step
sections-chain s =
    let n = letters_in s in
    let l = records_fault a_limit n s (limits_in s) records_at in
    let f = records_fault a_first n s (firsts_in s) (firsts_at s) in
    let t = records_fault a_step n s (steps_in s) (steps_at s) in
    let p = records_fault a_promise n s (promises_in s) (promises_at s) in
    let steps : ℕ → Step = records_step a_step n s (steps_in s) in
    let promises : ℕ → Step = records_step a_promise n s (promises_in s) in
    ap (λ (x : Step). onwards (onwards (onwards x steps) promises) (end_step s)) (onwards-records a_first n s (firsts_in s) (firsts_at s) l)
    ∙ ap (λ (x : Step). onwards (onwards x promises) (end_step s)) (onwards-records a_step n s (steps_in s) (steps_at s) (l then f))
    ∙ ap (λ (x : Step). onwards x (end_step s)) (onwards-records a_promise n s (promises_in s) (promises_at s) ((l then f) then t))
    ∙ onwards-end s (end_at s) (((l then f) then t) then p)
    ∙ simp then-assoc

-- a fault in a section is that of the whole, where the sections before it had none
module _ (s : List ℕ) where
  pub limits-refused :
      {f : F.Fault} → records_step a_limit (letters_in s) s (limits_in s) records_at ≡ Err f → Err f ≡ step_to (end_at s) (sections_fault s)
  limits-refused q = rw q at (sections-chain s)

  module _ {c1 : Cursor} (q1 : records_step a_limit (letters_in s) s (limits_in s) records_at ≡ Ok c1) where
    pub firsts-refused :
        {f : F.Fault} → records_step a_first (letters_in s) s (firsts_in s) c1.at ≡ Err f → Err f ≡ step_to (end_at s) (sections_fault s)
    firsts-refused q = rw (q1, q) at (sections-chain s)

    module _ {c2 : Cursor} (q2 : records_step a_first (letters_in s) s (firsts_in s) c1.at ≡ Ok c2) where
      pub steps-refused :
          {f : F.Fault} → records_step a_step (letters_in s) s (steps_in s) c2.at ≡ Err f → Err f ≡ step_to (end_at s) (sections_fault s)
      steps-refused q = rw (q1, q2, q) at (sections-chain s)

      module _ {c3 : Cursor} (q3 : records_step a_step (letters_in s) s (steps_in s) c2.at ≡ Ok c3) where
        pub promises-refused :
            {f : F.Fault} → records_step a_promise (letters_in s) s (promises_in s) c3.at ≡ Err f
            → Err f ≡ step_to (end_at s) (sections_fault s)
        promises-refused q = rw (q1, q2, q3, q) at (sections-chain s)

        pub sections-ended :
            {c4 : Cursor} → records_step a_promise (letters_in s) s (promises_in s) c3.at ≡ Ok c4
            → end_step s c4.at ≡ step_to (end_at s) (sections_fault s)
        sections-ended q = rw (q1, q2, q3, q) at (sections-chain s)

-- ---- from the header to the end

-- behind a header without fault the records can be read
pub header-passed : (s : List ℕ) {c : Cursor} → step_to records_at (header_fault s) ≡ Ok c → SheetAsks s c.at
unfolding header_fault
header-passed s q =
    let m = moved records_at (header_fault s) q in
    let p1 = first-passed (leb 8 (length s) && leb (length s) 4096) bad_size 0 _ m.0 in
    record {
      behind = m.1;
      least = (bounds 8 (length s) (length s) 4096 p1.0).0;
    }

-- the sheet's fault is then that of its sections
pub sections-are-whole :
    (s : List ℕ) {c : Cursor} → step_to records_at (header_fault s) ≡ Ok c
    → step_to (end_at s) (sections_fault s) ≡ step_to (end_at s) (first_fault s)
sections-are-whole s q =
    ap (λ (o : Option Fault). step_to (end_at s) (o then sections_fault s)) (sym (moved records_at (header_fault s) q).0)
    ∙ ap (step_to (end_at s)) (whole-fault s)

-- a header's fault is the sheet's
pub header_refused : (s : List ℕ) {f : F.Fault} → step_to records_at (header_fault s) ≡ Err f → Err f ≡ step_to (end_at s) (first_fault s)
header_refused s q = refused records_at (end_at s) (header_fault s) (sections_fault s) q ∙ ap (step_to (end_at s)) (whole-fault s)
