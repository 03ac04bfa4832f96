-- The ten lines of document 02's order 1, and the line of a good sheet: the first fault has number n and place q exactly if every earlier
-- check passes and this one fails at q, each check said of the sheet's bytes (specs/Faults.antt). So nobody need trust the chain of checks
-- in `first_fault`. What is found is so (`first-fault-found`); and no two of the eleven lines are so of one sheet. Assumes nothing.
use mathlib.Core.Path.{◌≡◌, refl, sym, ◌∙◌, ap, subst}
use mathlib.Core.Bool.{Bool, true, false, cond, ◌&&◌}
use mathlib.Core.Logic.{◌⊎◌, inl, inr, ◌↔◌}
use mathlib.Core.Option.{Option, none, some}
use mathlib.Core.List.{List}
use Prim.Native.Nat.{ℕ, zero, suc, ◌+◌, ◌*◌, ◌≤◌, ◌<◌}
use native.Mathlib.Decide.{dec_lt}
use native.Mathlib.Omega.{arith}
use lib.Dec.{leb, eqb}
use lib.ListN.{length}
use borrow.Author.Tests.{le-leb, lt-leb, eq-eqb, ne_eqb}
use Rattle.meaning.specs.Sheet.{Why, bad_size, bad_version, bad_length, bad_letters, too_many_records, record_missing, bad_shape, bad_literal}
use Rattle.meaning.specs.Sheet.{not_rising, surplus, Fault, unless, most_bytes_of_a_sheet, names, size, byte, letters_in, first_fault}
use Rattle.meaning.specs.Faults.{SizeFits, VersionFits, LengthFits, LettersFit, LimitsFit, PromisesFit, GoodHeader, start_of}
use Rattle.meaning.specs.Faults.{records_in}
use Rattle.meaning.specs.Faults.{kind_at, Present, ShapeFits, NamesLetter, Ascends, GoodRecord, GoodUpTo}
use Rattle.meaning.specs.Faults.{Comes, LiteralComes, Fault1, Fault2, Fault3, Fault4, Fault5, Fault6, Fault7, Fault8, Fault9, Fault10}
use Rattle.meaning.proofs.FirstFault.{bounds, FaultAt, Whole, first-fault-found, starts-within}

-- this fault at this place
abbrev pub met : Why → ℕ → Option Fault
met w q = some (record { why = w; at = q })

-- ---- the header's five lines

-- two bounds tested together
pass : (a b c d : ℕ) → (a ≤ b) × (c ≤ d) → leb a b && leb c d ≡ true
pass a b c d w = ap (λ (t : Bool). t && leb c d) (le-leb a b w.0) ∙ le-leb c d w.1

fail : (a b c d : ℕ) → ((a ≤ b) × (c ≤ d) → ⊥) → leb a b && leb c d ≡ false
fail a b c d never = by (leb a b && leb c d) refl
  where
    by : (t : Bool) → leb a b && leb c d ≡ t → leb a b && leb c d ≡ false
    by true e = absurd (never (bounds a b c d e))
    by false e = e

module _ (s : List ℕ) where
  size-so : (SizeFits s → ⊥) → first_fault s ≡ met bad_size 0
  unfolding first_fault
  size-so no_size = rw (fail 8 (length s) (length s) 4096 no_size)

  version-so : SizeFits s → (VersionFits s → ⊥) → first_fault s ≡ met bad_version 0
  unfolding first_fault
  version-so sized no-version = rw (pass 8 (length s) (length s) 4096 sized, ne_eqb (byte s 0) 1 no-version)

  length-so : SizeFits s → VersionFits s → (LengthFits s → ⊥) → first_fault s ≡ met bad_length 1
  unfolding first_fault
  length-so sized version no_length =
      rw (pass 8 (length s) (length s) 4096 sized, eq-eqb (byte s 0) 1 version, ne_eqb (byte s 1 * 256 + byte s 2) (length s) no_length)

  module _ (sized : SizeFits s) (version : VersionFits s) (stated : LengthFits s) where
    letters-so : (LettersFit s → ⊥) → first_fault s ≡ met bad_letters 3
    unfolding first_fault letters_in
    letters-so no_letters =
        rw (
          pass 8 (length s) (length s) 4096 sized,
          eq-eqb (byte s 0) 1 version,
          eq-eqb (byte s 1 * 256 + byte s 2) (length s) stated,
          fail 1 (byte s 3) (byte s 3) 24 no_letters,
        )

    limits-so : LettersFit s → (LimitsFit s → ⊥) → first_fault s ≡ met too_many_records 4
    unfolding first_fault letters_in
    limits-so letters many =
        rw (
          pass 8 (length s) (length s) 4096 sized,
          eq-eqb (byte s 0) 1 version,
          eq-eqb (byte s 1 * 256 + byte s 2) (length s) stated,
          pass 1 (byte s 3) (byte s 3) 24 letters,
          lt-leb (byte s 4) 32 (omega arith),
        )

    promises-so : LettersFit s → LimitsFit s → (PromisesFit s → ⊥) → first_fault s ≡ met too_many_records 7
    unfolding first_fault letters_in
    promises-so letters limits many =
        rw (
          pass 8 (length s) (length s) 4096 sized,
          eq-eqb (byte s 0) 1 version,
          eq-eqb (byte s 1 * 256 + byte s 2) (length s) stated,
          pass 1 (byte s 3) (byte s 3) 24 letters,
          le-leb (byte s 4) 32 limits,
          lt-leb (byte s 7) 16 (omega arith),
        )

  -- A fault that stands at a place stands at an equal place.
  moved : (w : Why) (p q : ℕ) → q ≡ p → first_fault s ≡ met w p → first_fault s ≡ met w q
  moved w p q e f = f ∙ ap (met w) (sym e)

  -- ---- behind a good header: reading ends in one way

  -- reading stops in record j: the record is not all there, or has not its shape, or literal i is the first that is not good
  data Stopped (j : ℕ) (o : Option Fault) : Type 0 where
    missing : (Present s (start_of s j) → ⊥) → o ≡ met record_missing (start_of s j) → Stopped j o
    misshapen : Present s (start_of s j) → (ShapeFits (kind_at s j) s (start_of s j) → ⊥) → o ≡ met bad_shape (start_of s j) → Stopped j o
    misread : (i : ℕ) → LiteralComes s j (start_of s j) i → (NamesLetter s i × Ascends (kind_at s j) s (start_of s j) i → ⊥)
        → o ≡ met (cond (names (byte s 3) (byte s i)) not_rising bad_literal) i → Stopped j o

  -- reading stops in a record, or comes to the end of the last
  data Ended (o : Option Fault) : Type 0 where
    stopped : (j : ℕ) → Comes s j (start_of s j) → Stopped j o → Ended o
    through : GoodUpTo s (records_in s)
        → o ≡ unless (eqb (start_of s (records_in s)) (length s)) surplus (start_of s (records_in s)) → Ended o

  -- A record in which reading stops is not good.
  stopped-bad : {j : ℕ} {o : Option Fault} → Stopped j o → GoodRecord s j → ⊥
  stopped-bad (missing gone e) good = gone good.present
  stopped-bad (misshapen there no-shape e) good = no-shape good.shape
  stopped-bad (misread i comes bad e) good = bad (good.literals i comes.literal)

  -- Reading stops at one literal of a record.
  misread-once : {j i h : ℕ} → LiteralComes s j (start_of s j) i → (NamesLetter s h × Ascends (kind_at s j) s (start_of s j) h → ⊥)
      → LiteralComes s j (start_of s j) h → i ≤ h
  misread-once {j} {i} {h} comes bad comes' = by (dec_lt h i)
    where
      by : Dec (h < i) → i ≤ h
      by (yes p) = absurd (bad (comes.earlier h comes'.literal p))
      by (no p) = omega arith

  -- Reading stops in a record in one way.
  stopped-unique : {j : ℕ} {x y : Option Fault} → Stopped j x → Stopped j y → x ≡ y
  stopped-unique (missing gone e) (missing gone' e') = e ∙ sym e'
  stopped-unique (missing gone e) (misshapen there no-shape e') = absurd (gone there)
  stopped-unique (missing gone e) (misread i comes bad e') = absurd (gone comes.present)
  stopped-unique (misshapen there no-shape e) (missing gone e') = absurd (gone there)
  stopped-unique (misshapen there no-shape e) (misshapen there' no-shape' e') = e ∙ sym e'
  stopped-unique (misshapen there no-shape e) (misread i comes bad e') = absurd (no-shape comes.shape)
  stopped-unique (misread i comes bad e) (missing gone e') = absurd (gone comes.present)
  stopped-unique (misread i comes bad e) (misshapen there no-shape e') = absurd (no-shape comes.shape)
  stopped-unique (misread i comes bad e) (misread h comes' bad' e') =
      let low = misread-once comes bad' comes' in
      let high = misread-once comes' bad comes in
      let same : i ≡ h = omega arith in
      e ∙ ap (λ (k : ℕ). met (cond (names (byte s 3) (byte s k)) not_rising bad_literal) k) same ∙ sym e'

  -- A record that is reached lies no later than one in which reading stops.
  no-later : {j h : ℕ} {y : Option Fault} → GoodUpTo s j → Stopped h y → j ≤ h
  no-later {j} {h} good bad = by (dec_lt h j)
    where
      by : Dec (h < j) → j ≤ h
      by (yes p) = absurd (stopped-bad bad (good.records h p))
      by (no p) = omega arith

  -- Reading ends in one way.
  ended-unique : {x y : Option Fault} → Ended x → Ended y → x ≡ y
  ended-unique {x} {y} (stopped j comes bad) (stopped h comes' bad') =
      let low = no-later comes.before bad' in
      let high = no-later comes'.before bad in
      let same : j ≡ h = omega arith in
      stopped-unique (subst (λ (k : ℕ). Stopped k x) same bad) bad'
  ended-unique (stopped j comes bad) (through good e) = absurd (stopped-bad bad (good.records j comes.announced))
  ended-unique (through good e) (stopped j comes bad) = absurd (stopped-bad bad (good.records j comes.announced))
  ended-unique (through good e) (through good' e') = e ∙ sym e'

  -- ---- each of the later lines is such an end

  comes-again : {j q : ℕ} → Comes s j q → Comes s j (start_of s j)
  comes-again comes = record { before = comes.before; announced = comes.announced; begins = refl }

  ended-6 : {q : ℕ} → Fault6 s q → Ended (met record_missing q)
  ended-6 (j, comes, gone) =
      stopped j (comes-again comes)
      (missing (λ there. gone (subst (Present s) comes.begins there)) (ap (met record_missing) (sym comes.begins)))

  ended-7 : {q : ℕ} → Fault7 s q → Ended (met bad_shape q)
  ended-7 (j, comes, there, no-shape) =
      stopped j (comes-again comes)
      (misshapen (subst (Present s) (sym comes.begins) there)
      (λ shape. no-shape (subst (ShapeFits (kind_at s j) s) comes.begins shape)) (ap (met bad_shape) (sym comes.begins)))

  ended-8 : {i : ℕ} → Fault8 s i → Ended (met bad_literal i)
  unfolding names
  ended-8 {i} (j, q, comes, unnamed) =
      let at = comes.comes.begins in
      let t : names (byte s 3) (byte s i) ≡ false = fail 1 (size (byte s i)) (size (byte s i)) (byte s 3) unnamed in
      stopped j (comes-again comes.comes)
      (misread i (subst (λ (k : ℕ). LiteralComes s j k i) (sym at) comes) (λ good. unnamed good.0)
      (ap (λ (b : Bool). met (cond b not_rising bad_literal) i) (sym t)))

  ended-9 : {i : ℕ} → Fault9 s i → Ended (met not_rising i)
  unfolding names
  ended-9 {i} (j, q, comes, named, falls) =
      let at = comes.comes.begins in
      let t : names (byte s 3) (byte s i) ≡ true = pass 1 (size (byte s i)) (size (byte s i)) (byte s 3) named in
      stopped j (comes-again comes.comes)
      (misread i (subst (λ (k : ℕ). LiteralComes s j k i) (sym at) comes)
      (λ good. falls (subst (λ (k : ℕ). Ascends (kind_at s j) s k i) at good.1))
      (ap (λ (b : Bool). met (cond b not_rising bad_literal) i) (sym t)))

  ended-10 : {q : ℕ} → Fault10 s q → Ended (met surplus q)
  ended-10 {q} (good, end, within) =
      let t : eqb (start_of s (records_in s)) (length s) ≡ false = ne_eqb (start_of s (records_in s)) (length s) (λ e. omega arith) in
      through good
      (ap (met surplus) (sym end)
      ∙ ap (λ (b : Bool). unless b surplus (start_of s (records_in s))) (sym t))

  ended-good : Whole s → Ended none
  ended-good (good, end) =
      through good
      (ap (λ (b : Bool). unless b surplus (start_of s (records_in s))) (sym (eq-eqb (start_of s (records_in s)) (length s) end)))

  -- Behind a good header none of the first five lines is so.
  fault-ended : GoodHeader s → (w : Why) (q : ℕ) → FaultAt s w q → Ended (met w q)
  fault-ended good bad_size q f = absurd (f.0 good.sized)
  fault-ended good bad_version q f = absurd (f.1 good.version)
  fault-ended good bad_length q f = absurd (f.2 good.long)
  fault-ended good bad_letters q f = absurd (f.3 good.letters)
  fault-ended good too_many_records q (sized, version, long, letters, inl (many, e)) = absurd (many good.limits)
  fault-ended good too_many_records q (sized, version, long, letters, inr (few, many, e)) = absurd (many good.promises)
  fault-ended good record_missing q f = ended-6 f
  fault-ended good bad_shape q f = ended-7 f
  fault-ended good bad_literal q f = ended-8 f
  fault-ended good not_rising q f = ended-9 f
  fault-ended good surplus q f = ended-10 f

  -- `first_fault` tells that end.
  first-fault-ended : GoodHeader s → Ended (first_fault s)
  first-fault-ended good = by (first_fault s) refl
    where
      by : (o : Option Fault) → first_fault s ≡ o → Ended (first_fault s)
      by none e = subst Ended (sym e) (ended-good ((first-fault-found s).good e))
      by (some f) e = subst Ended (sym e) (fault-ended good f.why f.at ((first-fault-found s).bad f e))

  -- ---- the ten lines and the line of a good sheet

  -- what is found is so
  found-so : (w : Why) (q : ℕ) → first_fault s ≡ met w q → FaultAt s w q
  found-so w q e = (first-fault-found s).bad (record { why = w; at = q }) e

  -- what is so of a sheet with a good header is what is found
  so-found : GoodHeader s → (w : Why) (q : ℕ) → FaultAt s w q → first_fault s ≡ met w q
  so-found good w q f = ended-unique (first-fault-ended good) (fault-ended good w q f)

-- "0 for 1"
pub fault-1-exactly : (s : List ℕ) (q : ℕ) → (first_fault s ≡ some (record { why = bad_size; at = q })) ↔ Fault1 s q
fault-1-exactly s q = (found-so s bad_size q, λ f. moved s bad_size 0 q f.1 (size-so s f.0))

-- "the header byte for 2 to 5"
pub fault-2-exactly : (s : List ℕ) (q : ℕ) → (first_fault s ≡ some (record { why = bad_version; at = q })) ↔ Fault2 s q
fault-2-exactly s q = (found-so s bad_version q, λ f. moved s bad_version 0 q f.2 (version-so s f.0 f.1))

-- "byte 1 for 3"
pub fault-3-exactly : (s : List ℕ) (q : ℕ) → (first_fault s ≡ some (record { why = bad_length; at = q })) ↔ Fault3 s q
fault-3-exactly s q = (found-so s bad_length q, λ f. moved s bad_length 1 q f.3 (length-so s f.0 f.1 f.2))

pub fault-4-exactly : (s : List ℕ) (q : ℕ) → (first_fault s ≡ some (record { why = bad_letters; at = q })) ↔ Fault4 s q
fault-4-exactly s q = (found-so s bad_letters q, λ f. moved s bad_letters 3 q f.4 (letters-so s f.0 f.1 f.2 f.3))

-- "the limit count before the promise count for 5"
pub fault-5-exactly : (s : List ℕ) (q : ℕ) → (first_fault s ≡ some (record { why = too_many_records; at = q })) ↔ Fault5 s q
fault-5-exactly s q = (found-so s too_many_records q, so)
  where
    so : Fault5 s q → first_fault s ≡ some (record { why = too_many_records; at = q })
    so (sized, version, long, letters, inl (many, e)) = moved s too_many_records 4 q e (limits-so s sized version long letters many)
    so (sized, version, long, letters, inr (few, many, e)) = moved s too_many_records 7 q e (promises-so s sized version long letters few many)

-- "the record's length byte for 6 and 7"
pub fault-6-exactly : (s : List ℕ) (q : ℕ) → (first_fault s ≡ some (record { why = record_missing; at = q })) ↔ Fault6 s q
fault-6-exactly s q = (found-so s record_missing q, λ f. so-found s f.1.before.header record_missing q f)

pub fault-7-exactly : (s : List ℕ) (q : ℕ) → (first_fault s ≡ some (record { why = bad_shape; at = q })) ↔ Fault7 s q
fault-7-exactly s q = (found-so s bad_shape q, λ f. so-found s f.1.before.header bad_shape q f)

-- "the literal's byte for 8 and 9"
pub fault-8-exactly : (s : List ℕ) (i : ℕ) → (first_fault s ≡ some (record { why = bad_literal; at = i })) ↔ Fault8 s i
fault-8-exactly s i = (found-so s bad_literal i, λ f. so-found s f.2.comes.before.header bad_literal i f)

pub fault-9-exactly : (s : List ℕ) (i : ℕ) → (first_fault s ≡ some (record { why = not_rising; at = i })) ↔ Fault9 s i
fault-9-exactly s i = (found-so s not_rising i, λ f. so-found s f.2.comes.before.header not_rising i f)

-- "the first surplus byte for 10"
pub fault-10-exactly : (s : List ℕ) (q : ℕ) → (first_fault s ≡ some (record { why = surplus; at = q })) ↔ Fault10 s q
fault-10-exactly s q = (found-so s surplus q, λ f. so-found s f.0.header surplus q f)

-- A sheet is good exactly if its header and all its records are, and the last record ends at its end.
pub good-exactly : (s : List ℕ) → (first_fault s ≡ none) ↔ (GoodUpTo s (records_in s) × (start_of s (records_in s) ≡ length s))
good-exactly s =
    (λ e. (first-fault-found s).good e, λ w. ended-unique s (first-fault-ended s w.0.header) (ended-good s w))

-- ---- "the sheet's length if that byte is missing"

-- A missing record's place is a byte of the sheet, or the sheet's length.
pub missing-within : (s : List ℕ) (q : ℕ) → Fault6 s q → q ≤ length s
missing-within s q (j, comes, gone) = subst (λ (k : ℕ). k ≤ length s) comes.begins (starts-within s j comes.before)

-- Where its length byte is missing, it is the sheet's length.
pub missing-byte-at-length : (s : List ℕ) (q : ℕ) → Fault6 s q → length s ≤ q → q ≡ length s
missing-byte-at-length s q f past = omega (arith, missing-within s q f)

-- ---- every place is small

-- A fault's place is a byte of the sheet or the sheet's length, so at most 4,096.
placed-within : (s : List ℕ) (w : Why) (q : ℕ) → FaultAt s w q → q ≤ most_bytes_of_a_sheet
placed-within s bad_size q f = omega (arith, f.1)
placed-within s bad_version q f = omega (arith, f.2)
placed-within s bad_length q f = omega (arith, f.3)
placed-within s bad_letters q f = omega (arith, f.4)
placed-within s too_many_records q (sized, version, long, letters, inl (many, e)) = omega arith
placed-within s too_many_records q (sized, version, long, letters, inr (few, many, e)) = omega arith
placed-within s record_missing q f = omega (arith, missing-within s q f, f.1.before.header.sized.1)
placed-within s bad_shape q f = omega (arith, f.2, f.1.before.header.sized.1)
placed-within s bad_literal i f = omega (arith, f.2.literal.1, f.2.present, f.2.comes.before.header.sized.1)
placed-within s not_rising i f = omega (arith, f.2.literal.1, f.2.present, f.2.comes.before.header.sized.1)
placed-within s surplus q f = omega (arith, f.2, f.0.header.sized.1)

pub place-within : (s : List ℕ) {f : Fault} → first_fault s ≡ some f → f.at ≤ most_bytes_of_a_sheet
place-within s {f} e = placed-within s f.why f.at ((first-fault-found s).bad f e)
