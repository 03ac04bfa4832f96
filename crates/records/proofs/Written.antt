-- Records written down and read back.
--   one record    record-read: what stands in a sheet as a written record is read as it; record_of: and back
--   a section     section-read, section-of: the same of records one behind the other
--   faultless     fault-anywhere: whether a record is faultless does not depend on where it stands; Faultless: each of some records is
--   a sheet       records-read: what is written of records is read as these records; records-back: a good sheet is written of its own
-- good sheets GoodRecords: records that are good one by one, and not too many; bytes_good: they make a good sheet; good-records: and back
-- the meaning sheet_said: what records say; decode-records, decode-bytes: it is what the sheet says Assumes nothing.
use mathlib.Core.Path.{◌≡◌, refl, sym, ◌∙◌, ap, subst}
use mathlib.Core.Bool.{Bool, true, ◌&&◌}
use mathlib.Core.Option.{Option, none}
use mathlib.Core.List.{List, [], ◌∷◌, ◌++◌, map, append_assoc, append-nil}
use Prim.Native.Nat.{ℕ, zero, suc, ◌+◌, ◌-◌, ◌*◌, ◌/◌, ◌%◌, ◌≤◌, ◌<◌}
use native.Mathlib.Omega.{arith}
use lib.Dec.{leb, eqb}
use lib.ListN.{length, get_or, take, drop, length-append, length-drop, take-append-drop}
use lib.Seq.{take-append_seam, drop-append_seam, drop-drop, get_or-drop, drop-cons, drop-length}
use borrow.Author.Tests.{le-leb, leb-true, eq-eqb}
use Rattle.meaning.specs.Sheet.{Why, bad_size, bad_version, bad_length, bad_letters, too_many_records, record_missing, bad_shape, bad_literal}
use Rattle.meaning.specs.Sheet.{not_rising, surplus, Fault, unless, ◌then◌}
use Rattle.meaning.specs.Sheet.{most_bytes_of_a_sheet, most_letters, most_limits, most_promises}
use Rattle.meaning.specs.Sheet.{names, signed_below, literals_fault, list_fault, record_fault, records_fault, first_fault}
use Rattle.meaning.specs.Sheet.{Kind, a_limit, a_first, a_step, a_promise, limit_of, step_of, promise_of, byte, body_at, next_at, after_at, bodies}
use Rattle.meaning.specs.Sheet.{letters_in, firsts_at, steps_at, promises_at, end_at, Sheet, decode}
use Rattle.reader.specs.Header.{version_byte, length_byte, letters_byte, limits_byte, promises_byte, records_at}
use Rattle.reader.specs.Header.{version_in, high_in, low_in, length_in, limits_in, firsts_in, steps_in, promises_in}
use Rattle.reader.proofs.Good.{then-none, first-passed, length-body, length-bodies, Header, good-header}
use Rattle.reader.proofs.Whole.{between}
use Rattle.records.specs.Records.{Records, records_of, section, joined, header, bytes_of}

-- ---- one record

-- a record with these bytes of its own stands at a place, and `rest` behind it
pub record RecordRead (s : List ℕ) (at : ℕ) (body rest : List ℕ) : Type 0 where
  pub own : body_at s at ≡ body
  pub next : next_at s at ≡ suc at + length body
  pub behind : drop (next_at s at) s ≡ rest

-- Where a written record stands, it is read.
pub record-read : (s : List ℕ) (at : ℕ) (body rest : List ℕ) → drop at s ≡ length body ∷ (body ++ rest) → RecordRead s at body rest
unfolding byte body_at next_at
record-read s at body rest e =
    let here : at + 0 ≡ at = omega arith in
    let said : get_or s at 0 ≡ length body =
    ap (λ (i : ℕ). get_or s i 0) (sym here) ∙ sym (get_or-drop at s 0 0) ∙ ap (λ (l : List ℕ). get_or l 0 0) e in
    let one : at + 1 ≡ suc at = omega arith in
    let after : drop (suc at) s ≡ body ++ rest = ap (λ (i : ℕ). drop i s) (sym one) ∙ sym (drop-drop 1 at s) ∙ ap (drop 1) e in
    record {
      own = ap (λ (n : ℕ). take n (drop (suc at) s)) said ∙ ap (take (length body)) after ∙ take-append_seam body rest;
      next = ap (λ (n : ℕ). suc at + n) said;
      behind = ap (λ (n : ℕ). drop (suc at + n) s) said ∙ sym (drop-drop (length body) (suc at) s) ∙ ap (drop (length body)) after
          ∙ drop-append_seam body rest;
    }

-- Such a record lies within the sheet.
pub record-fits : (s : List ℕ) (at : ℕ) (body rest : List ℕ) → drop at s ≡ length body ∷ (body ++ rest) → suc at + length body ≤ length s
record-fits s at body rest e =
    let long : length (drop at s) ≡ suc (length (body ++ rest)) = ap length e in
    omega (arith, long, length-drop at s, length-append body rest)

-- A record that lies within the sheet is its length byte, its own bytes and what stands behind it.
pub record_of : (s : List ℕ) (at : ℕ) → next_at s at ≤ length s → drop at s ≡ length (body_at s at) ∷ (body_at s at ++ drop (next_at s at) s)
unfolding byte body_at next_at
record_of s at h =
    let after : drop (suc at) s ≡ body_at s at ++ drop (next_at s at) s =
    sym (take-append-drop (get_or s at 0) (drop (suc at) s)) ∙ ap (λ (l : List ℕ). body_at s at ++ l) (drop-drop (get_or s at 0) (suc at) s) in
    drop-cons s at 0 (omega arith) ∙ ap (λ (n : ℕ). n ∷ drop (suc at) s) (sym (length-body s at h))
    ∙ ap (λ (l : List ℕ). length (body_at s at) ∷ l) after

-- ---- a section

-- these records stand from a place on, and `rest` behind them
pub record SectionRead (s : List ℕ) (at : ℕ) (bs : List (List ℕ)) (rest : List ℕ) : Type 0 where
  pub stands : drop at s ≡ section bs ++ rest
  pub records : bodies s (length bs) at ≡ bs
  pub end : after_at s (length bs) at ≡ at + length (section bs)
  pub behind : drop (after_at s (length bs) at) s ≡ rest

-- the first record of a written section, and the others
section-front : (body : List ℕ) (more : List (List ℕ)) (rest : List ℕ)
    → section (body ∷ more) ++ rest ≡ length body ∷ (body ++ (section more ++ rest))
unfolding section
section-front body more rest = ap (λ (l : List ℕ). length body ∷ l) (append_assoc body (section more) rest)

-- Where a written section stands, its records are read.
pub section-read : (s : List ℕ) (at : ℕ) (bs : List (List ℕ)) (rest : List ℕ) → drop at s ≡ section bs ++ rest → SectionRead s at bs rest
unfolding section bodies after_at
section-read s at [] rest e = record { stands = e; records = refl; end = omega arith; behind = e }
section-read s at (body ∷ more) rest e =
    let first = record-read s at body (section more ++ rest) (e ∙ section-front body more rest) in
    let others = section-read s (next_at s at) more rest first.behind in
    record {
      stands = e;
      records = ap (λ (b : List ℕ). b ∷ bodies s (length more) (next_at s at)) first.own
          ∙ ap (λ (l : List (List ℕ)). body ∷ l) others.records;
      end = omega (arith, first.next, others.end, length-append body (section more));
      behind = others.behind;
    }

-- A section that reads without fault is written of its own bodies.
pub section-of : (kind : Kind) (n : ℕ) (s : List ℕ) (count at : ℕ) → records_fault kind n s count at ≡ none
    → drop at s ≡ section (bodies s count at) ++ drop (after_at s count at) s
unfolding records_fault section bodies after_at
section-of kind n s zero at e = refl
section-of kind n s (suc count) at e =
    let room = first-passed (leb (next_at s at) (length s)) record_missing at _ e in
    let here = then-none (record_fault kind n at (body_at s at)) (records_fault kind n s count (next_at s at)) room.1 in
    let fits = leb-true (next_at s at) (length s) room.0 in
    record_of s at fits ∙ ap (λ (l : List ℕ). length (body_at s at) ∷ (body_at s at ++ l)) (section-of kind n s count (next_at s at) here.1)
    ∙ sym (section-front (body_at s at) (bodies s count (next_at s at)) (drop (after_at s count (next_at s at)) s))

-- ---- a faultless record

-- Checks that all pass find nothing.
none_found : (t : Bool) (why : Why) (at : ℕ) (later : Option Fault) → t ≡ true → later ≡ none → (unless t why at then later) ≡ none
none_found t why at later e q = ap (λ (t : Bool). unless t why at then later) e ∙ q

none-either : (a b : Option Fault) → a ≡ none → b ≡ none → (a then b) ≡ none
none-either a b e q = ap (λ (a : Option Fault). a then b) e ∙ q

literals-anywhere : (n at at' before : ℕ) (ls : List ℕ) → literals_fault n at before ls ≡ none → literals_fault n at' before ls ≡ none
unfolding literals_fault
literals-anywhere n at at' before [] e = refl
literals-anywhere n at at' before (b ∷ bs) e =
    let here = first-passed (names n b) bad_literal at _ e in
    let rest = first-passed (signed_below before b) not_rising at _ here.1 in
    none_found (names n b) bad_literal at' _ here.0
    (none_found (signed_below before b) not_rising at' _ rest.0 (literals-anywhere n (suc at) (suc at') b bs rest.1))

-- A list of literals is faultless wherever it stands.
list-anywhere : (n at at' : ℕ) (ls : List ℕ) → list_fault n at ls ≡ none → list_fault n at' ls ≡ none
unfolding list_fault
list-anywhere n at at' ls e = literals-anywhere n at at' 128 ls e

-- Whether a record is faultless does not depend on where it stands.
pub fault-anywhere : (kind : Kind) (n at at' : ℕ) (body : List ℕ) → record_fault kind n at body ≡ none → record_fault kind n at' body ≡ none
unfolding record_fault
fault-anywhere a_limit n at at' body e =
    let shape = first-passed (leb 2 (length body) && leb (get_or body 0 0) 1) bad_shape at _ e in
    none_found (leb 2 (length body) && leb (get_or body 0 0) 1) bad_shape at' _ shape.0
    (list-anywhere n (at + 3) (at' + 3) (limit_of body).among shape.1)
fault-anywhere a_first n at at' body e = list-anywhere n (at + 1) (at' + 1) body e
fault-anywhere a_step n at at' body e =
    let a = get_or body 0 0 in
    let shape = first-passed (leb 1 (length body) && leb a (length body - 1)) bad_shape at _ e in
    let sides = then-none (list_fault n (at + 2) (step_of body).left) (list_fault n (at + 2 + a) (step_of body).right) shape.1 in
    none_found (leb 1 (length body) && leb a (length body - 1)) bad_shape at' _ shape.0
    (none-either (list_fault n (at' + 2) (step_of body).left) (list_fault n (at' + 2 + a) (step_of body).right)
    (list-anywhere n (at + 2) (at' + 2) (step_of body).left sides.0)
    (list-anywhere n (at + 2 + a) (at' + 2 + a) (step_of body).right sides.1))
fault-anywhere a_promise n at at' body e =
    let shape = first-passed (eqb (length body) 1) bad_shape at _ e in
    none_found (eqb (length body) 1) bad_shape at' _ shape.0 (list-anywhere n (at + 1) (at' + 1) body shape.1)

-- each of some records of a kind is faultless (judged as if it stood at place 0)
abbrev pub Faultless : Kind → ℕ → List (List ℕ) → Type 0
Faultless kind n [] = Unit {0}
Faultless kind n (body ∷ more) = (record_fault kind n 0 body ≡ none) × Faultless kind n more

-- A section without fault has faultless records, and faultless records written down are a section without fault.
pub section-faultless : (kind : Kind) (n : ℕ) (s : List ℕ) (count at : ℕ) → records_fault kind n s count at ≡ none
    → Faultless kind n (bodies s count at)
unfolding records_fault bodies
section-faultless kind n s zero at e = tt
section-faultless kind n s (suc count) at e =
    let room = first-passed (leb (next_at s at) (length s)) record_missing at _ e in
    let here = then-none (record_fault kind n at (body_at s at)) (records_fault kind n s count (next_at s at)) room.1 in
    (fault-anywhere kind n at 0 (body_at s at) here.0, section-faultless kind n s count (next_at s at) here.1)

pub faultless-section : (kind : Kind) (n : ℕ) (s : List ℕ) (at : ℕ) (bs : List (List ℕ)) (rest : List ℕ) → drop at s ≡ section bs ++ rest
    → Faultless kind n bs → records_fault kind n s (length bs) at ≡ none
unfolding records_fault section
faultless-section kind n s at [] rest e f = refl
faultless-section kind n s at (body ∷ more) rest e f =
    let stands = e ∙ section-front body more rest in
    let first = record-read s at body (section more ++ rest) stands in
    let fits : next_at s at ≤ length s =
    subst (λ (x : ℕ). x ≤ length s) (sym first.next) (record-fits s at body (section more ++ rest) stands) in
    let here : record_fault kind n at (body_at s at) ≡ none =
    subst (λ (b : List ℕ). record_fault kind n at b ≡ none) (sym first.own) (fault-anywhere kind n 0 at body f.0) in
    none_found (leb (next_at s at) (length s)) record_missing at _ (le-leb (next_at s at) (length s) fits)
    (none-either (record_fault kind n at (body_at s at)) (records_fault kind n s (length more) (next_at s at)) here
    (faultless-section kind n s (next_at s at) more rest first.behind f.1))

-- ---- a sheet

-- how long the records are together
pub length-joined : (r : Records)
    → length (joined r)
    ≡ length (section r.limits) + (length (section r.firsts) + (length (section r.steps) + length (section r.promises)))
unfolding joined
length-joined r =
    let l = section r.limits in
    let f = section r.firsts in
    let t = section r.steps in
    let p = section r.promises in
    length-append l (f ++ (t ++ p)) ∙ ap (λ (n : ℕ). length l + n) (length-append f (t ++ p) ∙ ap (λ (n : ℕ). length f + n)
    (length-append t p))

-- and the whole sheet with them
pub length-bytes : (r : Records) → length (bytes_of r) ≡ records_at + length (joined r)
unfolding bytes_of header
length-bytes r = omega arith

-- the sections of a written sheet, one behind the other
module _ (r : Records) where
  limits-written : SectionRead (bytes_of r) records_at r.limits (section r.firsts ++ (section r.steps ++ section r.promises))
  unfolding bytes_of header joined
  limits-written =
      section-read (bytes_of r) records_at r.limits (section r.firsts ++ (section r.steps ++ section r.promises)) refl

  firsts-written : SectionRead (bytes_of r) (firsts_at (bytes_of r)) r.firsts (section r.steps ++ section r.promises)
  unfolding bytes_of header byte firsts_at
  firsts-written =
      section-read (bytes_of r) (firsts_at (bytes_of r)) r.firsts (section r.steps ++ section r.promises) limits-written.behind

  steps-written : SectionRead (bytes_of r) (steps_at (bytes_of r)) r.steps (section r.promises)
  unfolding bytes_of header byte steps_at
  steps-written = section-read (bytes_of r) (steps_at (bytes_of r)) r.steps (section r.promises) firsts-written.behind

  promises-written : SectionRead (bytes_of r) (promises_at (bytes_of r)) r.promises []
  unfolding bytes_of header byte promises_at
  promises-written =
      section-read (bytes_of r) (promises_at (bytes_of r)) r.promises []
      (steps-written.behind ∙ sym (append-nil (section r.promises)))

  -- the last section ends where the sheet ends
  written-whole : end_at (bytes_of r) ≡ length (bytes_of r)
  unfolding bytes_of header byte firsts_at steps_at promises_at end_at
  written-whole =
      omega (arith, limits-written.end, firsts-written.end, steps-written.end, promises-written.end, length-joined r)

-- Records are the same if they are so kind by kind.
records-same : (n : ℕ) (l l' f f' t t' p p' : List (List ℕ)) → l ≡ l' → f ≡ f' → t ≡ t' → p ≡ p'
    → ◌≡◌ {A = Records} (record { letters = n; limits = l; firsts = f; steps = t; promises = p })
    (record { letters = n; limits = l'; firsts = f'; steps = t'; promises = p' })
records-same n l l' f f' t t' p p' e1 e2 e3 e4 = rw (e1, e2, e3, e4)

-- Records written down are read as they were.
pub records-read : (r : Records) → records_of (bytes_of r) ≡ r
unfolding records_of bytes_of header byte letters_in
records-read r =
    records-same r.letters _ r.limits _ r.firsts _ r.steps _ r.promises (limits-written r).records
    (firsts-written r).records (steps-written r).records (promises-written r).records

-- ---- good sheets

-- records that are good one by one, and not too many
pub record GoodRecords (r : Records) : Type 0 where
  pub some_letter : 1 ≤ r.letters
  pub few-letters : r.letters ≤ most_letters
  pub few_limits : length r.limits ≤ most_limits
  pub few-promises : length r.promises ≤ most_promises
  pub limits_faultless : Faultless a_limit r.letters r.limits
  pub firsts_faultless : Faultless a_first r.letters r.firsts
  pub steps_faultless : Faultless a_step r.letters r.steps
  pub promises_faultless : Faultless a_promise r.letters r.promises
  pub fits : records_at + length (joined r) ≤ most_bytes_of_a_sheet

-- A sheet with a header within its bounds, whose sections read without fault to its end, is good.
header-good : (s : List ℕ) → Header s → first_fault s ≡ none
unfolding first_fault
header-good s h =
    none_found (leb 8 (length s) && leb (length s) 4096) bad_size 0 _ (between 8 (length s) 4096 h.least h.most)
    (none_found (eqb (version_in s) 1) bad_version version_byte _ (eq-eqb (version_in s) 1 h.version)
    (none_found (eqb (length_in s) (length s)) bad_length length_byte _ (eq-eqb (length_in s) (length s) h.stated)
    (none_found (leb 1 (letters_in s) && leb (letters_in s) most_letters) bad_letters letters_byte _
    (between 1 (letters_in s) most_letters h.some_letter h.few-letters)
    (none_found (leb (limits_in s) 32) too_many_records limits_byte _ (le-leb (limits_in s) 32 h.few_limits)
    (none_found (leb (promises_in s) 16) too_many_records promises_byte _ (le-leb (promises_in s) 16 h.few-promises)
    (none-either (records_fault a_limit (letters_in s) s (limits_in s) records_at) _ h.limits_read
    (none-either (records_fault a_first (letters_in s) s (firsts_in s) (firsts_at s)) _ h.firsts_read
    (none-either (records_fault a_step (letters_in s) s (steps_in s) (steps_at s)) _ h.steps_read
    (none-either (records_fault a_promise (letters_in s) s (promises_in s) (promises_at s)) _ h.promises_read
    (ap (λ (t : Bool). unless t surplus (end_at s)) (eq-eqb (end_at s) (length s) h.whole)))))))))))

bytes-header : (r : Records) → GoodRecords r → Header (bytes_of r)
unfolding bytes_of header byte letters_in firsts_at steps_at promises_at
bytes-header r g = record {
  least = omega (arith, length-bytes r);
  most = omega (arith, length-bytes r, g.fits);
  version = refl;
  stated = omega (arith, length-bytes r);
  some_letter = g.some_letter;
  few-letters = g.few-letters;
  few_limits = g.few_limits;
  few-promises = g.few-promises;
  limits_read = faultless-section a_limit r.letters (bytes_of r) records_at r.limits _ (limits-written r).stands g.limits_faultless;
  firsts_read =
      faultless-section a_first r.letters (bytes_of r) (firsts_at (bytes_of r)) r.firsts _ (firsts-written r).stands
      g.firsts_faultless;
  steps_read =
      faultless-section a_step r.letters (bytes_of r) (steps_at (bytes_of r)) r.steps _ (steps-written r).stands g.steps_faultless;
  promises_read =
      faultless-section a_promise r.letters (bytes_of r) (promises_at (bytes_of r)) r.promises _ (promises-written r).stands
      g.promises_faultless;
  whole = written-whole r;
}

-- Good records make a good sheet.
pub bytes_good : (r : Records) → GoodRecords r → first_fault (bytes_of r) ≡ none
bytes_good r g = header-good (bytes_of r) (bytes-header r g)

-- Behind its header a good sheet is its own records, joined.
joined_back : (s : List ℕ) → Header s → drop records_at s ≡ joined (records_of s)
unfolding records_of joined firsts_at steps_at promises_at end_at
joined_back s h =
    let n = letters_in s in
    let r = records_of s in
    let ended : drop (end_at s) s ≡ [] = ap (λ (i : ℕ). drop i s) h.whole ∙ drop-length s in
    let p : drop (promises_at s) s ≡ section r.promises =
    section-of a_promise n s (promises_in s) (promises_at s) h.promises_read ∙ ap (λ (l : List ℕ). section r.promises ++ l) ended
    ∙ append-nil (section r.promises) in
    let t : drop (steps_at s) s ≡ section r.steps ++ section r.promises =
    section-of a_step n s (steps_in s) (steps_at s) h.steps_read ∙ ap (λ (l : List ℕ). section r.steps ++ l) p in
    let f : drop (firsts_at s) s ≡ section r.firsts ++ (section r.steps ++ section r.promises) =
    section-of a_first n s (firsts_in s) (firsts_at s) h.firsts_read ∙ ap (λ (l : List ℕ). section r.firsts ++ l) t in
    section-of a_limit n s (limits_in s) records_at h.limits_read ∙ ap (λ (l : List ℕ). section r.limits ++ l) f

-- so the records' length is the sheet's
length_back : (s : List ℕ) → Header s → records_at + length (joined (records_of s)) ≡ length s
length_back s h =
    let e : length (drop records_at s) ≡ length (joined (records_of s)) = ap length (joined_back s h) in
    omega (arith, e, h.least, length-drop records_at s)

-- A good sheet's records are good.
pub good-records : (s : List ℕ) → first_fault s ≡ none → GoodRecords (records_of s)
unfolding records_of
good-records s good =
    let h = good-header s good in
    let n = letters_in s in
    record {
      some_letter = h.some_letter;
      few-letters = h.few-letters;
      few_limits = omega (arith, h.few_limits, length-bodies s (limits_in s) records_at);
      few-promises = omega (arith, h.few-promises, length-bodies s (promises_in s) (promises_at s));
      limits_faultless = section-faultless a_limit n s (limits_in s) records_at h.limits_read;
      firsts_faultless = section-faultless a_first n s (firsts_in s) (firsts_at s) h.firsts_read;
      steps_faultless = section-faultless a_step n s (steps_in s) (steps_at s) h.steps_read;
      promises_faultless = section-faultless a_promise n s (promises_in s) (promises_at s) h.promises_read;
      fits = omega (arith, length_back s h, h.most);
    }

-- a list from a place on: its next k bytes one by one, and what stands behind them
bytes_from : (k : ℕ) (s : List ℕ) (at : ℕ) → List ℕ
unfolding byte
bytes_from zero s at = drop at s
bytes_from (suc k) s at = byte s at ∷ bytes_from k s (suc at)

byte-by-byte : (k : ℕ) (s : List ℕ) (at : ℕ) → at + k ≤ length s → drop at s ≡ bytes_from k s at
unfolding byte bytes_from
byte-by-byte zero s at h = refl
byte-by-byte (suc k) s at h =
    drop-cons s at 0 (omega arith) ∙ ap (λ (l : List ℕ). byte s at ∷ l) (byte-by-byte k s (suc at) (omega arith))

-- A length stated in two bytes, the low one below 256, is stated by these two alone.
stated-high : (high low n : ℕ) → high * 256 + low ≡ n → low < 256 → n / 256 ≡ high
stated-high high low n e h = omega arith

stated-low : (high low n : ℕ) → high * 256 + low ≡ n → low < 256 → n % 256 ≡ low
stated-low high low n e h = omega arith

-- A good sheet is that of its own records. (Of a list of numbers it is asked only that the length's low byte is one.)
pub records-back : (s : List ℕ) → first_fault s ≡ none → low_in s < 256 → bytes_of (records_of s) ≡ s
unfolding records_of bytes_of header letters_in bytes_from
records-back s good small =
    let h = good-header s good in
    let high = stated-high (high_in s) (low_in s) (length s) h.stated small in
    let low = stated-low (high_in s) (low_in s) (length s) h.stated small in
    let same : s ≡ 1 ∷ high_in s ∷ low_in s ∷ byte s letters_byte ∷ limits_in s ∷ firsts_in s ∷ steps_in s ∷ promises_in s ∷ drop records_at s =
    byte-by-byte records_at s 0 (omega (arith, h.least)) ∙ ap (λ (v : ℕ). v ∷ bytes_from 7 s 1) h.version in
    rw (
      length_back s h,
      high,
      low,
      length-bodies s (limits_in s) records_at,
      length-bodies s (firsts_in s) (firsts_at s),
      length-bodies s (steps_in s) (steps_at s),
      length-bodies s (promises_in s) (promises_at s),
      ← (joined_back s h),
    ) (sym same)

-- ---- what records say

-- the letters, and each record's rule, kind by kind and in order
unfoldable pub sheet_said : Records → Sheet
unfolding limit_of step_of promise_of
sheet_said r = record {
  letters = r.letters;
  limits = map limit_of r.limits;
  firsts = r.firsts;
  steps = map step_of r.steps;
  promises = map promise_of r.promises;
}

-- A sheet says what its records say.
pub decode-records : (s : List ℕ) → decode s ≡ sheet_said (records_of s)
unfolding decode sheet_said records_of
decode-records s = refl

-- The sheet written of records says what they say.
pub decode-bytes : (r : Records) → decode (bytes_of r) ≡ sheet_said r
decode-bytes r = decode-records (bytes_of r) ∙ ap sheet_said (records-read r)
