-- What a good sheet is, for the crates above: laws of the meaning (crates/meaning/specs/Sheet.antt), none of the reader's code.
--   answers       told: good, or refused by this number and this place (Refusal); placed-good, placed-refused; read-answer-unique
--   the sheet     Header, good-header: lengths, counts, and that each section reads without fault to the sheet's end
--   a section     record-good and limit-record .. promise-record (the i-th record), after_more, after-within, length-bodies, bodies-at
--   a record      limit-good, first_good, step-good, promise-good: its shape and its lists; names-letter, not_least: what a literal names
--   the decoding  limit-at, first-at, step-at, promise-at: its i-th rule is read from its i-th record; and how many rules there are
-- Assumes nothing.
use mathlib.Core.Path.{◌≡◌, refl, sym, ◌∙◌, ap, subst}
use mathlib.Core.Bool.{Bool, true, false, ◌&&◌}
use mathlib.Core.Option.{Option, none, some}
use mathlib.Core.List.{List, [], ◌∷◌, map}
use Prim.Native.Nat.{ℕ, zero, suc, ◌+◌, ◌-◌, ◌≤◌, ◌<◌}
use native.Mathlib.Omega.{arith}
use lib.Dec.{leb, eqb}
use lib.ListN.{length, get_or, drop, length-drop, length-map}
use lib.Seq.{length-take-le, get_or-take, get_or-drop}
use borrow.Author.Tests.{leb-true, eqb-true}
use Rattle.meaning.specs.Promises.{ReadSays, read_number, place_of, ReadPlaced}
use Rattle.meaning.specs.Sheet.{Why, bad_size, bad_version, bad_length, bad_letters, too_many_records, record_missing, bad_shape, bad_literal}
use Rattle.meaning.specs.Sheet.{not_rising, surplus, number_of, Fault, unless, ◌then◌, positive, size, signed_below, names}
use Rattle.meaning.specs.Sheet.{literals_fault, list_fault, record_fault, records_fault, first_fault, Kind, a_limit, a_first, a_step, a_promise}
use Rattle.meaning.specs.Sheet.{Limit, StepRule, limit_of, step_of, promise_of, byte, body_at, next_at, after_at, bodies}
use Rattle.meaning.specs.Sheet.{letters_in, most_letters, firsts_at, steps_at, promises_at, end_at, decode}
use Rattle.meaning.proofs.FirstFault.{bounds}
use Rattle.meaning.proofs.Placing.{place-within}
use Rattle.reader.specs.Header.{version_byte, length_byte, letters_byte, limits_byte, promises_byte, records_at}
use Rattle.reader.specs.Header.{version_in, length_in, limits_in, firsts_in, steps_in, promises_in}
use Rattle.reader.specs.declared.Fault as F
use Rattle.reader.specs.declared.Verdict.{Verdict}
use Rattle.std.specs.Prelude.{Result, Ok, Err}
use Rattle.reader.specs.Answer.{why_of, fault_of, why_number, answer_of, in_numbers_of}

-- ---- answers

-- A fault's number is that of the meaning's.
pub number-kept : (w : Why) → why_number (why_of w) ≡ number_of w
number-kept bad_size = refl
number-kept bad_version = refl
number-kept bad_length = refl
number-kept bad_letters = refl
number-kept too_many_records = refl
number-kept record_missing = refl
number-kept bad_shape = refl
number-kept bad_literal = refl
number-kept not_rising = refl
number-kept surplus = refl

-- The reader's answer r, known to be a fault f, is so in numbers, and the fault's place is small.
pub record Faulty (s : List ℕ) (f : F.Fault) : Type 0 where
  pub small : f.at ≤ 4096
  pub reads : Err (record { answer = why_number f.why; place = f.at }) ≡ in_numbers_of (first_fault s)

pub reads-faulty : (s : List ℕ) {r : Result (Unit {0}) F.Fault} {f : F.Fault} → r ≡ answer_of (first_fault s) → r ≡ Err f → Faulty s f
reads-faulty s {r} {f} e same = by (first_fault s) refl (sym e ∙ same)
  where
    by : (o : Option Fault) → first_fault s ≡ o → answer_of o ≡ Err f → Faulty s f
    by none q bad = let z : ◌≡◌ {A = ℕ} 0 1 = cc in absurd (omega arith)
    by (some g) q bad =
        let same : fault_of g ≡ f = cc in
        let faulty : Faulty s (fault_of g) = record {
          small = place-within s q;
          reads = ap (λ (n : ℕ). Err (record { answer = n; place = g.at })) (number-kept g.why) ∙ ap in_numbers_of (sym q);
        } in
        subst (Faulty s) same faulty

-- v is the number and the place of the sheet's first fault
pub record Refusal (s : List ℕ) (v : Verdict) : Type 0 where
  pub fault : Fault
  pub first : first_fault s ≡ some fault
  pub number : v.answer ≡ number_of fault.why
  pub place : v.place ≡ fault.at

-- what a call is told of a sheet: it is good, or refused so
abbrev pub Tells : List ℕ → Result (Unit {0}) Verdict → Type 0
Tells s (Ok tt) = first_fault s ≡ none
Tells s (Err v) = Refusal s v

-- What is told, r, known to be x, says so: good, or this number and this place.
pub told : (s : List ℕ) {r x : Result (Unit {0}) Verdict} → r ≡ in_numbers_of (first_fault s) → r ≡ x → Tells s x
told s {r} e same = subst (Tells s) (sym e ∙ same) (by (first_fault s) refl)
  where
    by : (o : Option Fault) → first_fault s ≡ o → Tells s (in_numbers_of (first_fault s))
    by none q = subst (λ (o : Option Fault). Tells s (in_numbers_of o)) (sym q) q
    by (some f) q =
        let refusal : Refusal s (record { answer = number_of f.why; place = f.at }) =
        record { fault = f; first = q; number = refl; place = refl } in
        subst (λ (o : Option Fault). Tells s (in_numbers_of o)) (sym q) refusal

-- In numbers: 0 and 0 for a good sheet, or those of its first fault.
pub placed-good : (s : List ℕ) → first_fault s ≡ none → ReadPlaced s 0 0
unfolding ReadPlaced ReadSays read_number place_of
placed-good s good = record { number = ap read_number (sym good); where_met = ap place_of (sym good) }

pub placed-refused : (s : List ℕ) {v : Verdict} → Refusal s v → ReadPlaced s v.answer v.place
unfolding ReadPlaced ReadSays read_number place_of
placed-refused s bad =
    record { number = bad.number ∙ ap read_number (sym bad.first); where_met = bad.place ∙ ap place_of (sym bad.first) }

-- Two answers that meet the reader's promise are the same answer.
pub read-answer-unique : (s : List ℕ) {r r' : Result (Unit {0}) F.Fault} → r ≡ answer_of (first_fault s) → r' ≡ answer_of (first_fault s)
    → r ≡ r'
read-answer-unique s e e' = e ∙ sym e'

-- ---- checks in a row

-- Two checks find nothing exactly if each does; a check that finds nothing has passed.
pub then-none : (a b : Option Fault) → (a then b) ≡ none → (a ≡ none) × (b ≡ none)
then-none none b e = (refl, e)
then-none (some f) b e = let z : ◌≡◌ {A = ℕ} 0 1 = cc in absurd (omega arith)

pub passed : (t : Bool) (why : Why) (at : ℕ) → unless t why at ≡ none → t ≡ true
passed true why at e = refl
passed false why at e = let z : ◌≡◌ {A = ℕ} 0 1 = cc in absurd (omega arith)

-- a check that passed, and what follows it
pub first-passed : (t : Bool) (why : Why) (at : ℕ) (later : Option Fault) → (unless t why at then later) ≡ none → (t ≡ true)
    × (later ≡ none)
first-passed t why at later e = let both = then-none (unless t why at) later e in (passed t why at both.0, both.1)

-- ---- literals

-- A literal that names one of n letters: its letter.
pub names-letter : (n b : ℕ) → names n b ≡ true → (1 ≤ size b) × (size b ≤ n)
unfolding names
names-letter n b e = bounds 1 (size b) (size b) n e

-- -128 names no letter.
pub not_least : (n b : ℕ) → n < 128 → names n b ≡ true → b ≡ 128 → ⊥
unfolding size positive
not_least n b h e q =
    let k : size 128 ≤ n = subst (λ (x : ℕ). size x ≤ n) q (names-letter n b e).1 in
    omega arith

-- a list without fault: each literal names a letter, and they ascend strictly as signed numbers
pub record LiteralsGood (n : ℕ) (ls : List ℕ) : Type 0 where
  pub named : (j : ℕ) → j < length ls → names n (get_or ls j 0) ≡ true
  pub rising : (j : ℕ) → suc j < length ls → signed_below (get_or ls j 0) (get_or ls (suc j) 0) ≡ true

first_above :
    (n at before : ℕ) (ls : List ℕ) → literals_fault n at before ls ≡ none → 0 < length ls → signed_below before (get_or ls 0 0) ≡ true
unfolding literals_fault
first_above n at before [] e h = absurd (omega arith)
first_above n at before (b ∷ bs) e h =
    let rest = first-passed (names n b) bad_literal at _ e in
    (first-passed (signed_below before b) not_rising at _ rest.1).0

more-good :
    (n b : ℕ) (bs : List ℕ) → names n b ≡ true → (0 < length bs → signed_below b (get_or bs 0 0) ≡ true) → LiteralsGood n bs
    → LiteralsGood n (b ∷ bs)
more-good n b bs e first rest = record { named = named; rising = rising }
  where
    named : (j : ℕ) → j < suc (length bs) → names n (get_or (b ∷ bs) j 0) ≡ true
    named zero h = e
    named (suc j) h = rest.named j (omega arith)

    rising : (j : ℕ) → suc j < suc (length bs) → signed_below (get_or (b ∷ bs) j 0) (get_or bs j 0) ≡ true
    rising zero h = first (omega arith)
    rising (suc j) h = rest.rising j (omega arith)

literals-good : (n at before : ℕ) (ls : List ℕ) → literals_fault n at before ls ≡ none → LiteralsGood n ls
unfolding literals_fault
literals-good n at before [] e = record { named = λ j h. absurd (omega arith); rising = λ j h. absurd (omega arith) }
literals-good n at before (b ∷ bs) e =
    let here = first-passed (names n b) bad_literal at _ e in
    let rest = (first-passed (signed_below before b) not_rising at _ here.1).1 in
    more-good n b bs here.0 (first_above n (suc at) b bs rest) (literals-good n (suc at) b bs rest)

-- A list that reads without fault is good.
pub list-good : (n at : ℕ) (ls : List ℕ) → list_fault n at ls ≡ none → LiteralsGood n ls
unfolding list_fault
list-good n at ls e = literals-good n at 128 ls e

-- ---- a record of each kind that reads without fault

pub record LimitGood (n : ℕ) (body : List ℕ) : Type 0 where
  pub long : 2 ≤ length body
  pub kind : get_or body 0 0 ≤ 1
  pub among : LiteralsGood n (limit_of body).among

pub record StepGood (n : ℕ) (body : List ℕ) : Type 0 where
  pub long : 1 ≤ length body
  pub count : get_or body 0 0 ≤ length body - 1
  pub left : LiteralsGood n (step_of body).left
  pub right : LiteralsGood n (step_of body).right

pub record PromiseGood (n : ℕ) (body : List ℕ) : Type 0 where
  pub one : length body ≡ 1
  pub literal : names n (promise_of body) ≡ true

-- A limit has a kind and a bound, and its literals are good.
pub limit-good : (n at : ℕ) (body : List ℕ) → record_fault a_limit n at body ≡ none → LimitGood n body
unfolding record_fault
limit-good n at body e =
    let shape = first-passed (leb 2 (length body) && leb (get_or body 0 0) 1) bad_shape at _ e in
    let shaped = bounds 2 (length body) (get_or body 0 0) 1 shape.0 in
    record { long = shaped.0; kind = shaped.1; among = list-good n (at + 3) (limit_of body).among shape.1 }

-- A first rule's literals are good.
pub first_good : (n at : ℕ) (body : List ℕ) → record_fault a_first n at body ≡ none → LiteralsGood n body
unfolding record_fault
first_good n at body e = list-good n (at + 1) body e

-- A step rule's count is within its record, and both its sides are good.
pub step-good : (n at : ℕ) (body : List ℕ) → record_fault a_step n at body ≡ none → StepGood n body
unfolding record_fault
step-good n at body e =
    let shape = first-passed (leb 1 (length body) && leb (get_or body 0 0) (length body - 1)) bad_shape at _ e in
    let shaped = bounds 1 (length body) (get_or body 0 0) (length body - 1) shape.0 in
    let sides = then-none (list_fault n (at + 2) (step_of body).left) (list_fault n (at + 2 + get_or body 0 0) (step_of body).right)
    shape.1 in
    record {
      long = shaped.0;
      count = shaped.1;
      left = list-good n (at + 2) (step_of body).left sides.0;
      right = list-good n (at + 2 + get_or body 0 0) (step_of body).right sides.1;
    }

-- A promise is one literal, which names a letter.
pub promise-good : (n at : ℕ) (body : List ℕ) → record_fault a_promise n at body ≡ none → PromiseGood n body
unfolding record_fault promise_of
promise-good n at body e =
    let shape = first-passed (eqb (length body) 1) bad_shape at _ e in
    let one = eqb-true (length body) 1 shape.0 in
    record { one = one; literal = (list-good n (at + 1) body shape.1).named 0 (omega arith) }

-- ---- a section of records

-- one record, its length byte at `at`: it lies within the sheet, its own bytes are as many as it says, and it has no fault
pub record RecordGood (kind : Kind) (n : ℕ) (s : List ℕ) (at : ℕ) : Type 0 where
  pub fits : next_at s at ≤ length s
  pub sized : length (body_at s at) ≡ byte s at
  pub faultless : record_fault kind n at (body_at s at) ≡ none

-- A record's own bytes are as many as its length byte says, where they fit.
pub length-body : (s : List ℕ) (at : ℕ) → next_at s at ≤ length s → length (body_at s at) ≡ byte s at
unfolding body_at next_at
length-body s at h =
    let room : byte s at ≤ length (drop (suc at) s) = omega (arith, length-drop (suc at) s) in
    length-take-le (byte s at) (drop (suc at) s) room

-- A record's own bytes stand behind its length byte.
pub body-byte : (s : List ℕ) (at j : ℕ) → j < byte s at → get_or (body_at s at) j 0 ≡ byte s (suc at + j)
unfolding body_at byte
body-byte s at j h = get_or-take (get_or s at 0) (drop (suc at) s) j 0 h ∙ get_or-drop (suc at) s j 0

-- One more record is one more step from the end.
pub after_more : (s : List ℕ) (i at : ℕ) → after_at s (suc i) at ≡ next_at s (after_at s i at)
unfolding after_at
after_more s zero at = refl
after_more s (suc i) at = after_more s i (next_at s at)

-- The i-th record of a section that reads without fault is good.
pub record-good :
    (kind : Kind) (n : ℕ) (s : List ℕ) (count at : ℕ) → records_fault kind n s count at ≡ none
    → (i : ℕ) → i < count → RecordGood kind n s (after_at s i at)
unfolding records_fault after_at
record-good kind n s zero at e i h = absurd (omega arith)
record-good kind n s (suc count) at e zero h =
    let room = first-passed (leb (next_at s at) (length s)) record_missing at _ e in
    let here = then-none (record_fault kind n at (body_at s at)) (records_fault kind n s count (next_at s at)) room.1 in
    let fits = leb-true (next_at s at) (length s) room.0 in
    record { fits = fits; sized = length-body s at fits; faultless = here.0 }
record-good kind n s (suc count) at e (suc i) h =
    let room = first-passed (leb (next_at s at) (length s)) record_missing at _ e in
    let here = then-none (record_fault kind n at (body_at s at)) (records_fault kind n s count (next_at s at)) room.1 in
    record-good kind n s count (next_at s at) here.1 i (omega arith)

-- Such a section's records begin and end within the sheet.
pub after-within :
    (kind : Kind) (n : ℕ) (s : List ℕ) (count at : ℕ) → records_fault kind n s count at ≡ none → at ≤ length s
    → (i : ℕ) → i ≤ count → after_at s i at ≤ length s
unfolding after_at
after-within kind n s count at e w zero h = w
after-within kind n s count at e w (suc i) h =
    subst (λ (x : ℕ). x ≤ length s) (sym (after_more s i at)) (record-good kind n s count at e i (omega arith)).fits

-- There are as many bodies as records.
pub length-bodies : (s : List ℕ) (count at : ℕ) → length (bodies s count at) ≡ count
unfolding bodies
length-bodies s zero at = refl
length-bodies s (suc count) at = ap suc (length-bodies s count (next_at s at))

-- The i-th body is that of the i-th record.
pub bodies-at : (s : List ℕ) (count at i : ℕ) → i < count → get_or (bodies s count at) i [] ≡ body_at s (after_at s i at)
unfolding bodies after_at
bodies-at s zero at i h = absurd (omega arith)
bodies-at s (suc count) at zero h = refl
bodies-at s (suc count) at (suc i) h = bodies-at s count (next_at s at) i (omega arith)

-- ---- the whole sheet

pub record Header (s : List ℕ) : Type 0 where
  pub least : 8 ≤ length s
  pub most : length s ≤ 4096
  pub version : version_in s ≡ 1
  pub stated : length_in s ≡ length s
  pub some_letter : 1 ≤ letters_in s
  pub few-letters : letters_in s ≤ most_letters
  pub few_limits : limits_in s ≤ 32
  pub few-promises : promises_in s ≤ 16
  pub limits_read : records_fault a_limit (letters_in s) s (limits_in s) records_at ≡ none
  pub firsts_read : records_fault a_first (letters_in s) s (firsts_in s) (firsts_at s) ≡ none
  pub steps_read : records_fault a_step (letters_in s) s (steps_in s) (steps_at s) ≡ none
  pub promises_read : records_fault a_promise (letters_in s) s (promises_in s) (promises_at s) ≡ none
  pub whole : end_at s ≡ length s

-- A good sheet's header is within its bounds, and its sections read without fault to its end.
pub good-header : (s : List ℕ) → first_fault s ≡ none → Header s
unfolding first_fault
good-header s e =
    let p1 = first-passed (leb 8 (length s) && leb (length s) 4096) bad_size 0 _ e in
    let p2 = first-passed (eqb (version_in s) 1) bad_version version_byte _ p1.1 in
    let p3 = first-passed (eqb (length_in s) (length s)) bad_length length_byte _ p2.1 in
    let p4 = first-passed (leb 1 (letters_in s) && leb (letters_in s) most_letters) bad_letters letters_byte _ p3.1 in
    let p5 = first-passed (leb (limits_in s) 32) too_many_records limits_byte _ p4.1 in
    let p6 = first-passed (leb (promises_in s) 16) too_many_records promises_byte _ p5.1 in
    let p7 = then-none (records_fault a_limit (letters_in s) s (limits_in s) records_at) _ p6.1 in
    let p8 = then-none (records_fault a_first (letters_in s) s (firsts_in s) (firsts_at s)) _ p7.1 in
    let p9 = then-none (records_fault a_step (letters_in s) s (steps_in s) (steps_at s)) _ p8.1 in
    let p10 = then-none (records_fault a_promise (letters_in s) s (promises_in s) (promises_at s)) _ p9.1 in
    let sizes = bounds 8 (length s) (length s) 4096 p1.0 in
    let letters = bounds 1 (letters_in s) (letters_in s) most_letters p4.0 in
    record {
      least = sizes.0;
      most = sizes.1;
      version = eqb-true (version_in s) 1 p2.0;
      stated = eqb-true (length_in s) (length s) p3.0;
      some_letter = letters.0;
      few-letters = letters.1;
      few_limits = leb-true (limits_in s) 32 p5.0;
      few-promises = leb-true (promises_in s) 16 p6.0;
      limits_read = p7.0;
      firsts_read = p8.0;
      steps_read = p9.0;
      promises_read = p10.0;
      whole = eqb-true (end_at s) (length s) (passed (eqb (end_at s) (length s)) surplus (end_at s) p10.1);
    }

-- the sections of a good sheet, record by record
module _ (s : List ℕ) (good : Header s) where
  pub limit-record : (i : ℕ) → i < limits_in s → RecordGood a_limit (letters_in s) s (after_at s i records_at)
  limit-record = record-good a_limit (letters_in s) s (limits_in s) records_at good.limits_read

  pub first-record : (i : ℕ) → i < firsts_in s → RecordGood a_first (letters_in s) s (after_at s i (firsts_at s))
  first-record = record-good a_first (letters_in s) s (firsts_in s) (firsts_at s) good.firsts_read

  pub step-record : (i : ℕ) → i < steps_in s → RecordGood a_step (letters_in s) s (after_at s i (steps_at s))
  step-record = record-good a_step (letters_in s) s (steps_in s) (steps_at s) good.steps_read

  pub promise-record : (i : ℕ) → i < promises_in s → RecordGood a_promise (letters_in s) s (after_at s i (promises_at s))
  promise-record = record-good a_promise (letters_in s) s (promises_in s) (promises_at s) good.promises_read

  -- each section begins within the sheet
  pub firsts-within : firsts_at s ≤ length s
  unfolding firsts_at
  firsts-within = after-within a_limit (letters_in s) s (limits_in s) records_at good.limits_read good.least (limits_in s) (omega arith)

  pub steps-within : steps_at s ≤ length s
  unfolding steps_at
  steps-within =
      after-within a_first (letters_in s) s (firsts_in s) (firsts_at s) good.firsts_read firsts-within (firsts_in s) (omega arith)

  pub promises-within : promises_at s ≤ length s
  unfolding promises_at
  promises-within =
      after-within a_step (letters_in s) s (steps_in s) (steps_at s) good.steps_read steps-within (steps_in s) (omega arith)

-- ---- the decoding, by number

get_or-map-in : {A B : Type 0} (f : A → B) (l : List A) (i : ℕ) (d : B) (e : A) → i < length l → get_or (map f l) i d ≡ f (get_or l i e)
get_or-map-in f [] i d e h = absurd (omega arith)
get_or-map-in f (x ∷ xs) zero d e h = refl
get_or-map-in f (x ∷ xs) (suc i) d e h = get_or-map-in f xs i d e (omega arith)

rule-at :
    {A : Type 0} (f : List ℕ → A) (s : List ℕ) (count at i : ℕ) (d : A) → i < count
    → get_or (map f (bodies s count at)) i d ≡ f (body_at s (after_at s i at))
rule-at f s count at i d h =
    get_or-map-in f (bodies s count at) i d [] (subst (λ (l : ℕ). i < l) (sym (length-bodies s count at)) h) ∙ ap f (bodies-at s count at i h)

rule-count : {A : Type 0} (f : List ℕ → A) (s : List ℕ) (count at : ℕ) → length (map f (bodies s count at)) ≡ count
rule-count f s count at = length-map (bodies s count at) f ∙ length-bodies s count at

-- The i-th limit, first rule, step rule and promise, each from its own record.
pub limit-at : (s : List ℕ) (i : ℕ) (d : Limit) → i < limits_in s → get_or (decode s).limits i d ≡ limit_of (body_at s (after_at s i records_at))
unfolding decode
limit-at s i d h = rule-at limit_of s (limits_in s) records_at i d h

pub first-at : (s : List ℕ) (i : ℕ) → i < firsts_in s → get_or (decode s).firsts i [] ≡ body_at s (after_at s i (firsts_at s))
unfolding decode
first-at s i h = bodies-at s (firsts_in s) (firsts_at s) i h

pub step-at : (s : List ℕ) (i : ℕ) (d : StepRule) → i < steps_in s → get_or (decode s).steps i d ≡ step_of (body_at s (after_at s i (steps_at s)))
unfolding decode
step-at s i d h = rule-at step_of s (steps_in s) (steps_at s) i d h

pub promise-at : (s : List ℕ) (i d : ℕ) → i < promises_in s
    → get_or (decode s).promises i d ≡ promise_of (body_at s (after_at s i (promises_at s)))
unfolding decode
promise-at s i d h = rule-at promise_of s (promises_in s) (promises_at s) i d h

-- How many there are of each, and of letters.
pub limits-count : (s : List ℕ) → length (decode s).limits ≡ limits_in s
unfolding decode
limits-count s = rule-count limit_of s (limits_in s) records_at

pub firsts-count : (s : List ℕ) → length (decode s).firsts ≡ firsts_in s
unfolding decode
firsts-count s = length-bodies s (firsts_in s) (firsts_at s)

pub steps-count : (s : List ℕ) → length (decode s).steps ≡ steps_in s
unfolding decode
steps-count s = rule-count step_of s (steps_in s) (steps_at s)

pub promises-count : (s : List ℕ) → length (decode s).promises ≡ promises_in s
unfolding decode
promises-count s = rule-count promise_of s (promises_in s) (promises_at s)

pub letters-count : (s : List ℕ) → (decode s).letters ≡ byte s letters_byte
unfolding decode letters_in
letters-count s = refl
