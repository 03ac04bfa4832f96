-- A sheet's bytes: the first fault of a bad sheet, and what a good sheet says. Document 01, "Sheets, byte by byte", and the numbers 1 to
-- 10 of its table. Every check stands here once, in reading order; a check's number is its line in the table. Assumes nothing.
use Rattle.std.specs.Prelude.{Bool, true, false, cond, ◌&&◌, List, [], ◌∷◌, map, ℕ, zero, suc, ◌+◌, ◌-◌, ◌*◌, ◌%◌, leb, ltb, eqb, length, get_or, take, drop}
use Rattle.std.proofs.Math.Option.{Option, none, some}

-- ---- what can be wrong

pub data Why : Type 0 where
  bad_size bad_version bad_length bad_letters too_many_records record_missing bad_shape bad_literal not_rising surplus : Why

-- the table's numbers 1 to 10
abbrev pub number_of : Why → ℕ
number_of bad_size = 1
number_of bad_version = 2
number_of bad_length = 3
number_of bad_letters = 4
number_of too_many_records = 5
number_of record_missing = 6
number_of bad_shape = 7
number_of bad_literal = 8
number_of not_rising = 9
number_of surplus = 10

-- A fault and the byte where it was met: "0 for 1, the header byte for 2 to 5 (byte 1 for 3, the limit count before the promise count for
-- 5), the record's length byte for 6 and 7 (the sheet's length if that byte is missing), the literal's byte for 8 and 9, the first surplus
-- byte for 10" (document 02, order 1; Faults.antt says each of these of the sheet's bytes).
pub record Fault : Type 0 where
  pub why : Why
  pub at : ℕ

-- one check: nothing, or this fault at this place where the test fails
abbrev pub unless : Bool → Why → ℕ → Option Fault
unless true why at = none
unless false why at = some (record { why = why; at = at })

infixr 10 ◌then◌
-- "Faults are reported in reading order, front to back": the first of two
abbrev pub ◌then◌ : Option Fault → Option Fault → Option Fault
none then later = later
some f then later = some f

-- ---- document 01's numbers

-- "below 8 or above 4,096 bytes", "n not 1 to 24", "over 32 limits or 16 promises"
abbrev pub least_bytes : ℕ
least_bytes = 8

abbrev pub most_bytes_of_a_sheet : ℕ
most_bytes_of_a_sheet = 4096

abbrev pub most_letters : ℕ
most_letters = 24

abbrev pub most_limits : ℕ
most_limits = 32

abbrev pub most_promises : ℕ
most_promises = 16

-- ---- literals

-- "A literal is a signed byte in two's complement: k means letter k holds, minus k means it does not": bytes below 128 are 0 to 127, and
-- byte b from 128 on is b - 256. `positive` is its sign (zero is refused by `names`), `size` its size; the size of -128 is 128.
unfoldable pub positive : ℕ → Bool
positive b = ltb b 128

unfoldable pub size : ℕ → ℕ
unfolding positive
size b = cond (positive b) b (256 - b)

-- "ascend strictly as signed numbers, so -2 stands before -1 before 1": the signed value plus 128 runs from 0 (for -128) to 255 (for 127)
unfoldable pub signed_below : ℕ → ℕ → Bool
signed_below b c = ltb ((b + 128) % 256) ((c + 128) % 256)

-- "k from 1 to n. Zero, and any size above n, is a fault"
unfoldable pub names : ℕ → ℕ → Bool
unfolding size
names n b = leb 1 (size b) && leb (size b) n

-- One list's literals, the first at place `at`: "each literal 8 before 9".
unfoldable pub literals_fault : ℕ → ℕ → ℕ → List ℕ → Option Fault
unfolding names signed_below
literals_fault n at before [] = none
literals_fault n at before (b ∷ bs) =
    unless (names n b) bad_literal at
    then unless (signed_below before b) not_rising at
    then literals_fault n (suc at) b bs

-- Before the first literal stands byte 128, that is -128: below every literal that names a letter.
unfoldable pub list_fault : ℕ → ℕ → List ℕ → Option Fault
unfolding literals_fault
list_fault n at bs = literals_fault n at 128 bs

-- ---- records

pub data Kind : Type 0 where
  a_limit a_first a_step a_promise : Kind

-- what a limit, a first rule, a step rule and a promise say, from a record's own bytes (those after its length byte)
pub record Limit : Type 0 where
  pub exact : Bool
  pub bound : ℕ
  pub among : List ℕ

pub record StepRule : Type 0 where
  pub left : List ℕ
  pub right : List ℕ

-- "a kind (0 exactly, 1 at most), a bound m (any byte), then literals"
unfoldable pub limit_of : List ℕ → Limit
limit_of body = record { exact = eqb (get_or body 0 0) 0; bound = get_or body 1 0; among = drop 2 body }

-- "a count a, then a literals joined by and (the left side), then the rest joined by or (the right side)"
unfoldable pub step_of : List ℕ → StepRule
step_of body = record { left = take (get_or body 0 0) (drop 1 body); right = drop (get_or body 0 0) (drop 1 body) }

-- "one literal"
unfoldable pub promise_of : List ℕ → ℕ
promise_of body = get_or body 0 0

-- "Each record is judged on its own bytes": its fault, where its length byte stands at `at`. "In a record 6, 7, then each literal 8
-- before 9"; 6 is in `records_fault`. "A step rule's two sides are two lists."
unfoldable pub record_fault : Kind → ℕ → ℕ → List ℕ → Option Fault
unfolding limit_of step_of list_fault
record_fault a_limit n at body =
    unless (leb 2 (length body) && leb (get_or body 0 0) 1) bad_shape at
    then list_fault n (at + 3) (limit_of body).among
record_fault a_first n at body = list_fault n (at + 1) body
record_fault a_step n at body =
    unless (leb 1 (length body) && leb (get_or body 0 0) (length body - 1)) bad_shape at
    then list_fault n (at + 2) (step_of body).left
    then list_fault n (at + 2 + get_or body 0 0) (step_of body).right
record_fault a_promise n at body =
    unless (eqb (length body) 1) bad_shape at
    then list_fault n (at + 1) body

-- ---- where things stand

unfoldable pub byte : List ℕ → ℕ → ℕ
byte s i = get_or s i 0

-- "Each begins with one byte, the number of bytes after it in the record": the record's own bytes, and where the next record begins.
unfoldable pub body_at : List ℕ → ℕ → List ℕ
unfolding byte
body_at s at = take (byte s at) (drop (suc at) s)

unfoldable pub next_at : List ℕ → ℕ → ℕ
unfolding byte
next_at s at = suc at + byte s at

-- where `count` records from `at` on end, and their own bytes
unfoldable pub after_at : List ℕ → ℕ → ℕ → ℕ
unfolding next_at
after_at s zero at = at
after_at s (suc count) at = after_at s count (next_at s at)

unfoldable pub bodies : List ℕ → ℕ → ℕ → List (List ℕ)
unfolding body_at next_at
bodies s zero at = []
bodies s (suc count) at = body_at s at ∷ bodies s count (next_at s at)

-- The first fault of `count` records of a kind from `at` on. 6: "record missing or past the end" (past the sheet's end `byte` is 0, so a
-- missing length byte fails the same test).
unfoldable pub records_fault : Kind → ℕ → List ℕ → ℕ → ℕ → Option Fault
unfolding record_fault body_at next_at
records_fault kind n s zero at = none
records_fault kind n s (suc count) at =
    unless (leb (next_at s at) (length s)) record_missing at
    then record_fault kind n at (body_at s at)
    then records_fault kind n s count (next_at s at)

-- "Byte 3 is n, the number of letters .. Bytes 4 to 7 count limits (..), first rules (..), step rules (..), promises (..). The records
-- follow in that order."
unfoldable pub letters_in : List ℕ → ℕ
unfolding byte
letters_in s = byte s 3

unfoldable pub firsts_at : List ℕ → ℕ
unfolding byte after_at
firsts_at s = after_at s (byte s 4) 8

unfoldable pub steps_at : List ℕ → ℕ
unfolding byte after_at firsts_at
steps_at s = after_at s (byte s 5) (firsts_at s)

unfoldable pub promises_at : List ℕ → ℕ
unfolding byte after_at steps_at
promises_at s = after_at s (byte s 6) (steps_at s)

unfoldable pub end_at : List ℕ → ℕ
unfolding byte after_at promises_at
end_at s = after_at s (byte s 7) (promises_at s)

-- ---- the whole sheet

-- The first fault of a sheet, none if it is good: "1 to 5 in that order, then the records; .. 10 last".
unfoldable pub first_fault : List ℕ → Option Fault
unfolding byte letters_in firsts_at steps_at promises_at end_at records_fault
first_fault s =
    unless (leb least_bytes (length s) && leb (length s) most_bytes_of_a_sheet) bad_size 0
    then unless (eqb (byte s 0) 1) bad_version 0
    then unless (eqb (byte s 1 * 256 + byte s 2) (length s)) bad_length 1
    then unless (leb 1 (letters_in s) && leb (letters_in s) most_letters) bad_letters 3
    then unless (leb (byte s 4) most_limits) too_many_records 4
    then unless (leb (byte s 7) most_promises) too_many_records 7
    then records_fault a_limit (letters_in s) s (byte s 4) 8
    then records_fault a_first (letters_in s) s (byte s 5) (firsts_at s)
    then records_fault a_step (letters_in s) s (byte s 6) (steps_at s)
    then records_fault a_promise (letters_in s) s (byte s 7) (promises_at s)
    then unless (eqb (end_at s) (length s)) surplus (end_at s)

-- What a good sheet says; "those of one kind are numbered from 1", in the order in which they stand. (Of a bad sheet `decode` says
-- something too, which no promise uses.)
pub record Sheet : Type 0 where
  pub letters : ℕ
  pub limits : List Limit
  pub firsts : List (List ℕ)
  pub steps : List StepRule
  pub promises : List ℕ

unfoldable pub decode : List ℕ → Sheet
unfolding byte letters_in bodies limit_of step_of promise_of firsts_at steps_at promises_at
decode s = record {
  letters = letters_in s;
  limits = map limit_of (bodies s (byte s 4) 8);
  firsts = bodies s (byte s 5) (firsts_at s);
  steps = map step_of (bodies s (byte s 6) (steps_at s));
  promises = map promise_of (bodies s (byte s 7) (promises_at s));
}
