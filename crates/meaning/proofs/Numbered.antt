-- The reader's numbers and places, line by line of document 01's table with document 02's places: the number is n and the place q exactly
-- if the n-th line holds of the sheet's bytes at q (read-1-exactly to read-10-exactly), and 0 exactly for a good sheet (read-0-exactly).
-- The judge and both checkers pass on the reader's number and place unaltered (judge-passes-on, run-passes-on, strikes-pass-on). Assumes
-- nothing.
use mathlib.Core.Path.{◌≡◌, refl, sym, ◌∙◌, ap, subst}
use mathlib.Core.Logic.{◌↔◌}
use mathlib.Core.Bool.{cond}
use mathlib.Core.Option.{Option, none, some}
use mathlib.Core.List.{List}
use Prim.Native.Nat.{ℕ, ◌≤◌}
use native.Mathlib.Omega.{arith}
use lib.Dec.{eqb}
use lib.ListN.{length}
use Rattle.meaning.specs.System.{System}
use Rattle.meaning.specs.Sheet.{
  Why,
  bad_size,
  bad_version,
  bad_length,
  bad_letters,
  too_many_records,
  record_missing,
  bad_shape,
  bad_literal,
  not_rising,
  surplus,
  number_of,
  Fault,
  first_fault,
}
use Rattle.meaning.specs.Faults.{
  GoodUpTo,
  records_in,
  start_of,
  Fault1,
  Fault2,
  Fault3,
  Fault4,
  Fault5,
  Fault6,
  Fault7,
  Fault8,
  Fault9,
  Fault10,
}
use Rattle.meaning.specs.Promises.{
  read_number,
  ReadSays,
  place_of,
  Placed,
  ReadPlaced,
  Checked,
  faulty,
  accepted,
  refused,
  RunChecked,
  StrikesChecked,
  RunPlaced,
  StrikesPlaced,
  Lent,
  Outcome,
  Judged,
}
use Rattle.meaning.proofs.Promised.{bad-not-good, same-fault}
use Rattle.meaning.proofs.Placing.{
  fault-1-exactly,
  fault-2-exactly,
  fault-3-exactly,
  fault-4-exactly,
  fault-5-exactly,
  fault-6-exactly,
  fault-7-exactly,
  fault-8-exactly,
  fault-9-exactly,
  fault-10-exactly,
  good-exactly,
}
use Rattle.meaning.proofs.Demands.{fault-number, answers-fault-exactly}

-- ---- a number stands for one fault

-- the fault that a number of the table stands for
fault_of : ℕ → Why
fault_of n =
    cond (eqb n 1) bad_size
    (cond (eqb n 2) bad_version
    (cond (eqb n 3) bad_length
    (cond (eqb n 4) bad_letters
    (cond (eqb n 5) too_many_records
    (cond (eqb n 6) record_missing (cond (eqb n 7) bad_shape (cond (eqb n 8) bad_literal (cond (eqb n 9) not_rising surplus))))))))

fault-of-number : (w : Why) → fault_of (number_of w) ≡ w
unfolding fault_of
fault-of-number bad_size = refl
fault-of-number bad_version = refl
fault-of-number bad_length = refl
fault-of-number bad_letters = refl
fault-of-number too_many_records = refl
fault-of-number record_missing = refl
fault-of-number bad_shape = refl
fault-of-number bad_literal = refl
fault-of-number not_rising = refl
fault-of-number surplus = refl

-- Two faults of one number are one fault.
one_number : {w v : Why} → number_of w ≡ number_of v → w ≡ v
one_number {w} {v} e = sym (fault-of-number w) ∙ ap fault_of e ∙ fault-of-number v

-- ---- the reader

-- The reader's number and place are a fault's exactly if that is the sheet's first fault, met there.
read-fault : (s : List ℕ) (w : Why) (q : ℕ) → ReadPlaced s (number_of w) q ↔ (first_fault s ≡ some (record { why = w; at = q }))
unfolding ReadPlaced ReadSays read_number place_of
read-fault s w q = (to, λ e. record { number = sym (ap read_number e); where_met = sym (ap place_of e) })
  where
    by : (o : Option Fault) → first_fault s ≡ o → number_of w ≡ read_number o → q ≡ place_of o
        → first_fault s ≡ some (record { why = w; at = q })
    by none e n p = absurd (omega (arith, n, fault-number w))
    by (some f) e n p =
        let why : w ≡ f.why = one_number n in
        e ∙ ap (λ (x : Why). some (record { why = x; at = f.at })) (sym why) ∙ ap (λ (x : ℕ). some (record { why = w; at = x })) (sym p)

    to : ReadPlaced s (number_of w) q → first_fault s ≡ some (record { why = w; at = q })
    to r = by (first_fault s) refl r.number r.where_met

joined : {A B C : Type 0} → A ↔ B → B ↔ C → A ↔ C
joined f g = (λ a. g.0 (f.0 a), λ c. f.1 (g.1 c))

-- 1 "below 8 or above 4,096 bytes", at 0
pub read-1-exactly : (s : List ℕ) (q : ℕ) → ReadPlaced s 1 q ↔ Fault1 s q
read-1-exactly s q = joined (read-fault s bad_size q) (fault-1-exactly s q)

-- 2 "version not 1", at byte 0
pub read-2-exactly : (s : List ℕ) (q : ℕ) → ReadPlaced s 2 q ↔ Fault2 s q
read-2-exactly s q = joined (read-fault s bad_version q) (fault-2-exactly s q)

-- 3 "stated length differs", at byte 1
pub read-3-exactly : (s : List ℕ) (q : ℕ) → ReadPlaced s 3 q ↔ Fault3 s q
read-3-exactly s q = joined (read-fault s bad_length q) (fault-3-exactly s q)

-- 4 "n not 1 to 24", at byte 3
pub read-4-exactly : (s : List ℕ) (q : ℕ) → ReadPlaced s 4 q ↔ Fault4 s q
read-4-exactly s q = joined (read-fault s bad_letters q) (fault-4-exactly s q)

-- 5 "over 32 limits or 16 promises", at byte 4 before byte 7
pub read-5-exactly : (s : List ℕ) (q : ℕ) → ReadPlaced s 5 q ↔ Fault5 s q
read-5-exactly s q = joined (read-fault s too_many_records q) (fault-5-exactly s q)

-- 6 "record missing or past the end", at its length byte
pub read-6-exactly : (s : List ℕ) (q : ℕ) → ReadPlaced s 6 q ↔ Fault6 s q
read-6-exactly s q = joined (read-fault s record_missing q) (fault-6-exactly s q)

-- 7 "bad shape", at the record's length byte
pub read-7-exactly : (s : List ℕ) (q : ℕ) → ReadPlaced s 7 q ↔ Fault7 s q
read-7-exactly s q = joined (read-fault s bad_shape q) (fault-7-exactly s q)

-- 8 "literal zero or size above n", at the literal
pub read-8-exactly : (s : List ℕ) (q : ℕ) → ReadPlaced s 8 q ↔ Fault8 s q
read-8-exactly s q = joined (read-fault s bad_literal q) (fault-8-exactly s q)

-- 9 "list not strictly ascending", at the literal
pub read-9-exactly : (s : List ℕ) (q : ℕ) → ReadPlaced s 9 q ↔ Fault9 s q
read-9-exactly s q = joined (read-fault s not_rising q) (fault-9-exactly s q)

-- 10 "bytes after the last record", at the first of them
pub read-10-exactly : (s : List ℕ) (q : ℕ) → ReadPlaced s 10 q ↔ Fault10 s q
read-10-exactly s q = joined (read-fault s surplus q) (fault-10-exactly s q)

-- 0 for a good sheet, with place 0.
pub read-0-exactly : (s : List ℕ) (q : ℕ) → ReadPlaced s 0 q ↔ ((GoodUpTo s (records_in s) × (start_of s (records_in s) ≡ length s)) × (q ≡ 0))
unfolding ReadPlaced ReadSays read_number place_of
read-0-exactly s q = (
  to,
  λ w. let e = (good-exactly s).1 w.0 in record {
    number = sym (ap read_number e);
    where_met = w.1
        ∙ sym (ap place_of e);
  },
)
  where
    by : (o : Option Fault) → first_fault s ≡ o → 0 ≡ read_number o → q ≡ place_of o
        → (GoodUpTo s (records_in s) × (start_of s (records_in s) ≡ length s)) × (q ≡ 0)
    by none e n p = ((good-exactly s).0 e, p)
    by (some f) e n p = absurd (omega (arith, n, fault-number f.why))

    to : ReadPlaced s 0 q → (GoodUpTo s (records_in s) × (start_of s (records_in s) ≡ length s)) × (q ≡ 0)
    to r = by (first_fault s) refl r.number r.where_met

-- ---- "passed on unaltered"

-- A number of the reader from 1 on is a fault's.
read_some : (s : List ℕ) {n q : ℕ} → ReadPlaced s n q → 1 ≤ n → (f : Fault) × (first_fault s ≡ some f) × (number_of f.why ≡ n)
    × (f.at ≡ q)
unfolding ReadPlaced ReadSays read_number place_of
read_some s {n} {q} r low = by (first_fault s) refl r.number r.where_met
  where
    by : (o : Option Fault) → first_fault s ≡ o → n ≡ read_number o → q ≡ place_of o
        → (f : Fault) × (first_fault s ≡ some f) × (number_of f.why ≡ n) × (f.at ≡ q)
    by none e m p = absurd (omega (arith, m))
    by (some f) e m p = (f, e, sym m, sym p)

-- The judge passes the reader's number and place on.
pub judge-passes-on : {sheet : List ℕ} {lent : Lent} {o : Outcome} {n q : ℕ} → Judged sheet lent o → ReadPlaced sheet n q → 1 ≤ n
    → (o.answer ≡ n) × (o.place ≡ q)
judge-passes-on {sheet} {n = n} {q} j r low =
    let (f, e, number, place) = read_some sheet r low in
    (answers-fault-exactly j n q low (omega (arith, fault-number f.why))).1 (f, e, number, place)

-- So does a checker, whatever the paper.
checker-passes-on : {sheet : List ℕ} {Ok : System → Type 0} {m p n q : ℕ} → Placed sheet (Checked sheet Ok) m p → ReadPlaced sheet n q
    → 1 ≤ n
    → (m ≡ n) × (p ≡ q)
unfolding ReadPlaced
checker-passes-on {sheet} {Ok} {m} {p} {n} {q} c r low = (by c.number (read_some sheet r low), c.where_met ∙ sym r.where_met)
  where
    by : Checked sheet Ok m → (f : Fault) × (first_fault sheet ≡ some f) × (number_of f.why ≡ n) × (f.at ≡ q) → m ≡ n
    by (faulty g e' k) (f, e, number, place) = k ∙ ap (λ (x : Fault). number_of x.why) (same-fault e' e) ∙ number
    by (accepted good ok k) (f, e, number, place) = absurd (bad-not-good e good)
    by (refused good never k) (f, e, number, place) = absurd (bad-not-good e good)

pub run-passes-on : (sheet states : List ℕ) (a : ℕ) {m p n q : ℕ} → RunPlaced sheet states a m p → ReadPlaced sheet n q → 1 ≤ n → (m ≡ n)
    × (p ≡ q)
unfolding RunPlaced RunChecked
run-passes-on sheet states a c r low = checker-passes-on c r low

pub strikes-pass-on : (sheet states words : List ℕ) {m p n q : ℕ} → StrikesPlaced sheet states words m p → ReadPlaced sheet n q → 1 ≤ n
    → (m ≡ n) × (p ≡ q)
unfolding StrikesPlaced StrikesChecked
strikes-pass-on sheet states words c r low = checker-passes-on c r low
