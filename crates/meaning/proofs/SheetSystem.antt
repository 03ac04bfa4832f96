-- The system of a sheet: its states lie below 2 to the power of its letters and all its tests can be made, so the theorems that something
-- exists apply to it; what is reached in it is lawful; and a good sheet has at most 24 letters and at most 16 promises. Assumes nothing.
use mathlib.Core.Path.{◌≡◌, refl, ap}
use mathlib.Core.Bool.{Bool, true, false, ◌&&◌}
use mathlib.Core.Option.{Option, none, some}
use mathlib.Core.List.{List}
use Prim.Native.Nat.{ℕ, zero, suc, ◌+◌, ◌*◌, ◌^◌, ◌≤◌}
use native.Mathlib.Omega.{arith}
use lib.Dec.{T, leb, eqb, leb→le}
use lib.ListN.{length, length-map}
use Rattle.meaning.specs.System.{Finite, Reachable}
use Rattle.meaning.specs.Sheet.{
  Why,
  bad_size,
  bad_version,
  bad_length,
  bad_letters,
  too_many_records,
  Fault,
  unless,
  ◌then◌,
  byte,
  next_at,
  bodies,
  letters_in,
  least_bytes,
  most_bytes_of_a_sheet,
  most_letters,
  most_limits,
  most_promises,
  first_fault,
  Sheet,
  decode,
}
use Rattle.meaning.specs.Rules.{lawful, first_state, moves, kept, system_of}
use Rattle.meaning.specs.Promises.{system_in}
use Rattle.meaning.proofs.Parts.{T?, and_parts, lawful-below, first-parts, move-parts}

-- The system of a sheet is finite.
pub finite-of : (sheet : Sheet) → Finite (system_of sheet)
unfolding system_of
finite-of sheet = record {
  bound = 2 ^ sheet.letters;
  first_below = λ s t. lawful-below sheet s ((first-parts sheet s).0 t).0;
  move-below = λ s t m. lawful-below sheet t ((move-parts sheet s t).0 m).1;
  lawful? = λ s. T? (lawful sheet s);
  first? = λ s. T? (first_state sheet s);
  move? = λ s t. T? (moves sheet s t);
  kept? = λ k s. T? (kept sheet k s);
}

-- So is the system that stands in a sheet's bytes.
pub finite-in : (bytes : List ℕ) → Finite (system_in bytes)
unfolding system_in
finite-in bytes = finite-of (decode bytes)

-- Its states lie below 2 to the power of the letters.
pub bound-in : (bytes : List ℕ) → (finite-in bytes).bound ≡ 2 ^ (decode bytes).letters
unfolding finite-in finite-of
bound-in bytes = refl

-- What is reached in a sheet's system is lawful.
pub reachable-lawful : (sheet : Sheet) (s : ℕ) → Reachable (system_of sheet) s → (system_of sheet).Lawful s
unfolding system_of
reachable-lawful sheet s (zero, first) = ((first-parts sheet s).0 first).0
reachable-lawful sheet s (suc n, (r, reached, move)) = ((move-parts sheet r s).0 move).1

-- So it is in the system that stands in a sheet's bytes.
pub reachable-lawful-in : (bytes : List ℕ) (s : ℕ) → Reachable (system_in bytes) s → (system_in bytes).Lawful s
unfolding system_in
reachable-lawful-in bytes = reachable-lawful (decode bytes)

-- ---- the numbers of letters and promises

-- where the first of two checks finds nothing, and then the second, both found nothing
first-none : (x y : Option Fault) → x then y ≡ none → x ≡ none
first-none none y e = refl
first-none (some f) y e = e

second_none : (x y : Option Fault) → x then y ≡ none → y ≡ none
second_none none y e = e
second_none (some f) y e = cc

-- a check that finds nothing passed
none_passes : (b : Bool) (why : Why) (at : ℕ) → unless b why at ≡ none → T b
none_passes true why at e = tt
none_passes false why at e = let z : ◌≡◌ {A = ℕ} 0 1 = cc in absurd (omega arith)

-- There are as many bodies as records.
length-bodies : (bytes : List ℕ) (count at : ℕ) → length (bodies bytes count at) ≡ count
unfolding bodies
length-bodies bytes zero at = refl
length-bodies bytes (suc count) at = ap suc (length-bodies bytes count (next_at bytes at))

-- The check on byte 7 passed in a good sheet: it comes behind those on the size, the version, the length, the letters and the limits.
byte-7-checked : (bytes : List ℕ) → first_fault bytes ≡ none → T (leb (byte bytes 7) most_promises)
unfolding first_fault
byte-7-checked bytes e =
    let n : ℕ = length bytes in
    let past-size = second_none (unless (leb least_bytes n && leb n most_bytes_of_a_sheet) bad_size 0) _ e in
    let past-version = second_none (unless (eqb (byte bytes 0) 1) bad_version 0) _ past-size in
    let past-length = second_none (unless (eqb (byte bytes 1 * 256 + byte bytes 2) n) bad_length 1) _ past-version in
    let past-letters = second_none (unless (leb 1 (letters_in bytes) && leb (letters_in bytes) most_letters) bad_letters 3) _ past-length in
    let past-limits = second_none (unless (leb (byte bytes 4) most_limits) too_many_records 4) _ past-letters in
    none_passes (leb (byte bytes 7) most_promises) too_many_records 7 (first-none _ _ past-limits)

-- A good sheet has at most 16 promises.
pub few-promises : (bytes : List ℕ) → first_fault bytes ≡ none → (system_in bytes).promises ≤ most_promises
unfolding system_in system_of decode
few-promises bytes e = rw (length-map, length-bodies) (leb→le (byte bytes 7) most_promises (byte-7-checked bytes e))

-- The check on the letters passed in a good sheet: it comes behind those on the size, the version and the length.
letters-checked : (bytes : List ℕ) → first_fault bytes ≡ none → T (leb 1 (letters_in bytes) && leb (letters_in bytes) most_letters)
unfolding first_fault
letters-checked bytes e =
    let n : ℕ = length bytes in
    let past-size = second_none (unless (leb least_bytes n && leb n most_bytes_of_a_sheet) bad_size 0) _ e in
    let past-version = second_none (unless (eqb (byte bytes 0) 1) bad_version 0) _ past-size in
    let past-length = second_none (unless (eqb (byte bytes 1 * 256 + byte bytes 2) n) bad_length 1) _ past-version in
    none_passes (leb 1 (letters_in bytes) && leb (letters_in bytes) most_letters) bad_letters 3 (first-none _ _ past-length)

-- A good sheet has at most 24 letters.
pub few-letters : (bytes : List ℕ) → first_fault bytes ≡ none → (decode bytes).letters ≤ most_letters
unfolding decode
few-letters bytes e = leb→le (letters_in bytes) most_letters ((and_parts (leb 1 (letters_in bytes)) _).0 (letters-checked bytes e)).1
