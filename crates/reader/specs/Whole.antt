-- A sheet's first fault in two parts, as the reader finds it: the header's (faults 1 to 5), then the records' (6 to 10). That they are
-- the meaning's `first_fault` is proved (proofs/Whole.antt). Assumes nothing.
use Rattle.std.specs.Prelude.{◌&&◌, List, ℕ, leb, eqb, length}
use Rattle.std.proofs.Math.Option.{Option}
use Rattle.meaning.specs.Sheet.{bad_size, bad_version, bad_length, bad_letters, too_many_records, surplus, Fault, unless, ◌then◌, letters_in}
use Rattle.meaning.specs.Sheet.{least_bytes, most_bytes_of_a_sheet, most_letters, most_limits, most_promises}
use Rattle.meaning.specs.Sheet.{a_limit, a_first, a_step, a_promise, records_fault, firsts_at, steps_at, promises_at, end_at}
use Rattle.reader.specs.Header.{version_byte, length_byte, letters_byte, limits_byte, promises_byte, records_at}
use Rattle.reader.specs.Header.{version_in, length_in, limits_in, firsts_in, steps_in, promises_in}

unfoldable pub header_fault : List ℕ → Option Fault
header_fault s =
    unless (leb least_bytes (length s) && leb (length s) most_bytes_of_a_sheet) bad_size 0
    then unless (eqb (version_in s) 1) bad_version version_byte
    then unless (eqb (length_in s) (length s)) bad_length length_byte
    then unless (leb 1 (letters_in s) && leb (letters_in s) most_letters) bad_letters letters_byte
    then unless (leb (limits_in s) most_limits) too_many_records limits_byte
    then unless (leb (promises_in s) most_promises) too_many_records promises_byte

unfoldable pub sections_fault : List ℕ → Option Fault
sections_fault s =
    records_fault a_limit (letters_in s) s (limits_in s) records_at
    then records_fault a_first (letters_in s) s (firsts_in s) (firsts_at s)
    then records_fault a_step (letters_in s) s (steps_in s) (steps_at s)
    then records_fault a_promise (letters_in s) s (promises_in s) (promises_at s)
    then unless (eqb (end_at s) (length s)) surplus (end_at s)
