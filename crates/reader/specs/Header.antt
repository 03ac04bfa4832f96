-- A sheet's header, byte by byte: where it has what, and what stands there. The meaning has these places as document 01's numbers; here
-- each has its one name for every crate above, and is that number by computation. That the meaning reads the same bytes is `whole-fault`
-- (proofs/Whole.antt). The code's names are in src/header.rt. Assumes nothing.
use Rattle.std.specs.Prelude.{List, ℕ, suc, ◌+◌, ◌*◌}
use Rattle.meaning.specs.Sheet.{byte, least_bytes}

-- the version; the length of the whole sheet, its high byte here and its low byte behind it; "Byte 3 is n, the number of letters"
abbrev pub version_byte : ℕ
version_byte = 0

abbrev pub length_byte : ℕ
length_byte = 1

abbrev pub letters_byte : ℕ
letters_byte = 3

-- "Bytes 4 to 7 count limits (..), first rules (..), step rules (..), promises (..)"
abbrev pub limits_byte : ℕ
limits_byte = 4

abbrev pub firsts_byte : ℕ
firsts_byte = 5

abbrev pub steps_byte : ℕ
steps_byte = 6

abbrev pub promises_byte : ℕ
promises_byte = 7

-- "The records follow in that order": the shortest sheet is a header alone
abbrev pub records_at : ℕ
records_at = least_bytes

-- what a sheet says there (its letters are the meaning's `letters_in`)
abbrev pub version_in : List ℕ → ℕ
version_in s = byte s version_byte

abbrev pub high_in : List ℕ → ℕ
high_in s = byte s length_byte

abbrev pub low_in : List ℕ → ℕ
low_in s = byte s (suc length_byte)

abbrev pub length_in : List ℕ → ℕ
length_in s = high_in s * 256 + low_in s

abbrev pub limits_in : List ℕ → ℕ
limits_in s = byte s limits_byte

abbrev pub firsts_in : List ℕ → ℕ
firsts_in s = byte s firsts_byte

abbrev pub steps_in : List ℕ → ℕ
steps_in s = byte s steps_byte

abbrev pub promises_in : List ℕ → ℕ
promises_in s = byte s promises_byte
