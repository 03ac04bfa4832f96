-- The ten faults, a line of document 01's table each, with the place that document 02's order 1 gives it, said of the sheet's bytes and not
-- by `first_fault`'s own chain of checks: number n at place q exactly if every earlier check passes and this one fails at q.
-- proofs/Placing.antt shows that the two say the same. Records are counted from 0 here, over all four kinds in the order in which they
-- stand. Assumes nothing.
use Rattle.std.specs.Prelude.{◌≡◌, ◌⊎◌, cond, List, ℕ, zero, suc, ◌+◌, ◌-◌, ◌*◌, ◌%◌, ◌≤◌, ◌<◌, ltb, length}
use Rattle.meaning.specs.Sheet.{Kind, a_limit, a_first, a_step, a_promise, byte, size, least_bytes, most_bytes_of_a_sheet, most_letters, most_limits}
use Rattle.meaning.specs.Sheet.{most_promises}

-- ---- the header, byte by byte

-- 1: "below 8 or above 4,096 bytes"
abbrev pub SizeFits : List ℕ → Type 0
SizeFits s = (least_bytes ≤ length s) × (length s ≤ most_bytes_of_a_sheet)

-- 2: "version not 1"
abbrev pub VersionFits : List ℕ → Type 0
VersionFits s = byte s 0 ≡ 1

-- 3: "stated length differs"
abbrev pub LengthFits : List ℕ → Type 0
LengthFits s = byte s 1 * 256 + byte s 2 ≡ length s

-- 4: "n not 1 to 24"
abbrev pub LettersFit : List ℕ → Type 0
LettersFit s = (1 ≤ byte s 3) × (byte s 3 ≤ most_letters)

-- 5: "over 32 limits or 16 promises"
abbrev pub LimitsFit : List ℕ → Type 0
LimitsFit s = byte s 4 ≤ most_limits

abbrev pub PromisesFit : List ℕ → Type 0
PromisesFit s = byte s 7 ≤ most_promises

pub record GoodHeader (s : List ℕ) : Type 0 where
  pub sized : SizeFits s
  pub version : VersionFits s
  pub long : LengthFits s
  pub letters : LettersFit s
  pub limits : LimitsFit s
  pub promises : PromisesFit s

-- ---- the records

-- the place of record j's length byte: the first stands at byte 8, each next one behind the bytes of the one before
unfoldable pub start_of : List ℕ → ℕ → ℕ
start_of s zero = 8
start_of s (suc j) = start_of s j + suc (byte s (start_of s j))

-- how many records the header announces
unfoldable pub records_in : List ℕ → ℕ
records_in s = byte s 4 + byte s 5 + byte s 6 + byte s 7

-- record j's kind: limits first, then first rules, step rules, promises
unfoldable pub kind_at : List ℕ → ℕ → Kind
kind_at s j =
    cond (ltb j (byte s 4)) a_limit
    (cond (ltb j (byte s 4 + byte s 5)) a_first
    (cond (ltb j (byte s 4 + byte s 5 + byte s 6)) a_step a_promise))

-- 6: "record missing or past the end": the record, its length byte at q, ends within the sheet
abbrev pub Present : List ℕ → ℕ → Type 0
Present s q = q + suc (byte s q) ≤ length s

-- 7: "limit under 2 bytes or kind over 1; step rule empty or a too large; promise not 1 byte", the record's length byte at q
abbrev pub ShapeFits : Kind → List ℕ → ℕ → Type 0
ShapeFits a_limit s q = (2 ≤ byte s q) × (byte s (q + 1) ≤ 1)
ShapeFits a_first s q = Unit
ShapeFits a_step s q = byte s (q + 1) < byte s q
ShapeFits a_promise s q = byte s q ≡ 1

-- where a record's literals begin; they go on to its last byte
abbrev pub literals_from : Kind → ℕ → ℕ
literals_from a_limit q = q + 3
literals_from a_first q = q + 1
literals_from a_step q = q + 2
literals_from a_promise q = q + 1

-- byte i is a literal of the record whose length byte stands at q
abbrev pub LiteralAt : Kind → List ℕ → (q i : ℕ) → Type 0
LiteralAt kind s q i = (literals_from kind q ≤ i) × (i ≤ q + byte s q)

-- a list of the record begins at i: the only list, or one of a step rule's two
abbrev pub Begins : Kind → List ℕ → (q i : ℕ) → Type 0
Begins a_limit s q i = i ≡ q + 3
Begins a_first s q i = i ≡ q + 1
Begins a_step s q i = (i ≡ q + 2) ⊎ (i ≡ q + 2 + byte s (q + 1))
Begins a_promise s q i = i ≡ q + 1

-- 8: "literal zero or size above n"
abbrev pub NamesLetter : List ℕ → ℕ → Type 0
NamesLetter s i = (1 ≤ size (byte s i)) × (size (byte s i) ≤ byte s 3)

-- 9: "list not strictly ascending": the first of its list, or as a signed number above the byte before it (-128 counts as 0 here, 127 as
-- 255)
abbrev pub Ascends : Kind → List ℕ → (q i : ℕ) → Type 0
Ascends kind s q i = Begins kind s q i ⊎ ((byte s (i - 1) + 128) % 256 < (byte s i + 128) % 256)

-- record j is good
pub record GoodRecord (s : List ℕ) (j : ℕ) : Type 0 where
  pub present : Present s (start_of s j)
  pub shape : ShapeFits (kind_at s j) s (start_of s j)
  pub literals : (i : ℕ) → LiteralAt (kind_at s j) s (start_of s j) i → NamesLetter s i × Ascends (kind_at s j) s (start_of s j) i

-- ---- every earlier check passes

-- the header and the first j records are good
pub record GoodUpTo (s : List ℕ) (j : ℕ) : Type 0 where
  pub header : GoodHeader s
  pub records : (i : ℕ) → i < j → GoodRecord s i

-- record j, whose length byte stands at q, is reached: it is announced, and all before it is good
pub record Comes (s : List ℕ) (j q : ℕ) : Type 0 where
  pub before : GoodUpTo s j
  pub announced : j < records_in s
  pub begins : start_of s j ≡ q

-- literal i of record j is reached: the record is there and has its shape, and its literals before i are good
pub record LiteralComes (s : List ℕ) (j q i : ℕ) : Type 0 where
  pub comes : Comes s j q
  pub present : Present s q
  pub shape : ShapeFits (kind_at s j) s q
  pub literal : LiteralAt (kind_at s j) s q i
  pub earlier : (h : ℕ) → LiteralAt (kind_at s j) s q h → h < i → NamesLetter s h × Ascends (kind_at s j) s q h

-- ---- the ten lines: this fault at place q

-- "0 for 1"
abbrev pub Fault1 : List ℕ → ℕ → Type 0
Fault1 s q = (SizeFits s → ⊥) × (q ≡ 0)

-- "the header byte for 2 to 5 (byte 1 for 3, the limit count before the promise count for 5)"
abbrev pub Fault2 : List ℕ → ℕ → Type 0
Fault2 s q = SizeFits s × (VersionFits s → ⊥) × (q ≡ 0)

abbrev pub Fault3 : List ℕ → ℕ → Type 0
Fault3 s q = SizeFits s × VersionFits s × (LengthFits s → ⊥) × (q ≡ 1)

abbrev pub Fault4 : List ℕ → ℕ → Type 0
Fault4 s q = SizeFits s × VersionFits s × LengthFits s × (LettersFit s → ⊥) × (q ≡ 3)

abbrev pub Fault5 : List ℕ → ℕ → Type 0
Fault5 s q =
    SizeFits s × VersionFits s × LengthFits s × LettersFit s
    × (((LimitsFit s → ⊥) × (q ≡ 4)) ⊎ (LimitsFit s × (PromisesFit s → ⊥) × (q ≡ 7)))

-- "the record's length byte for 6 and 7 (the sheet's length if that byte is missing)"
abbrev pub Fault6 : List ℕ → ℕ → Type 0
Fault6 s q = (j : ℕ) × Comes s j q × (Present s q → ⊥)

abbrev pub Fault7 : List ℕ → ℕ → Type 0
Fault7 s q = (j : ℕ) × Comes s j q × Present s q × (ShapeFits (kind_at s j) s q → ⊥)

-- "the literal's byte for 8 and 9"
abbrev pub Fault8 : List ℕ → ℕ → Type 0
Fault8 s i = (j : ℕ) × (q : ℕ) × LiteralComes s j q i × (NamesLetter s i → ⊥)

abbrev pub Fault9 : List ℕ → ℕ → Type 0
Fault9 s i = (j : ℕ) × (q : ℕ) × LiteralComes s j q i × NamesLetter s i × (Ascends (kind_at s j) s q i → ⊥)

-- "the first surplus byte for 10": the byte behind the last record
abbrev pub Fault10 : List ℕ → ℕ → Type 0
Fault10 s q = GoodUpTo s (records_in s) × (start_of s (records_in s) ≡ q) × (q < length s)
