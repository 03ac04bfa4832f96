-- The numbers of a part in bytes, by their places: how many there are, and that each is that of its own bytes; and that numbers which
-- stand as they are follow. Assumes nothing.
use mathlib.Core.Path.{◌≡◌, refl, sym, ◌∙◌, ap}
use mathlib.Core.List.{List, [], ◌∷◌, append-nil}
use Prim.Native.Nat.{ℕ, zero, suc, ◌+◌, ◌-◌, ◌*◌, ◌/◌, ◌%◌, ◌≤◌, ◌<◌}
use native.Mathlib.Nat.{add-zero, add_comm, mul-zero, mul-suc}
use native.Mathlib.Omega.{arith}
use borrow.Author.Tests.{eqb-true, eqb-false}
use lib.Dec.{eqb}
use lib.ListN.{length, take, drop, get_or, length-append, length-drop, get_or-append}
use lib.Seq.{get_or-append-add, get_or-drop, drop-drop}
use Rattle.std.specs.Int.{w32, from_be_bytes}
use Rattle.ground.specs.Says.{Says}
use Rattle.meaning.specs.Promises.{Whole, big_endian, numbers_from, numbers_in, state_bytes}
use Rattle.papers.specs.Paper.{in_bytes, whole_in, mixed}

-- the i-th number of a width
abbrev pub number_in : (width : ℕ) → List ℕ → ℕ → ℕ
number_in width bytes i = big_endian 0 (take width (drop (width * i) bytes))

module _ (width : ℕ) where
  numbers-from-length : (count : ℕ) (bytes : List ℕ) → length (numbers_from width count bytes) ≡ count
  unfolding numbers_from
  numbers-from-length zero bytes = refl
  numbers-from-length (suc count) bytes = ap suc (numbers-from-length count (drop width bytes))

  numbers-from-at : (count : ℕ) (bytes : List ℕ) (i : ℕ) → i < count → get_or (numbers_from width count bytes) i 0 ≡ number_in width bytes i
  unfolding numbers_from
  numbers-from-at zero bytes i below = absurd (omega arith)
  numbers-from-at (suc count) bytes zero below = ap (λ (k : ℕ). big_endian 0 (take width (drop k bytes))) (sym (mul-zero width))
  numbers-from-at (suc count) bytes (suc i) below =
      numbers-from-at count (drop width bytes) i (omega arith)
      ∙ ap (λ (l : List ℕ). big_endian 0 (take width l)) (drop-drop (width * i) width bytes)
      ∙ ap (λ (k : ℕ). big_endian 0 (take width (drop k bytes))) (add_comm width (width * i) ∙ sym (mul-suc width i))

-- There are as many numbers as their width goes into the bytes.
pub in-bytes-length : (bytes : List ℕ) → length (in_bytes bytes) ≡ length bytes / 4
unfolding numbers_in state_bytes
in-bytes-length bytes = numbers-from-length 4 (length bytes / 4) bytes

-- A number has its four bytes.
pub room-for : (bytes : List ℕ) (i : ℕ) → i < length (in_bytes bytes) → 4 * i + 4 ≤ length bytes
room-for bytes i below = omega (arith, in-bytes-length bytes)

-- Four bytes or more begin with a number.
front-number : (bytes : List ℕ) → 4 ≤ length bytes
    → ((get_or bytes 0 0 * 256 + get_or bytes 1 0) * 256 + get_or bytes 2 0) * 256 + get_or bytes 3 0 ≡ big_endian 0 (take 4 bytes)
unfolding big_endian
front-number [] h = absurd (omega arith)
front-number (a ∷ []) h = absurd (omega arith)
front-number (a ∷ b ∷ []) h = absurd (omega arith)
front-number (a ∷ b ∷ c ∷ []) h = absurd (omega arith)
front-number (a ∷ b ∷ c ∷ d ∷ rest) h = omega arith

four-bytes : (a b c d : ℕ) → from_be_bytes w32 (a ∷ b ∷ c ∷ d ∷ []) ≡ ((a * 256 + b) * 256 + c) * 256 + d
four-bytes a b c d = omega arith

-- A number is that of its four bytes.
pub in-bytes-at : (bytes : List ℕ) (i : ℕ) → i < length (in_bytes bytes)
    → from_be_bytes w32 (get_or bytes (4 * i) 0 ∷ get_or bytes (4 * i + 1) 0 ∷ get_or bytes (4 * i + 2) 0 ∷ get_or bytes (4 * i + 3) 0 ∷ [])
    ≡ get_or (in_bytes bytes) i 0
unfolding numbers_in state_bytes
in-bytes-at bytes i below =
    let first : get_or (drop (4 * i) bytes) 0 0 ≡ get_or bytes (4 * i) 0 =
    get_or-drop (4 * i) bytes 0 0 ∙ ap (λ (k : ℕ). get_or bytes k 0) (add-zero (4 * i)) in
    four-bytes _ _ _ _
    ∙ omega (
      arith,
      front-number (drop (4 * i) bytes) (omega (arith, length-drop (4 * i) bytes, room-for bytes i below)),
      numbers-from-at 4 (length bytes / 4) bytes i (omega (arith, in-bytes-length bytes)),
      first,
      get_or-drop (4 * i) bytes 1 0,
      get_or-drop (4 * i) bytes 2 0,
      get_or-drop (4 * i) bytes 3 0,
    )

-- Whether nothing is left over.
pub whole-says : (bytes : List ℕ) → Says (whole_in bytes) (eqb (length bytes % 4) 0)
unfolding Whole state_bytes
whole-says bytes = record { yes = λ t. eqb-true _ _ t; never = λ f h. eqb-false _ _ f h }

-- ---- bytes, and then numbers

module _ (bytes numbers : List ℕ) where
  -- There are as many numbers as their width goes into the bytes, and those that follow.
  pub mixed-length : length (mixed bytes numbers) ≡ length bytes / 4 + length numbers
  mixed-length = length-append (in_bytes bytes) numbers ∙ ap (λ (n : ℕ). n + length numbers) (in-bytes-length bytes)

  -- A number in bytes is that of its bytes.
  pub mixed-in-bytes : (i : ℕ) → i < length bytes / 4 → get_or (mixed bytes numbers) i 0 ≡ number_in 4 bytes i
  unfolding numbers_in state_bytes
  mixed-in-bytes i below =
      get_or-append (in_bytes bytes) numbers 0 i (omega (arith, below, in-bytes-length bytes))
      ∙ numbers-from-at 4 (length bytes / 4) bytes i below

  -- The numbers follow those in bytes.
  pub mixed-after : (i : ℕ) → length bytes / 4 ≤ i → get_or (mixed bytes numbers) i 0 ≡ get_or numbers (i - length bytes / 4) 0
  mixed-after i above =
      let e : i ≡ length (in_bytes bytes) + (i - length bytes / 4) = omega (arith, above, in-bytes-length bytes) in
      ap (λ (k : ℕ). get_or (mixed bytes numbers) k 0) e ∙ get_or-append-add (in_bytes bytes) numbers (i - length bytes / 4) 0

-- With no numbers they are those in the bytes, and with no bytes the numbers.
pub mixed-of-bytes : (bytes : List ℕ) → mixed bytes [] ≡ in_bytes bytes
mixed-of-bytes bytes = append-nil (in_bytes bytes)

pub mixed-of-numbers : (numbers : List ℕ) → mixed [] numbers ≡ numbers
unfolding numbers_in numbers_from state_bytes
mixed-of-numbers numbers = refl
