-- Writing numbers as bytes and reading them back, for any width: what is read is what was written (`read_back`), the bytes hold whole
-- numbers (`written-whole`), there are width times as many (`written-length`), and all are below 256 (`written-bytes`). Assumes nothing.
use mathlib.Core.Path.{◌≡◌, refl, sym, ◌∙◌, ap, subst}
use mathlib.Core.List.{List, [], ◌∷◌, ◌++◌}
use Prim.Native.Nat.{ℕ, zero, suc, ◌+◌, ◌*◌, ◌/◌, ◌%◌, ◌^◌, ◌<◌}
use native.Mathlib.Nat.{mod-lt, div-add-mod', div-lt_iff_lt-mul, mul-div_cancel, mul-mod_left, pow-zero, pow-suc, suc-mul, zero-mul}
use native.Mathlib.Nat.{zero-lt-suc}
use native.Mathlib.Omega.{arith}
use lib.Dec.{lit≤}
use lib.ListN.{length, take, drop, get_or, length-append}
use lib.Seq.{take-append_seam, drop-append_seam}
use Rattle.meaning.specs.Promises.{big_endian, numbers_from, numbers_in, Whole}
use Rattle.meaning.specs.Bytes.{bytes_of_number, bytes_of}

-- A byte more makes 256 times the number and the byte.
one-more-byte : (high : ℕ) (bytes : List ℕ) (b : ℕ) → big_endian high (bytes ++ (b ∷ [])) ≡ big_endian high bytes * 256 + b
unfolding big_endian
one-more-byte high [] b = refl
one-more-byte high (x ∷ bytes) b = one-more-byte (high * 256 + x) bytes b

-- A number has as many bytes as the width.
number-length : (width number : ℕ) → length (bytes_of_number width number) ≡ width
unfolding bytes_of_number
number-length zero number = refl
number-length (suc width) number =
    length-append (bytes_of_number width (number / 256)) (number % 256 ∷ []) ∙ omega (arith, number-length width (number / 256))

-- A number below 256 to the power of the width is read back from its bytes.
number-back : (width number : ℕ) → number < 256 ^ width → big_endian 0 (bytes_of_number width number) ≡ number
unfolding bytes_of_number big_endian
number-back zero number h = omega (arith, h, pow-zero 256)
number-back (suc width) number h =
    let below : number / 256 < 256 ^ width = (div-lt_iff_lt-mul (zero-lt-suc 255)).1 (subst (λ (x : ℕ). number < x) (pow-suc 256 width) h) in
    one-more-byte 0 (bytes_of_number width (number / 256)) (number % 256)
    ∙ ap (λ (x : ℕ). x * 256 + number % 256) (number-back width (number / 256) below) ∙ div-add-mod' number 256

-- What stands in front is taken off.
front-taken : (width : ℕ) (front rest : List ℕ) → length front ≡ width → (take width (front ++ rest) ≡ front)
    × (drop width (front ++ rest) ≡ rest)
front-taken width front rest e =
    subst (λ (n : ℕ). (take n (front ++ rest) ≡ front) × (drop n (front ++ rest) ≡ rest)) e (
      take-append_seam front rest,
      drop-append_seam front rest,
    )

-- Numbers below 256 to the power of the width are read back, as many as were written.
numbers-back : (width : ℕ) (numbers : List ℕ) → ((i : ℕ) → i < length numbers → get_or numbers i 0 < 256 ^ width)
    → numbers_from width (length numbers) (bytes_of width numbers) ≡ numbers
unfolding numbers_from bytes_of
numbers-back width [] small = refl
numbers-back width (x ∷ numbers) small =
    let (taken, dropped) = front-taken width (bytes_of_number width x) (bytes_of width numbers) (number-length width x) in
    ap (λ (l : List ℕ). big_endian 0 l ∷ numbers_from width (length numbers) (drop width (bytes_of_number width x ++ bytes_of width numbers)))
    taken
    ∙ ap (λ (l : List ℕ). big_endian 0 (bytes_of_number width x) ∷ numbers_from width (length numbers) l) dropped
    ∙ ap (λ (y : ℕ). y ∷ numbers_from width (length numbers) (bytes_of width numbers)) (number-back width x (small 0 (omega arith)))
    ∙ ap (λ (l : List ℕ). x ∷ l) (numbers-back width numbers (λ i h. small (suc i) (omega arith)))

-- There are width times as many bytes as numbers.
pub written-length : (width : ℕ) (numbers : List ℕ) → length (bytes_of width numbers) ≡ length numbers * width
unfolding bytes_of
written-length width [] = sym (zero-mul width)
written-length width (x ∷ numbers) =
    length-append (bytes_of_number width x) (bytes_of width numbers)
    ∙ omega (arith, number-length width x, written-length width numbers, suc-mul (length numbers) width)

-- They hold whole numbers.
pub written-whole : (width : ℕ) (numbers : List ℕ) → Whole width (bytes_of width numbers)
unfolding Whole
written-whole width numbers = ap (λ (n : ℕ). n % width) (written-length width numbers) ∙ mul-mod_left (length numbers) width

-- What is read is what was written.
pub read_back : (width : ℕ) (numbers : List ℕ) → zero < width → ((i : ℕ) → i < length numbers → get_or numbers i 0 < 256 ^ width)
    → numbers_in width (bytes_of width numbers) ≡ numbers
unfolding numbers_in
read_back width numbers pos small =
    let count : length (bytes_of width numbers) / width ≡ length numbers
    = ap (λ (n : ℕ). n / width) (written-length width numbers) ∙ mul-div_cancel (length numbers) pos in
    ap (λ (n : ℕ). numbers_from width n (bytes_of width numbers)) count
    ∙ numbers-back width numbers small

-- each number of the list is a byte
abbrev pub Bytes : List ℕ → Type 0
Bytes l = (i : ℕ) → get_or l i 0 < 256

bytes-append : (l m : List ℕ) → Bytes l → Bytes m → Bytes (l ++ m)
bytes-append [] m b c i = c i
bytes-append (x ∷ l) m b c zero = b 0
bytes-append (x ∷ l) m b c (suc i) = bytes-append l m (λ j. b (suc j)) c i

bytes_one : (x : ℕ) → x < 256 → Bytes (x ∷ [])
bytes_one x h zero = h
bytes_one x h (suc i) = lit≤ tt

number-bytes : (width number : ℕ) → Bytes (bytes_of_number width number)
unfolding bytes_of_number
number-bytes zero number = λ i. lit≤ tt
number-bytes (suc width) number =
    bytes-append (bytes_of_number width (number / 256)) (number % 256 ∷ []) (number-bytes width (number / 256))
    (bytes_one (number % 256) (mod-lt number (zero-lt-suc 255)))

-- What is written are bytes.
pub written-bytes : (width : ℕ) (numbers : List ℕ) → Bytes (bytes_of width numbers)
unfolding bytes_of
written-bytes width [] = λ i. lit≤ tt
written-bytes width (x ∷ numbers) = bytes-append (bytes_of_number width x) (bytes_of width numbers) (number-bytes width x)
    (written-bytes width numbers)
