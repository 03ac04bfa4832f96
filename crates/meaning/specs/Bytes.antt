-- Numbers written as bytes, as the firmware's calls read them: "each state or word is four bytes, big-endian". No call writes bytes; a host
-- does, and this says what it must write. That reading gives the numbers back is proved in proofs/Bytes.antt. Assumes nothing.
use Rattle.std.specs.Prelude.{List, [], ◌∷◌, ◌++◌, ℕ, zero, suc, ◌/◌, ◌%◌}

-- one number in `width` bytes, the highest byte first
unfoldable pub bytes_of_number : (width number : ℕ) → List ℕ
bytes_of_number zero number = []
bytes_of_number (suc width) number = bytes_of_number width (number / 256) ++ (number % 256 ∷ [])

-- numbers of `width` bytes each, one after the other
unfoldable pub bytes_of : (width : ℕ) → List ℕ → List ℕ
unfolding bytes_of_number
bytes_of width [] = []
bytes_of width (number ∷ numbers) = bytes_of_number width number ++ bytes_of width numbers
