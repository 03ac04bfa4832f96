-- A sheet as its records: what stands in it, apart from where it stands. Document 01, "Sheets, byte by byte": the bytes of a version 1
-- sheet that has these letters and these records. A good sheet is exactly that of its own records (proofs/Written.antt), and records that
-- are good one by one make a good sheet. Assumes nothing.
use Rattle.std.specs.Prelude.{List, [], ◌∷◌, ◌++◌, ℕ, ◌+◌, ◌/◌, ◌%◌, length}
use Rattle.meaning.specs.Sheet.{bodies, letters_in, firsts_at, steps_at, promises_at}
use Rattle.reader.specs.Header.{records_at, version_in, length_in, limits_in, firsts_in, steps_in, promises_in}
use Rattle.records.specs.declared.Stated.{Stated}

-- the letters and, kind by kind and in order, each record's own bytes (those after its length byte)
pub record Records : Type 0 where
  pub letters : ℕ
  pub limits : List (List ℕ)
  pub firsts : List (List ℕ)
  pub steps : List (List ℕ)
  pub promises : List (List ℕ)

-- ---- read

-- the letters and records that a good sheet has
unfoldable pub records_of : List ℕ → Records
records_of s = record {
  letters = letters_in s;
  limits = bodies s (limits_in s) records_at;
  firsts = bodies s (firsts_in s) (firsts_at s);
  steps = bodies s (steps_in s) (steps_at s);
  promises = bodies s (promises_in s) (promises_at s);
}

-- what its header states
unfoldable pub stated_in : List ℕ → Stated
stated_in s = record {
  version = version_in s;
  size = length_in s;
  letters = letters_in s;
  limits = limits_in s;
  firsts = firsts_in s;
  steps = steps_in s;
  promises = promises_in s;
}

-- ---- written

-- "Each begins with one byte, the number of bytes after it in the record"; records of a kind stand one behind the other
unfoldable pub section : List (List ℕ) → List ℕ
section [] = []
section (body ∷ more) = (length body ∷ body) ++ section more

-- "The records follow in that order": limits, first rules, step rules, promises
unfoldable pub joined : Records → List ℕ
unfolding section
joined r = section r.limits ++ (section r.firsts ++ (section r.steps ++ section r.promises))

-- byte 0 the version, bytes 1 and 2 the whole length, high byte first, byte 3 the letters, bytes 4 to 7 how many records of each kind
unfoldable pub header : Stated → List ℕ
header h =
    h.version ∷ h.size / 256 ∷ h.size % 256 ∷ h.letters ∷ h.limits ∷ h.firsts ∷ h.steps ∷ h.promises ∷ []

-- what the header of a sheet with these records states
unfoldable pub stated_of : (version : ℕ) → Records → Stated
unfolding joined
stated_of version r = record {
  version = version;
  size = records_at + length (joined r);
  letters = r.letters;
  limits = length r.limits;
  firsts = length r.firsts;
  steps = length r.steps;
  promises = length r.promises;
}

-- the whole sheet
unfoldable pub bytes_of : Records → List ℕ
unfolding header stated_of joined
bytes_of r = header (stated_of 1 r) ++ joined r
