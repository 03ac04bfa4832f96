-- A sheet with a choice of its step rules. Document 02, order 5: "a choice of its step rules .. while limits, first rules and promises
-- stand". A choice is a row of marks, one for each step rule in sheet order; a rule is chosen where its mark is not 0, and rules past the
-- last mark are not. proofs/Chosen.antt: of a good sheet it is a good sheet again, and it decodes to the sheet with exactly the chosen
-- rules in their order. Assumes nothing.
use Rattle.std.specs.Prelude.{◌≡◌, List, [], ◌∷◌, ℕ, zero, suc, ◌≤◌, take}
use Rattle.meaning.specs.Sheet.{Sheet, most_bytes_of_a_sheet}
use Rattle.records.specs.Records.{Records, records_of, bytes_of}

-- those of a list that are marked, in their order
unfoldable pub picked : {A : Type 0} → (marks : List ℕ) → List A → List A
picked marks [] = []
picked [] (x ∷ xs) = []
picked (zero ∷ marks) (x ∷ xs) = picked marks xs
picked (suc m ∷ marks) (x ∷ xs) = x ∷ picked marks xs

-- the records with only the chosen step rules
unfoldable pub picked_in : (marks : List ℕ) → Records → Records
unfolding picked
picked_in marks r = record {
  letters = r.letters;
  limits = r.limits;
  firsts = r.firsts;
  steps = picked marks r.steps;
  promises = r.promises;
}

-- the bytes of the sheet with only the chosen step rules: the other records dropped, count and stated length set right
unfoldable pub with_chosen : (sheet marks : List ℕ) → List ℕ
unfolding picked_in
with_chosen sheet marks = bytes_of (picked_in marks (records_of sheet))

-- what such a sheet says
unfoldable pub only_chosen : (marks : List ℕ) → Sheet → Sheet
unfolding picked
only_chosen marks s = record {
  letters = s.letters;
  limits = s.limits;
  firsts = s.firsts;
  steps = picked marks s.steps;
  promises = s.promises;
}

-- n bytes in front of a buffer are the sheet with only the chosen step rules
pub record Wrote (sheet marks buffer : List ℕ) (n : ℕ) : Type 0 where
  pub fits : n ≤ most_bytes_of_a_sheet
  pub bytes : take n buffer ≡ with_chosen sheet marks
