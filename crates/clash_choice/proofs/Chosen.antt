-- A sheet with a choice of its step rules.
--   picking       map-picked, picked_all, picked-length-within; section-picked-within: what is picked takes no more bytes
--   the sheet     chosen-good: of a good sheet it is good; chosen-decoded: it says the same with exactly the chosen rules, in their order;
--                 chosen-letters; all-chosen: with every rule chosen it is the sheet itself, byte by byte
-- Assumes nothing.
use mathlib.Core.Path.{◌≡◌, refl, sym, ◌∙◌, ap}
use mathlib.Core.Option.{none}
use mathlib.Core.List.{List, [], ◌∷◌, map}
use Prim.Native.Nat.{ℕ, zero, suc, ◌≤◌, ◌<◌}
use native.Mathlib.Omega.{arith}
use lib.ListN.{length, get_or, length-append}
use Rattle.meaning.specs.Sheet.{Kind, step_of, byte, letters_in, steps_at, first_fault, decode}
use Rattle.reader.specs.Header.{low_in, steps_in}
use Rattle.reader.proofs.Good.{length-bodies}
use Rattle.records.specs.Records.{Records, records_of, section, header, bytes_of}
use Rattle.records.proofs.Written.{Faultless, GoodRecords, sheet_said, length-joined, good-records, bytes_good, records-back}
use Rattle.records.proofs.Written.{decode-records, decode-bytes}
use Rattle.clash_choice.specs.Choice.{picked, picked_in, with_chosen, only_chosen}

-- ---- picking

-- To pick and then change each is to change each and then pick.
pub map-picked : {A B : Type 0} (f : A → B) (marks : List ℕ) (l : List A) → map f (picked marks l) ≡ picked marks (map f l)
unfolding picked
map-picked f marks [] = refl
map-picked f [] (x ∷ xs) = refl
map-picked f (zero ∷ marks) (x ∷ xs) = map-picked f marks xs
map-picked f (suc m ∷ marks) (x ∷ xs) = ap (◌∷◌ (f x)) (map-picked f marks xs)

-- There are no more than before.
pub picked-length-within : {A : Type 0} (marks : List ℕ) (l : List A) → length (picked marks l) ≤ length l
unfolding picked
picked-length-within marks [] = omega arith
picked-length-within [] (x ∷ xs) = omega arith
picked-length-within (zero ∷ marks) (x ∷ xs) = omega (arith, picked-length-within marks xs)
picked-length-within (suc m ∷ marks) (x ∷ xs) = omega (arith, picked-length-within marks xs)

-- Where each is marked, all are picked.
pub picked_all : {A : Type 0} (marks : List ℕ) (l : List A) → ((i : ℕ) → i < length l → get_or marks i 0 ≡ 0 → ⊥) → picked marks l ≡ l
unfolding picked
picked_all marks [] all = refl
picked_all [] (x ∷ xs) all = absurd (all 0 (omega arith) refl)
picked_all (zero ∷ marks) (x ∷ xs) all = absurd (all 0 (omega arith) refl)
picked_all (suc m ∷ marks) (x ∷ xs) all = ap (◌∷◌ x) (picked_all marks xs (λ i h. all (suc i) (omega arith)))

-- They take no more bytes than before.
pub section-picked-within : (marks : List ℕ) (bs : List (List ℕ)) → length (section (picked marks bs)) ≤ length (section bs)
unfolding picked section
section-picked-within marks [] = omega arith
section-picked-within [] (b ∷ bs) = omega arith
section-picked-within (zero ∷ marks) (b ∷ bs) = omega (arith, length-append b (section bs), section-picked-within marks bs)
section-picked-within (suc m ∷ marks) (b ∷ bs) =
    omega (arith, length-append b (section bs), length-append b (section (picked marks bs)), section-picked-within marks bs)

-- If all were faultless, they are.
picked-faultless : (kind : Kind) (n : ℕ) (marks : List ℕ) (bs : List (List ℕ)) → Faultless kind n bs → Faultless kind n (picked marks bs)
unfolding picked
picked-faultless kind n marks [] f = tt
picked-faultless kind n [] (b ∷ bs) f = tt
picked-faultless kind n (zero ∷ marks) (b ∷ bs) f = picked-faultless kind n marks bs f.1
picked-faultless kind n (suc m ∷ marks) (b ∷ bs) f = (f.0, picked-faultless kind n marks bs f.1)

-- ---- the sheet with chosen rules

-- Good records are good with only the chosen step rules.
picked-good : (marks : List ℕ) (r : Records) → GoodRecords r → GoodRecords (picked_in marks r)
unfolding picked_in
picked-good marks r g = record {
  some_letter = g.some_letter;
  few-letters = g.few-letters;
  few_limits = g.few_limits;
  few-promises = g.few-promises;
  limits_faultless = g.limits_faultless;
  firsts_faultless = g.firsts_faultless;
  steps_faultless = picked-faultless _ r.letters marks r.steps g.steps_faultless;
  promises_faultless = g.promises_faultless;
  fits = omega (arith, g.fits, length-joined r, length-joined (picked_in marks r), section-picked-within marks r.steps);
}

-- The sheet with any choice of a good sheet's step rules is good.
pub chosen-good : (s : List ℕ) → first_fault s ≡ none → (marks : List ℕ) → first_fault (with_chosen s marks) ≡ none
unfolding with_chosen
chosen-good s good marks = bytes_good (picked_in marks (records_of s)) (picked-good marks (records_of s) (good-records s good))

said-picked : (marks : List ℕ) (r : Records) → sheet_said (picked_in marks r) ≡ only_chosen marks (sheet_said r)
unfolding picked_in only_chosen sheet_said
said-picked marks r = rw (map-picked step_of marks r.steps)

-- It says what the sheet says, with exactly the chosen step rules, in their order.
pub chosen-decoded : (s marks : List ℕ) → decode (with_chosen s marks) ≡ only_chosen marks (decode s)
unfolding with_chosen
chosen-decoded s marks =
    decode-bytes (picked_in marks (records_of s)) ∙ said-picked marks (records_of s) ∙ ap (only_chosen marks) (sym (decode-records s))

-- It has the sheet's letters.
pub chosen-letters : (s marks : List ℕ) → letters_in (with_chosen s marks) ≡ letters_in s
unfolding letters_in byte with_chosen picked_in records_of bytes_of header
chosen-letters s marks = refl

-- With every rule chosen it is the sheet itself, byte by byte.
pub all-chosen : (s : List ℕ) → first_fault s ≡ none → low_in s < 256
    → (marks : List ℕ) → ((i : ℕ) → i < steps_in s → get_or marks i 0 ≡ 0 → ⊥) → with_chosen s marks ≡ s
unfolding with_chosen picked_in records_of
all-chosen s good small marks all =
    let count = length-bodies s (steps_in s) (steps_at s) in
    let same : picked_in marks (records_of s) ≡ records_of s =
    rw (picked_all marks (records_of s).steps (λ i h. all i (omega (arith, h, count)))) in
    ap bytes_of same ∙ records-back s good small
