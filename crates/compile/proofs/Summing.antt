-- Masks summed literal by literal: what is summed and what the literals left would add make up the whole list's masks. Assumes nothing.
use Rattle.std.proofs.Common.{◌≡◌, ◌∙◌, ap, sym, subst, Bool, true, false, not, List, [], ◌∷◌}
use Rattle.std.proofs.Common.{ℕ, ◌+◌, ◌-◌, ◌^◌, ◌≤◌, ◌<◌, length, get_or, drop, drop-cons, add-one, arith}
use Rattle.std.proofs.lemmas.List.{drop_all}
use Rattle.meaning.specs.Sheet.{positive, size, letters_in, most_letters}
use Rattle.ground.specs.States.{all_states}
use Rattle.ground.proofs.States.{state-small}
use Rattle.reader.specs.Place.{part}
use Rattle.compile.specs.Literals.{mask_of, rank, Ordered}
use Rattle.compile.specs.Compile.{ListSound}
use Rattle.compile.proofs.Masks.{mask-same, mask-other, tells}

-- What is in order among n letters is so among more.
ordered-among : (n m before : ℕ) (ls : List ℕ) → n ≤ m → Ordered n before ls → Ordered m before ls
ordered-among n m before [] h o = tt
ordered-among n m before (l ∷ ls) h o = (o.0, o.1, omega (arith, o.2), ordered-among n m (rank (positive l) (size l)) ls h o.3)

-- So a list of a sheet is in order among all letters that there may be.
pub list-ordered : {s : List ℕ} {start end : ℕ} → ListSound s start end → Ordered most_letters 0 (part start end s)
list-ordered {s} {start} {end} sound = ordered-among (letters_in s) most_letters 0 (part start end s) sound.few sound.ordered

-- the literals from place k on are left
pub record Summed (ls : List ℕ) (k held unheld : ℕ) : Type 0 where
  pub above : ℕ
  pub ordered : Ordered most_letters above (drop k ls)
  pub helds : held + mask_of true (drop k ls) ≡ mask_of true ls
  pub unhelds : unheld + mask_of false (drop k ls) ≡ mask_of false ls

module _ (ls : List ℕ) (in_order : Ordered most_letters 0 ls) where
  -- The masks of the whole list are below all states.
  held_fits : mask_of true ls < all_states
  held_fits = state-small {n = most_letters} (omega arith) (tells most_letters 0 ls in_order).held

  unheld-fits : mask_of false ls < all_states
  unheld-fits = state-small {n = most_letters} (omega arith) (tells most_letters 0 ls in_order).unheld

  module _ (k held unheld : ℕ) (so : Summed ls k held unheld) where
    left_are : k < length ls → drop k ls ≡ get_or ls k 0 ∷ drop (k + 1) ls
    left_are h = drop-cons ls k 0 h ∙ ap (λ (j : ℕ). get_or ls k 0 ∷ drop j ls) (sym (add-one k))

    first-left : k < length ls → Ordered most_letters so.above (get_or ls k 0 ∷ drop (k + 1) ls)
    first-left h = subst (Ordered most_letters so.above) (left_are h) so.ordered

    left_is : k < length ls → (p : Bool) → mask_of p (drop k ls) ≡ mask_of p (get_or ls k 0 ∷ drop (k + 1) ls)
    left_is h p = ap (mask_of p) (left_are h)

    -- One literal that is to hold, and one that is not.
    pub held_more :
        {bit : ℕ} → k < length ls → positive (get_or ls k 0) ≡ true → bit ≡ 2 ^ (size (get_or ls k 0) - 1)
        → Summed ls (k + 1) (held + bit) unheld
    held_more h e is =
        let a = so.helds in
        let b = so.unhelds in
        let c = left_is h true ∙ mask-same true (get_or ls k 0) (drop (k + 1) ls) e in
        let d = left_is h false ∙ mask-other false (get_or ls k 0) (drop (k + 1) ls) (ap not e) in
        record { above = _; ordered = (first-left h).3; helds = omega arith; unhelds = omega arith }

    pub unheld-more :
        {bit : ℕ} → k < length ls → positive (get_or ls k 0) ≡ false → bit ≡ 2 ^ (size (get_or ls k 0) - 1)
        → Summed ls (k + 1) held (unheld + bit)
    unheld-more h e is =
        let a = so.helds in
        let b = so.unhelds in
        let c = left_is h true ∙ mask-other true (get_or ls k 0) (drop (k + 1) ls) e in
        let d = left_is h false ∙ mask-same false (get_or ls k 0) (drop (k + 1) ls) (ap not e) in
        record { above = _; ordered = (first-left h).3; helds = omega arith; unhelds = omega arith }

    -- The sums stay below all states.
    pub sums-fit : (held < all_states) × (unheld < all_states)
    sums-fit =
        let a = so.helds in
        let b = so.unhelds in
        let c = held_fits in
        let d = unheld-fits in
        (omega arith, omega arith)

    -- At the end the sums are the masks.
    pub all-summed : length ls ≤ k → (held ≡ mask_of true ls) × (unheld ≡ mask_of false ls)
    unfolding mask_of
    all-summed h =
        let z : drop k ls ≡ [] = drop_all k ls h in
        let c = ap (mask_of true) z in
        let d = ap (mask_of false) z in
        let a = so.helds in
        let b = so.unhelds in
        (omega arith, omega arith)
