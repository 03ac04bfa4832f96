-- What `first_fault` finds, said of the sheet's bytes as specs/Faults.antt says it: the sheet is good, or it has one of the ten faults at
-- the place found (`first-fault-found`). Check by check: the header, the records (counted over all four kinds), a record's literals.
-- Assumes nothing.
use mathlib.Core.Path.{◌≡◌, refl, sym, ◌∙◌, ap, subst}
use mathlib.Core.Bool.{Bool, true, false, cond, ◌&&◌}
use mathlib.Core.Logic.{◌⊎◌, inl, inr}
use mathlib.Core.Option.{Option, none, some}
use mathlib.Core.List.{List, [], ◌∷◌}
use Prim.Native.Nat.{ℕ, zero, suc, ◌+◌, ◌-◌, ◌*◌, ◌%◌, ◌≤◌, ◌<◌}
use native.Mathlib.Decide.{dec_lt}
use native.Mathlib.Omega.{arith}
use lib.Dec.{T, leb, ltb, eqb, leb→le, le→leb}
use lib.ListN.{length, get_or, take, drop, length-drop}
use lib.Seq.{length-take-le, get_or-take, get_or-drop}
use borrow.Author.Tests.{leb-true, leb-false, ltb-true, ltb-false, eqb-true, eqb-false, lt-ltb, le-ltb}
use Rattle.meaning.specs.Sheet.{Why, bad_size, bad_version, bad_length, bad_letters, too_many_records, record_missing, bad_shape, bad_literal}
use Rattle.meaning.specs.Sheet.{not_rising, surplus, Fault, unless, ◌then◌, positive, size, signed_below, names, literals_fault}
use Rattle.meaning.specs.Sheet.{list_fault, Kind, a_limit, a_first, a_step, a_promise, limit_of, step_of, record_fault, byte, body_at, next_at}
use Rattle.meaning.specs.Sheet.{after_at, records_fault, letters_in, firsts_at, steps_at, promises_at, end_at, first_fault}
use Rattle.meaning.specs.Faults.{SizeFits, VersionFits, LengthFits, LettersFit, LimitsFit, PromisesFit, GoodHeader, start_of}
use Rattle.meaning.specs.Faults.{records_in}
use Rattle.meaning.specs.Faults.{kind_at, Present, ShapeFits, literals_from, LiteralAt, Begins, NamesLetter, Ascends, GoodRecord}
use Rattle.meaning.specs.Faults.{GoodUpTo}
use Rattle.meaning.specs.Faults.{Comes, LiteralComes, Fault1, Fault2, Fault3, Fault4, Fault5, Fault6, Fault7, Fault8, Fault9, Fault10}
use Rattle.meaning.proofs.Parts.{and_parts}
use Rattle.meaning.proofs.Promised.{same-fault, bad-not-good}

-- ---- one check after another

-- what checks found: nothing, and then Good is so; or a fault at a place, and then Bad is so of them
pub record Means (Good : Type 0) (Bad : Why → ℕ → Type 0) (o : Option Fault) : Type 0 where
  pub good : o ≡ none → Good
  pub bad : (f : Fault) → o ≡ some f → Bad f.why f.at

module _ {G : Type 0} {B : Why → ℕ → Type 0} where
  pub found_none : G → Means G B none
  found_none g = record { good = λ e. g; bad = λ f e. absurd (bad-not-good e refl) }

  pub found_some : (f : Fault) → B f.why f.at → Means G B (some f)
  found_some f b = record {
    good = λ e. absurd (bad-not-good {f = f} refl e);
    bad = λ g e. subst (λ (x : Fault). B x.why x.at) (same-fault refl e) b;
  }

  -- one check, and what comes after it
  pub check : (b : Bool) (why : Why) (at : ℕ) (later : Option Fault) → (b ≡ false → B why at) → (b ≡ true → Means G B later)
      → Means G B (unless b why at then later)
  check true why at later bad go = go refl
  check false why at later bad go = found_some (record { why = why; at = at }) (bad refl)

  -- the last check
  pub check-last : (b : Bool) (why : Why) (at : ℕ) → (b ≡ false → B why at) → (b ≡ true → G) → Means G B (unless b why at)
  check-last true why at bad good = found_none (good refl)
  check-last false why at bad good = found_some (record { why = why; at = at }) (bad refl)

module _ {G H : Type 0} {B C : Why → ℕ → Type 0} where
  -- checks that are known already, and what comes after them
  pub then-means : (x later : Option Fault) → Means G B x → (G → Means H C later) → ((w : Why) (q : ℕ) → B w q → C w q)
      → Means H C (x then later)
  then-means none later m go keep = go (m.good refl)
  then-means (some f) later m go keep = record {
    good = λ e. absurd (bad-not-good {f = f} refl e);
    bad = λ g e. keep g.why g.at (m.bad g e);
  }

  -- the same in other words
  pub map-means : (x : Option Fault) → Means G B x → (G → H) → ((w : Why) (q : ℕ) → B w q → C w q) → Means H C x
  map-means x m good bad = record { good = λ e. good (m.good e); bad = λ f e. bad f.why f.at (m.bad f e) }

-- two bounds tested together
pub bounds : (a b c d : ℕ) → leb a b && leb c d ≡ true → (a ≤ b) × (c ≤ d)
bounds a b c d e =
    let w = (and_parts (leb a b) (leb c d)).0 (subst T (sym e) tt) in
    (leb→le a b w.0, leb→le c d w.1)

pub no-bounds : (a b c d : ℕ) → leb a b && leb c d ≡ false → (a ≤ b) × (c ≤ d) → ⊥
no-bounds a b c d e w = subst T e ((and_parts (leb a b) (leb c d)).1 (le→leb a b w.0, le→leb c d w.1))

-- ---- a list of literals

-- as a signed number above the byte before it
abbrev pub Rises : List ℕ → ℕ → Type 0
Rises s i = (byte s (i - 1) + 128) % 256 < (byte s i + 128) % 256

-- literal i is good, where lists begin at the places of B
abbrev pub Fits : List ℕ → (B : ℕ → Type 0) → ℕ → Type 0
Fits s B i = NamesLetter s i × (B i ⊎ Rises s i)

-- all literals from place `from` up to `end` are good
abbrev pub AllFit : List ℕ → (B : ℕ → Type 0) → (from end : ℕ) → Type 0
AllFit s B from end = (i : ℕ) → from ≤ i → i < end → Fits s B i

-- literal i is reached, those before it being good
pub record Reached (s : List ℕ) (B : ℕ → Type 0) (from end i : ℕ) : Type 0 where
  pub behind : from ≤ i
  pub within : i < end
  pub earlier : AllFit s B from i

-- what is wrong with literal i, the first that is not good
abbrev pub Unfit : List ℕ → (B : ℕ → Type 0) → (from end : ℕ) → Why → ℕ → Type 0
Unfit s B from end bad_size i = ⊥
Unfit s B from end bad_version i = ⊥
Unfit s B from end bad_length i = ⊥
Unfit s B from end bad_letters i = ⊥
Unfit s B from end too_many_records i = ⊥
Unfit s B from end record_missing i = ⊥
Unfit s B from end bad_shape i = ⊥
Unfit s B from end bad_literal i = Reached s B from end i × (NamesLetter s i → ⊥)
Unfit s B from end not_rising i = Reached s B from end i × NamesLetter s i × (B i ⊎ Rises s i → ⊥)
Unfit s B from end surplus i = ⊥

-- The same with a later end.
further : (s : List ℕ) (B : ℕ → Type 0) (from end later : ℕ) → end ≤ later
    → (w : Why) (i : ℕ) → Unfit s B from end w i → Unfit s B from later w i
further s B from end later le bad_size i bad = bad
further s B from end later le bad_version i bad = bad
further s B from end later le bad_length i bad = bad
further s B from end later le bad_letters i bad = bad
further s B from end later le too_many_records i bad = bad
further s B from end later le record_missing i bad = bad
further s B from end later le bad_shape i bad = bad
further s B from end later le bad_literal i (r, unnamed) =
    (record { behind = r.behind; within = omega (arith, r.within); earlier = r.earlier }, unnamed)
further s B from end later le not_rising i (r, named, falls) =
    (record { behind = r.behind; within = omega (arith, r.within); earlier = r.earlier }, named, falls)
further s B from end later le surplus i bad = bad

-- a list of bytes stands in the sheet from `at` on
abbrev pub Stands : List ℕ → List ℕ → ℕ → Type 0
Stands ls s at = (i : ℕ) → i < length ls → get_or ls i 0 ≡ byte s (at + i)

stands_at : (ls s : List ℕ) (at i k : ℕ) → Stands ls s at → i < length ls → at + i ≡ k → get_or ls i 0 ≡ byte s k
stands_at ls s at i k stands p e = stands i p ∙ ap (byte s) e

-- the byte that the literal at `at` is held against: 128 where its list begins, else the byte before
abbrev Before : List ℕ → (B : ℕ → Type 0) → (at before : ℕ) → Type 0
Before s B at before = (B at × (before ≡ 128)) ⊎ ((B at → ⊥) × (before ≡ byte s (at - 1)))

-- Byte 128 is below every literal that names a letter.
above-least : (n b : ℕ) → n < 128 → 1 ≤ size b → size b ≤ n → (128 + 128) % 256 < (b + 128) % 256
unfolding size positive
above-least n b few one most = by (dec_lt b 128)
  where
    by : Dec (b < 128) → (128 + 128) % 256 < (b + 128) % 256
    by (yes p) = omega arith
    by (no p) =
        let e : size b ≡ 256 - b = simp (le-ltb b 128 (omega arith)) in
        omega arith

-- A literal that passed both tests is good; one that failed the second does not ascend.
ascends : (s : List ℕ) (B : ℕ → Type 0) (at before : ℕ) → Before s B at before → signed_below before (byte s at) ≡ true → B at ⊎ Rises s at
unfolding signed_below
ascends s B at before (inl (begins, e)) t = inl begins
ascends s B at before (inr (inside, e)) t =
    inr (subst (λ (b : ℕ). (b + 128) % 256 < (byte s at + 128) % 256) e (ltb-true _ _ t))

falls : (s : List ℕ) (B : ℕ → Type 0) (at before : ℕ) → byte s 3 < 128 → NamesLetter s at → Before s B at before
    → signed_below before (byte s at) ≡ false → B at ⊎ Rises s at → ⊥
unfolding signed_below
falls s B at before few named (inl (begins, e)) t up =
    let low = ltb-false ((before + 128) % 256) ((byte s at + 128) % 256) t in
    let least = above-least (byte s 3) (byte s at) few named.0 named.1 in
    omega (arith, e)
falls s B at before few named (inr (inside, e)) t (inl begins) = inside begins
falls s B at before few named (inr (inside, e)) t (inr up) =
    let low = ltb-false ((before + 128) % 256) ((byte s at + 128) % 256) t in
    let low' = subst (λ (b : ℕ). (byte s at + 128) % 256 ≤ (b + 128) % 256) e low in
    omega arith

one_more : (s : List ℕ) (B : ℕ → Type 0) (from at : ℕ) → AllFit s B from at → Fits s B at → AllFit s B from (suc at)
one_more s B from at before here i low high = by (dec_lt i at)
  where
    by : Dec (i < at) → Fits s B i
    by (yes p) = before i low p
    by (no p) =
        let e : at ≡ i = omega arith in
        subst (Fits s B) e here

-- One list's literals: all are good, or the first that is not stands at the place found.
literals-found : (s : List ℕ) (B : ℕ → Type 0) (from end : ℕ) → byte s 3 < 128
    → (ls : List ℕ) (at before : ℕ) → from ≤ at → at + length ls ≡ end → Stands ls s at → (at < end → Before s B at before)
    → ((i : ℕ) → at < i → i < end → B i → ⊥) → AllFit s B from at
    → Means (AllFit s B from end) (Unfit s B from end) (literals_fault (byte s 3) at before ls)
unfolding literals_fault names
literals-found s B from end few [] at before low long stands start inside earlier =
    found_none (λ i p q. earlier i p (omega arith))
literals-found s B from end few (b ∷ bs) at before low long stands start inside earlier =
    let here : b ≡ byte s at = stands_at (b ∷ bs) s at 0 at stands (omega arith) (omega arith) in
    let reached : Reached s B from end at = record { behind = low; within = omega arith; earlier = earlier } in
    check (names (byte s 3) b) bad_literal at _
    (λ t. (
      reached,
      λ named. no-bounds 1 (size (byte s at)) (size (byte s at)) (byte s 3)
          (subst (λ (x : ℕ). names (byte s 3) x ≡ false) here t) named,
    ))
    (λ t.
    let named : NamesLetter s at =
    bounds 1 (size (byte s at)) (size (byte s at)) (byte s 3) (subst (λ (x : ℕ). names (byte s 3) x ≡ true) here t) in
    check (signed_below before b) not_rising at _
    (λ u. (reached, named, falls s B at before few named (start (omega arith)) (subst (λ (x : ℕ). signed_below before x ≡ false) here u)))
    (λ u.
    let up = ascends s B at before (start (omega arith)) (subst (λ (x : ℕ). signed_below before x ≡ true) here u) in
    literals-found s B from end few bs (suc at) b (omega arith) (omega arith)
    (λ i p. stands_at (b ∷ bs) s at (suc i) (suc at + i) stands (omega arith) (omega arith))
    (λ p. inr (inside (suc at) (omega arith) p, stands_at (b ∷ bs) s at 0 (suc at - 1) stands (omega arith) (omega arith)))
    (λ i p q. inside i (omega arith) q)
    (one_more s B from at earlier (named, up))))

-- A list that begins at `at`, from its first literal on.
pub list-found : (s : List ℕ) (B : ℕ → Type 0) (from end : ℕ) → byte s 3 < 128
    → (ls : List ℕ) (at : ℕ) → from ≤ at → at + length ls ≡ end → Stands ls s at → B at
    → ((i : ℕ) → at < i → i < end → B i → ⊥) → AllFit s B from at
    → Means (AllFit s B from end) (Unfit s B from end) (list_fault (byte s 3) at ls)
unfolding list_fault
list-found s B from end few ls at low long stands begins inside earlier =
    literals-found s B from end few ls at 128 low long stands (λ p. inl (begins, refl)) inside earlier

-- ---- a record

-- A record's own bytes are as many as its length byte says, where they fit, and stand behind it.
pub body-long : (s : List ℕ) (q : ℕ) → Present s q → length (body_at s q) ≡ byte s q
unfolding body_at
body-long s q there =
    let room : byte s q ≤ length (drop (suc q) s) = omega (arith, length-drop (suc q) s) in
    length-take-le (byte s q) (drop (suc q) s) room

pub body-stands : (s : List ℕ) (q : ℕ) → Present s q → Stands (body_at s q) s (q + 1)
unfolding body_at byte
body-stands s q there i p =
    let low : i < byte s q = omega (arith, body-long s q there) in
    let e : suc q + i ≡ q + 1 + i = omega arith in
    get_or-take (get_or s q 0) (drop (suc q) s) i 0 low ∙ get_or-drop (suc q) s i 0 ∙ ap (λ (k : ℕ). get_or s k 0) e

-- What stands from a place on, without its first k bytes; and its first k bytes alone.
drop-stands : (ls s : List ℕ) (at k : ℕ) → Stands ls s at → Stands (drop k ls) s (at + k)
drop-stands ls s at k stands i p =
    let e : at + (k + i) ≡ at + k + i = omega arith in
    get_or-drop k ls i 0 ∙ stands (k + i) (omega (arith, length-drop k ls)) ∙ ap (byte s) e

take-stands : (ls s : List ℕ) (at k : ℕ) → k ≤ length ls → Stands ls s at → Stands (take k ls) s at
take-stands ls s at k few stands i p =
    let low : i < k = omega (arith, length-take-le k ls few) in
    get_or-take k ls i 0 low ∙ stands i (omega arith)

-- a record's end: the place behind its last byte
abbrev pub end_of : List ℕ → ℕ → ℕ
end_of s q = q + suc (byte s q)

-- a record has its shape, and its literals are good
abbrev pub RecordFits : Kind → List ℕ → ℕ → Type 0
RecordFits kind s q = ShapeFits kind s q × AllFit s (Begins kind s q) (literals_from kind q) (end_of s q)

-- what is wrong with it: its shape, or a literal
abbrev pub RecordUnfit : Kind → List ℕ → ℕ → Why → ℕ → Type 0
RecordUnfit kind s q w p =
    ((w ≡ bad_shape) × (ShapeFits kind s q → ⊥) × (p ≡ q)) ⊎ (ShapeFits kind s q × Unfit s (Begins kind s q) (literals_from kind q)
    (end_of s q) w p)

module _ (s : List ℕ) (q : ℕ) (few : byte s 3 < 128) (there : Present s q) where
  -- the byte behind the length byte is the first of the record's own
  own_first : 1 ≤ byte s q → get_or (body_at s q) 0 0 ≡ byte s (q + 1)
  own_first some_byte =
      stands_at (body_at s q) s (q + 1) 0 (q + 1) (body-stands s q there) (omega (arith, body-long s q there)) (omega arith)

  nothing-before : (B : ℕ → Type 0) (at : ℕ) → AllFit s B at at
  nothing-before B at i low high = absurd (omega arith)

  limit-found : Means (RecordFits a_limit s q) (RecordUnfit a_limit s q) (record_fault a_limit (byte s 3) q (body_at s q))
  unfolding record_fault limit_of
  limit-found =
      let long = body-long s q there in
      check (leb 2 (length (body_at s q)) && leb (get_or (body_at s q) 0 0) 1) bad_shape q _
      (λ t. inl (
        refl,
        (λ shape. no-bounds 2 (length (body_at s q)) (get_or (body_at s q) 0 0) 1 t
            (omega (arith, long, shape.0), omega (arith, own_first (omega (arith, shape.0)), shape.1))),
        refl,
      ))
      (λ t.
      let both = bounds 2 (length (body_at s q)) (get_or (body_at s q) 0 0) 1 t in
      let shape : ShapeFits a_limit s q = (
        omega (arith, long, both.0),
        omega (arith, long, both.0, both.1, own_first (omega (arith, long, both.0))),
      ) in
      let e : q + 3 ≡ q + 1 + 2 = omega arith in
      map-means _
      (list-found s (Begins a_limit s q) (q + 3) (end_of s q) few (drop 2 (body_at s q)) (q + 3) (omega arith)
      (omega (arith, long, both.0, length-drop 2 (body_at s q)))
      (subst (Stands (drop 2 (body_at s q)) s) (sym e) (drop-stands (body_at s q) s (q + 1) 2 (body-stands s q there)))
      refl (λ i p r b. omega arith) (nothing-before (Begins a_limit s q) (q + 3)))
      (λ fit. (shape, fit)) (λ w i bad. inr (shape, bad)))

  first_found : Means (RecordFits a_first s q) (RecordUnfit a_first s q) (record_fault a_first (byte s 3) q (body_at s q))
  unfolding record_fault
  first_found =
      map-means _
      (list-found s (Begins a_first s q) (q + 1) (end_of s q) few (body_at s q) (q + 1) (omega arith) (omega (arith, body-long s q there))
      (body-stands s q there) refl (λ i p r b. omega arith) (nothing-before (Begins a_first s q) (q + 1)))
      (λ fit. (tt, fit)) (λ w i bad. inr (tt, bad))

  promise-found : Means (RecordFits a_promise s q) (RecordUnfit a_promise s q) (record_fault a_promise (byte s 3) q (body_at s q))
  unfolding record_fault
  promise-found =
      let long = body-long s q there in
      check (eqb (length (body_at s q)) 1) bad_shape q _
      (λ t. inl (refl, (λ shape. eqb-false (length (body_at s q)) 1 t (omega (arith, long, shape))), refl))
      (λ t.
      let shape : ShapeFits a_promise s q = omega (arith, long, eqb-true (length (body_at s q)) 1 t) in
      map-means _
      (list-found s (Begins a_promise s q) (q + 1) (end_of s q) few (body_at s q) (q + 1) (omega arith) (omega (arith, body-long s q there))
      (body-stands s q there) refl (λ i p r b. omega arith) (nothing-before (Begins a_promise s q) (q + 1)))
      (λ fit. (shape, fit)) (λ w i bad. inr (shape, bad)))

  -- the first byte behind a step rule's left side
  sides : ℕ
  sides = q + 2 + get_or (body_at s q) 0 0

  -- within a step rule's left side, and within its right side, no list begins
  module _ (count : get_or (body_at s q) 0 0 ≡ byte s (q + 1)) where
    in_left : (i : ℕ) → q + 2 < i → i < sides → Begins a_step s q i → ⊥
    unfolding sides
    in_left i p r (inl e) = omega arith
    in_left i p r (inr e) = omega (arith, count)

    in_right : (i : ℕ) → sides < i → i < end_of s q → Begins a_step s q i → ⊥
    unfolding sides
    in_right i p r (inl e) = omega arith
    in_right i p r (inr e) = omega (arith, count)

  step-found : Means (RecordFits a_step s q) (RecordUnfit a_step s q) (record_fault a_step (byte s 3) q (body_at s q))
  unfolding record_fault step_of sides
  step-found =
      let long = body-long s q there in
      let own = body_at s q in
      let a = get_or (body_at s q) 0 0 in
      check (leb 1 (length own) && leb a (length own - 1)) bad_shape q _
      (λ t. inl (
        refl,
        (λ shape. no-bounds 1 (length own) a (length own - 1) t
            (omega (arith, long, shape), omega (arith, long, own_first (omega (arith, shape)), shape))),
        refl,
      ))
      (λ t.
      let both = bounds 1 (length own) a (length own - 1) t in
      let count : a ≡ byte s (q + 1) = own_first (omega (arith, long, both.0)) in
      let shape : ShapeFits a_step s q = omega (arith, long, both.0, both.1, count) in
      let e : q + 2 ≡ q + 1 + 1 = omega arith in
      let rest : Stands (drop 1 own) s (q + 2) =
      subst (Stands (drop 1 own) s) (sym e) (drop-stands own s (q + 1) 1 (body-stands s q there)) in
      let room : a ≤ length (drop 1 own) = omega (arith, length-drop 1 own, both.1) in
      let B = Begins a_step s q in
      then-means _ _
      (list-found s B (q + 2) (q + 2 + a) few (take a (drop 1 own)) (q + 2) (omega arith)
      (omega (arith, length-take-le a (drop 1 own) room)) (take-stands (drop 1 own) s (q + 2) a room rest)
      (inl refl) (in_left count) (nothing-before B (q + 2)))
      (λ fit. map-means _
      (list-found s B (q + 2) (end_of s q) few (drop a (drop 1 own)) (q + 2 + a) (omega arith)
      (omega (arith, long, both.0, both.1, length-drop a (drop 1 own), length-drop 1 own)) (drop-stands (drop 1 own) s (q + 2) a rest)
      (inr (omega (arith, count))) (in_right count) fit)
      (λ all. (shape, all)) (λ w i bad. inr (shape, bad)))
      (λ w i bad. inr (shape, further s B (q + 2) (q + 2 + a) (end_of s q) (omega (arith, count, shape)) w i bad)))

  -- A record that is there: it fits, or what is wrong with it.
  pub record-found : (kind : Kind) → Means (RecordFits kind s q) (RecordUnfit kind s q) (record_fault kind (byte s 3) q (body_at s q))
  record-found a_limit = limit-found
  record-found a_first = first_found
  record-found a_step = step-found
  record-found a_promise = promise-found

-- ---- the records, counted over all four kinds

-- this fault at this place, said of the sheet's bytes
abbrev pub FaultAt : List ℕ → Why → ℕ → Type 0
FaultAt s bad_size q = Fault1 s q
FaultAt s bad_version q = Fault2 s q
FaultAt s bad_length q = Fault3 s q
FaultAt s bad_letters q = Fault4 s q
FaultAt s too_many_records q = Fault5 s q
FaultAt s record_missing q = Fault6 s q
FaultAt s bad_shape q = Fault7 s q
FaultAt s bad_literal q = Fault8 s q
FaultAt s not_rising q = Fault9 s q
FaultAt s surplus q = Fault10 s q

-- the header and all records are good, and the last record ends at the sheet's end
abbrev pub Whole : List ℕ → Type 0
Whole s = GoodUpTo s (records_in s) × (start_of s (records_in s) ≡ length s)

-- the fault of the last `count` records, the first of them record j at place `at`, and of the sheet's end
unfoldable rest_fault : List ℕ → (count j at : ℕ) → Option Fault
rest_fault s zero j at = unless (eqb at (length s)) surplus at
rest_fault s (suc count) j at =
    unless (leb (next_at s at) (length s)) record_missing at
    then record_fault (kind_at s j) (byte s 3) at (body_at s at)
    then rest_fault s count (suc j) (next_at s at)

-- All records before j being good, record j begins within the sheet.
pub starts-within : (s : List ℕ) (j : ℕ) → GoodUpTo s j → start_of s j ≤ length s
unfolding start_of
starts-within s zero good = good.header.sized.0
starts-within s (suc j) good = (good.records j (omega arith)).present

-- One record more is good.
next-good : (s : List ℕ) (j : ℕ) → GoodUpTo s j → GoodRecord s j → GoodUpTo s (suc j)
next-good s j good here = record { header = good.header; records = λ i p. by i p (dec_lt i j) }
  where
    by : (i : ℕ) → i < suc j → Dec (i < j) → GoodRecord s i
    by i p (yes q) = good.records i q
    by i p (no q) =
        let e : j ≡ i = omega arith in
        subst (GoodRecord s) e here

module _ (s : List ℕ) (j : ℕ) (good : GoodUpTo s j) (announced : j < records_in s) where
  comes : Comes s j (start_of s j)
  comes = record { before = good; announced = announced; begins = refl }

  -- A record that fits is good.
  fits-good : Present s (start_of s j) → RecordFits (kind_at s j) s (start_of s j) → GoodRecord s j
  fits-good there (shape, fit) =
      record { present = there; shape = shape; literals = λ i at. fit i at.0 (omega (arith, at.1)) }

  module _ (there : Present s (start_of s j)) where
    reached-comes : (i : ℕ) → ShapeFits (kind_at s j) s (start_of s j)
        → Reached s (Begins (kind_at s j) s (start_of s j)) (literals_from (kind_at s j) (start_of s j)) (end_of s (start_of s j)) i
        → LiteralComes s j (start_of s j) i
    reached-comes i shape r = record {
      comes = comes;
      present = there;
      shape = shape;
      literal = (r.behind, omega (arith, r.within));
      earlier = λ h at before. r.earlier h at.0 before;
    }

    -- A literal that is not good is the sheet's fault 8 or 9.
    literal-fault : (w : Why) (p : ℕ) → ShapeFits (kind_at s j) s (start_of s j)
        → Unfit s (Begins (kind_at s j) s (start_of s j)) (literals_from (kind_at s j) (start_of s j)) (end_of s (start_of s j)) w p
        → FaultAt s w p
    literal-fault bad_size p shape bad = absurd bad
    literal-fault bad_version p shape bad = absurd bad
    literal-fault bad_length p shape bad = absurd bad
    literal-fault bad_letters p shape bad = absurd bad
    literal-fault too_many_records p shape bad = absurd bad
    literal-fault record_missing p shape bad = absurd bad
    literal-fault bad_shape p shape bad = absurd bad
    literal-fault bad_literal p shape (r, unnamed) = (j, start_of s j, reached-comes p shape r, unnamed)
    literal-fault not_rising p shape (r, named, falls) = (j, start_of s j, reached-comes p shape r, named, falls)
    literal-fault surplus p shape bad = absurd bad

    -- What is wrong with the record is the sheet's fault.
    record-fault : (w : Why) (p : ℕ) → RecordUnfit (kind_at s j) s (start_of s j) w p → FaultAt s w p
    record-fault w p (inl (why, misshapen, here)) =
        subst (λ (x : Why). FaultAt s x p) (sym why)
        (subst (Fault7 s) (sym here) (j, comes, there, misshapen))
    record-fault w p (inr (shape, bad)) = literal-fault w p shape bad

next-is : (s : List ℕ) (at : ℕ) → next_at s at ≡ at + suc (byte s at)
unfolding next_at
next-is s at = omega arith

start-next : (s : List ℕ) (j at : ℕ) → start_of s j ≡ at → start_of s (suc j) ≡ next_at s at
unfolding start_of
start-next s j at begins = ap (λ (k : ℕ). k + suc (byte s k)) begins ∙ sym (next-is s at)

-- All records from j on, those before it being good.
rest-found : (s : List ℕ) (count j at : ℕ) → j + count ≡ records_in s → GoodUpTo s j → start_of s j ≡ at
    → Means (Whole s) (FaultAt s) (rest_fault s count j at)
unfolding rest_fault
rest-found s zero j at all good begins =
    let last : j ≡ records_in s = omega arith in
    let end : start_of s (records_in s) ≡ at = ap (start_of s) (sym last) ∙ begins in
    let whole = subst (GoodUpTo s) last good in
    check-last (eqb at (length s)) surplus at
    (λ t. (whole, end, omega (arith, eqb-false at (length s) t, starts-within s j good, begins)))
    (λ t. (whole, end ∙ eqb-true at (length s) t))
rest-found s (suc count) j at all good begins =
    let few : byte s 3 < 128 = omega (arith, good.header.letters.1) in
    let announced : j < records_in s = omega arith in
    check (leb (next_at s at) (length s)) record_missing at _
    (λ t. (
      j,
      subst (Comes s j) begins (comes s j good announced),
      λ there. omega (
        arith,
        leb-false (next_at s at) (length s) t,
        there,
        next-is s at,
      ),
    ))
    (λ t.
    let there : Present s at = omega (arith, leb-true (next_at s at) (length s) t, next-is s at) in
    let there' : Present s (start_of s j) = subst (Present s) (sym begins) there in
    then-means _ _ (record-found s at few there (kind_at s j))
    (λ fits. rest-found s count (suc j) (next_at s at) (omega arith)
    (next-good s j good (fits-good s j good announced there' (subst (RecordFits (kind_at s j) s) (sym begins) fits)))
    (start-next s j at begins))
    (λ w p bad. record-fault s j good announced there' w p (subst (λ (k : ℕ). RecordUnfit (kind_at s j) s k w p) (sym begins) bad)))

-- ---- the four sections are one row of records

then-assoc : (x y z : Option Fault) → ((x then y) then z) ≡ (x then (y then z))
then-assoc none y z = refl
then-assoc (some f) y z = refl

-- A section's records and then the rest are the records from its first on.
section-joined : (s : List ℕ) (kind : Kind) (count more j at : ℕ) → ((i : ℕ) → j ≤ i → i < j + count → kind_at s i ≡ kind)
    → (records_fault kind (byte s 3) s count at then rest_fault s more (j + count) (after_at s count at)) ≡ rest_fault s (count + more) j at
unfolding records_fault rest_fault after_at
section-joined s kind zero more j at same =
    let e : j + 0 ≡ j = omega arith in
    let e' : 0 + more ≡ more = omega arith in
    ap (λ (k : ℕ). rest_fault s more k at) e ∙ ap (λ (m : ℕ). rest_fault s m j at) (sym e')
section-joined s kind (suc count) more j at same =
    let tail = section-joined s kind count more (suc j) (next_at s at) (λ i p q. same i (omega arith) (omega arith)) in
    let here : kind_at s j ≡ kind = same j (omega arith) (omega arith) in
    let e : j + suc count ≡ suc j + count = omega arith in
    let e' : suc count + more ≡ suc (count + more) = omega arith in
    let next = next_at s at in
    let missing = unless (leb next (length s)) record_missing at in
    let own : Kind → Option Fault = λ k. record_fault k (byte s 3) at (body_at s at) in
    let others = records_fault kind (byte s 3) s count next in
    let rest : ℕ → Option Fault = λ k. rest_fault s more k (after_at s count next) in
    ap (λ (k : ℕ). (missing then own kind then others) then rest k) e
    ∙ then-assoc missing (own kind then others) (rest (suc j + count))
    ∙ ap (λ (x : Option Fault). missing then x)
    (then-assoc (own kind) others (rest (suc j + count)) ∙ ap (λ (x : Option Fault). own kind then x) tail
    ∙ ap (λ (k : Kind). own k then rest_fault s (count + more) (suc j) next) (sym here))
    ∙ ap (λ (m : ℕ). rest_fault s m j at) (sym e')

-- Which records are limits, first rules, step rules and promises.
module _ (s : List ℕ) (i : ℕ) where
  limit-kind : i < byte s 4 → kind_at s i ≡ a_limit
  unfolding kind_at
  limit-kind p = simp (lt-ltb i (byte s 4) p)

  first_kind : byte s 4 ≤ i → i < byte s 4 + byte s 5 → kind_at s i ≡ a_first
  unfolding kind_at
  first_kind p q = simp (le-ltb i (byte s 4) p, lt-ltb i (byte s 4 + byte s 5) q)

  step-kind : byte s 4 + byte s 5 ≤ i → i < byte s 4 + byte s 5 + byte s 6 → kind_at s i ≡ a_step
  unfolding kind_at
  step-kind p q =
      simp (le-ltb i (byte s 4) (omega arith), le-ltb i (byte s 4 + byte s 5) p, lt-ltb i (byte s 4 + byte s 5 + byte s 6) q)

  promise-kind : byte s 4 + byte s 5 + byte s 6 ≤ i → kind_at s i ≡ a_promise
  unfolding kind_at
  promise-kind p =
      simp (le-ltb i (byte s 4) (omega arith), le-ltb i (byte s 4 + byte s 5) (omega arith), le-ltb i (byte s 4 + byte s 5 + byte s 6) p)

-- The sections and the sheet's end are all records and the sheet's end.
sections-joined : (s : List ℕ)
    → (records_fault a_limit (byte s 3) s (byte s 4) 8
    then records_fault a_first (byte s 3) s (byte s 5) (firsts_at s)
    then records_fault a_step (byte s 3) s (byte s 6) (steps_at s)
    then records_fault a_promise (byte s 3) s (byte s 7) (promises_at s)
    then unless (eqb (end_at s) (length s)) surplus (end_at s)) ≡ rest_fault s (records_in s) 0 8
unfolding firsts_at steps_at promises_at end_at records_in rest_fault
sections-joined s =
    let n = byte s 3 in
    let b4 = byte s 4 in
    let b5 = byte s 5 in
    let b6 = byte s 6 in
    let b7 = byte s 7 in
    let limits = records_fault a_limit n s b4 8 in
    let firsts = records_fault a_first n s b5 (firsts_at s) in
    let steps = records_fault a_step n s b6 (steps_at s) in
    let promises = section-joined s a_promise b7 0 (b4 + b5 + b6) (promises_at s) (λ i p q. promise-kind s i p) in
    let e : 0 + b4 ≡ b4 = omega arith in
    let all : b4 + (b5 + (b6 + (b7 + 0))) ≡ b4 + b5 + b6 + b7 = omega arith in
    ap (λ (x : Option Fault). limits then firsts then steps then x) promises
    ∙ ap (λ (x : Option Fault). limits then firsts then x) (section-joined s a_step b6 (b7 + 0) (b4 + b5) (steps_at s)
    (λ i p q. step-kind s i p q))
    ∙ ap (λ (x : Option Fault). limits then x) (section-joined s a_first b5 (b6 + (b7 + 0)) b4 (firsts_at s) (λ i p q. first_kind s i p q))
    ∙ ap (λ (k : ℕ). limits then rest_fault s (b5 + (b6 + (b7 + 0))) k (firsts_at s)) (sym e)
    ∙ section-joined s a_limit b4 (b5 + (b6 + (b7 + 0))) 0 8 (λ i p q. limit-kind s i (omega arith))
    ∙ ap (λ (m : ℕ). rest_fault s m 0 8) all

-- ---- the whole sheet

-- What `first_fault` finds is so: the sheet is good, or it has this fault at this place.
pub first-fault-found : (s : List ℕ) → Means (Whole s) (FaultAt s) (first_fault s)
unfolding first_fault letters_in start_of
first-fault-found s =
    let long = length s in
    let n = byte s 3 in
    check (leb 8 long && leb long 4096) bad_size 0 _ (λ t. (no-bounds 8 long long 4096 t, refl)) (λ t1.
    let sized = bounds 8 long long 4096 t1 in
    check (eqb (byte s 0) 1) bad_version 0 _ (λ t. (sized, eqb-false (byte s 0) 1 t, refl)) (λ t2.
    let version = eqb-true (byte s 0) 1 t2 in
    check (eqb (byte s 1 * 256 + byte s 2) long) bad_length 1 _
    (λ t. (sized, version, eqb-false (byte s 1 * 256 + byte s 2) long t, refl)) (λ t3.
    let stated = eqb-true (byte s 1 * 256 + byte s 2) long t3 in
    check (leb 1 n && leb n 24) bad_letters 3 _ (λ t. (sized, version, stated, no-bounds 1 n n 24 t, refl)) (λ t4.
    let letters = bounds 1 n n 24 t4 in
    check (leb (byte s 4) 32) too_many_records 4 _
    (λ t. (sized, version, stated, letters, inl ((λ fit. omega (arith, leb-false (byte s 4) 32 t, fit)), refl))) (λ t5.
    let limits = leb-true (byte s 4) 32 t5 in
    check (leb (byte s 7) 16) too_many_records 7 _
    (λ t. (sized, version, stated, letters, inr (limits, (λ fit. omega (arith, leb-false (byte s 7) 16 t, fit)), refl))) (λ t6.
    let header : GoodHeader s = record {
      sized = sized;
      version = version;
      long = stated;
      letters = letters;
      limits = limits;
      promises = leb-true (byte s 7) 16 t6;
    } in
    subst (Means (Whole s) (FaultAt s)) (sym (sections-joined s))
    (rest-found s (records_in s) 0 8 (omega arith) (record { header = header; records = λ i p. absurd (omega arith) }) refl)))))))
