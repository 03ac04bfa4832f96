-- What the cursor's loops and checks keep, in the meaning's terms: "what is left to read has the fault of the whole". Assumes nothing.
use mathlib.Core.Path.{◌≡◌, refl, sym, ◌∙◌, ap}
use mathlib.Core.Bool.{Bool, true, false, ◌&&◌}
use mathlib.Core.Option.{Option, none, some}
use mathlib.Core.List.{List, [], ◌∷◌}
use Prim.Native.Nat.{ℕ, ◌+◌, ◌-◌, ◌≤◌, ◌<◌}
use native.Mathlib.Omega.{arith}
use native.Mathlib.Numerals.{add-one}
use lib.Dec.{leb}
use lib.ListN.{length, get_or}
use borrow.Author.Tests.{le-leb, lt-leb, eq-eqb, ne_eqb}
use Rattle.meaning.specs.Sheet.{bad_shape, Fault, unless, ◌then◌, signed_below, names, literals_fault, list_fault}
use Rattle.meaning.specs.Sheet.{byte, body_at, next_at, record_fault, step_of, a_limit, a_first, a_step, a_promise}
use Rattle.ground.proofs.Tests.{second-false}
use Rattle.reader.specs.declared.Why.TheVariants.{BadLiteral, NotAscending, BadShape}
use Rattle.reader.specs.declared.Fault as F
use Rattle.reader.specs.declared.cursor.Cursor.{Cursor}
use Rattle.std.specs.Prelude.{Ok, Err}
use Rattle.reader.specs.Answer.{Step, step_to, record_step}
use Rattle.reader.specs.Place.{part}
use Rattle.reader.specs.Parts.{LimitRead, StepRead}
use Rattle.reader.specs.declared.parts.LimitParts.{LimitParts}
use Rattle.reader.specs.declared.parts.StepParts.{StepParts}
use Rattle.reader.proofs.Good.{length-body}
use Rattle.reader.proofs.Bodies.{part_none, part-more, count-byte, body-from}

-- ---- one list

-- before the literal at `at`, which `before` precedes: what is left has the fault of the whole list from `start`
pub record Listing (s : List ℕ) (n end start before at : ℕ) : Type 0 where
  pub order : at ≤ end
  pub rest : literals_fault n at before (part at end s) ≡ list_fault n start (part start end s)

pub listing_begins : (s : List ℕ) (n start end : ℕ) → start ≤ end → Listing s n end start 128 start
unfolding list_fault
listing_begins s n start end h = record { order = h; rest = refl }

module _ (s : List ℕ) (n end start before at : ℕ) (l : Listing s n end start before at) where
  -- every literal was read
  pub listing-done : end ≤ at → Ok (record { at = at }) ≡ step_to end (list_fault n start (part start end s))
  unfolding literals_fault
  listing-done h =
      let e : at ≡ end = omega (arith, l.order) in
      let none_left : part at end s ≡ [] = ap (λ (k : ℕ). part k end s) e ∙ part_none end s in
      ap (λ (k : ℕ). Ok (record { at = k })) e
      ∙ ap (step_to end) (sym (ap (literals_fault n at before) none_left) ∙ l.rest)

  module _ (h : at < end) (w : end ≤ length s) where
    this : literals_fault n at before (get_or s at 0 ∷ part (at + 1) end s) ≡ list_fault n start (part start end s)
    this = ap (literals_fault n at before) (sym (part-more at end s h w)) ∙ l.rest

    -- a literal that names no letter
    pub listing-names-none :
        names n (get_or s at 0) ≡ false
        → Err (record { why = BadLiteral; at = at }) ≡ step_to end (list_fault n start (part start end s))
    unfolding literals_fault
    listing-names-none q = ap (step_to end) (rw q at this)

    -- a literal that does not ascend
    pub listing-falls :
        names n (get_or s at 0) ≡ true → signed_below before (get_or s at 0) ≡ false
        → Err (record { why = NotAscending; at = at }) ≡ step_to end (list_fault n start (part start end s))
    unfolding literals_fault
    listing-falls q r = ap (step_to end) (rw (q, r) at this)

    -- a literal without fault
    pub listing-goes-on :
        names n (get_or s at 0) ≡ true → signed_below before (get_or s at 0) ≡ true → Listing s n end start (get_or s at 0) (at + 1)
    unfolding literals_fault
    listing-goes-on q r = record {
      order = omega arith;
      rest = ap (λ (k : ℕ). literals_fault n k (get_or s at 0) (part (at + 1) end s)) (add-one at) ∙ rw (q, r) at this;
    }

-- ---- what a step says of the fault

-- a moved cursor: no fault, and where it is
pub moved : (e : ℕ) (o : Option Fault) {c : Cursor} → step_to e o ≡ Ok c → (o ≡ none) × (c.at ≡ e)
moved e none {c} q =
    let same : c ≡ record { at = e } = cc in
    (refl, ap (λ (k : Cursor). k.at) same)
moved e (some f) q = let z : ◌≡◌ {A = ℕ} 0 1 = cc in absurd (omega arith)

-- a fault stays the fault, whatever is read after it
pub refused : (e d : ℕ) (o later : Option Fault) {f : F.Fault} → step_to e o ≡ Err f → Err f ≡ step_to d (o then later)
refused e d none later q = let z : ◌≡◌ {A = ℕ} 0 1 = cc in absurd (omega arith)
refused e d (some g) later q = sym q

-- ---- one record

abbrev pub misshapen : ℕ → Step
misshapen at = Err (record { why = BadShape; at = at })

shapeless : (t : Bool) (e at : ℕ) (later : Option Fault) → t ≡ false → misshapen at ≡ step_to e (unless t bad_shape at then later)
shapeless t e at later q = rw q

shaped : (t : Bool) (at : ℕ) (later : Option Fault) → t ≡ true → later ≡ (unless t bad_shape at then later)
shaped t at later q = rw q

module _ (s : List ℕ) (n at : ℕ) (fits : next_at s at ≤ length s) where
  sized : length (body_at s at) ≡ byte s at
  sized = length-body s at fits

  -- a limit without kind and bound
  pub limit-short : byte s at < 2 → misshapen at ≡ record_step a_limit n s at
  unfolding record_step record_fault
  limit-short h =
      let t : leb 2 (length (body_at s at)) ≡ false = lt-leb 2 (length (body_at s at)) (omega (arith, sized)) in
      shapeless _ _ at _ (ap (λ (b : Bool). b && leb (get_or (body_at s at) 0 0) 1) t)

  -- a limit whose kind is neither 0 nor 1
  pub limit-kind : 2 ≤ byte s at → 1 < get_or s (at + 1) 0 → misshapen at ≡ record_step a_limit n s at
  unfolding record_step record_fault
  limit-kind h k =
      let e = count-byte s at (omega arith) in
      shapeless _ _ at _ (second-false (leb 2 (length (body_at s at))) _ (lt-leb (get_or (body_at s at) 0 0) 1 (omega (arith, e))))

  -- a limit of good shape has the fault of its list
  pub limit-shaped :
      (p : LimitParts) → LimitRead s at p → 2 ≤ byte s at → get_or s (at + 1) 0 ≤ 1
      → step_to p.end (list_fault n p.start (part p.start p.end s)) ≡ record_step a_limit n s at
  unfolding record_step record_fault
  limit-shaped p r h k =
      let e = count-byte s at (omega arith) in
      let long : leb 2 (length (body_at s at)) ≡ true = le-leb 2 (length (body_at s at)) (omega (arith, sized)) in
      let kind : leb (get_or (body_at s at) 0 0) 1 ≡ true = le-leb (get_or (body_at s at) 0 0) 1 (omega (arith, e)) in
      ap (λ (x : ℕ). step_to x (list_fault n p.start (part p.start p.end s))) r.end
      ∙ ap (λ (x : ℕ). step_to (next_at s at) (list_fault n x (part p.start p.end s))) r.start
      ∙ ap (λ (l : List ℕ). step_to (next_at s at) (list_fault n (at + 3) l)) r.among
      ∙ ap (step_to (next_at s at)) (shaped _ at _ (ap (λ (b : Bool). b && leb (get_or (body_at s at) 0 0) 1) long ∙ kind))

  -- a first rule has the fault of its list
  pub first-shaped :
      (p e : ℕ) → p ≡ at + 1 → e ≡ next_at s at → step_to e (list_fault n p (part p e s)) ≡ record_step a_first n s at
  unfolding record_step record_fault
  first-shaped p e q r =
      ap (λ (x : ℕ). step_to x (list_fault n p (part p e s))) r
      ∙ ap (λ (l : List ℕ). step_to (next_at s at) (list_fault n p l)) (body-from s at 0 p e (omega arith) r)
      ∙ ap (λ (x : ℕ). step_to (next_at s at) (list_fault n x (body_at s at))) q

  -- a promise that is not one literal
  pub promise-long : (byte s at ≡ 1 → ⊥) → misshapen at ≡ record_step a_promise n s at
  unfolding record_step record_fault
  promise-long h = shapeless _ _ at _ (ne_eqb (length (body_at s at)) 1 (λ e. h (sym sized ∙ e)))

  -- a promise of one literal has the fault of its list
  pub promise-shaped :
      (p e : ℕ) → p ≡ at + 1 → e ≡ next_at s at → byte s at ≡ 1 → step_to e (list_fault n p (part p e s)) ≡ record_step a_promise n s at
  unfolding record_step record_fault
  promise-shaped p e q r h =
      first-shaped p e q r ∙ ap (step_to (next_at s at)) (shaped _ at _ (eq-eqb (length (body_at s at)) 1 (sized ∙ h)))

  -- a step rule without its count
  pub step-short : byte s at < 1 → misshapen at ≡ record_step a_step n s at
  unfolding record_step record_fault
  step-short h =
      let t : leb 1 (length (body_at s at)) ≡ false = lt-leb 1 (length (body_at s at)) (omega (arith, sized)) in
      shapeless _ _ at _ (ap (λ (b : Bool). b && leb (get_or (body_at s at) 0 0) (length (body_at s at) - 1)) t)

  -- a step rule whose count runs past it
  pub step_count : 1 ≤ byte s at → byte s at ≤ get_or s (at + 1) 0 → misshapen at ≡ record_step a_step n s at
  unfolding record_step record_fault
  step_count h k =
      let e = count-byte s at h in
      shapeless _ _ at _
      (second-false (leb 1 (length (body_at s at))) _ (lt-leb (get_or (body_at s at) 0 0) (length (body_at s at) - 1) (omega (arith, e, sized))))

  module _ (p : StepParts) (r : StepRead s at p) (h : 1 ≤ byte s at) (k : get_or s (at + 1) 0 < byte s at) where
    right-place : p.right ≡ at + 2 + get_or (body_at s at) 0 0
    unfolding byte
    right-place =
        r.right-at ∙ ap (λ (x : ℕ). at + 2 + x) (ap (λ (i : ℕ). get_or s i 0) (sym (add-one at)) ∙ sym (count-byte s at h))

    -- a step rule of good shape has the fault of its left side, else of its right side
    sides :
        step_to (next_at s at)
        (list_fault n p.left (part p.left p.right s) then list_fault n p.right (part p.right p.end s))
        ≡ record_step a_step n s at
    unfolding record_step record_fault
    sides =
        let body = body_at s at in
        let a = count-byte s at h in
        let there : p.right ≡ at + 2 + get_or body 0 0 = right-place in
        let left : list_fault n p.left (part p.left p.right s) ≡ list_fault n (at + 2) (step_of body).left =
        ap (λ (x : ℕ). list_fault n x (part p.left p.right s)) r.left_at ∙ ap (list_fault n (at + 2)) r.left in
        let right : list_fault n p.right (part p.right p.end s) ≡ list_fault n (at + 2 + get_or body 0 0) (step_of body).right =
        ap (λ (x : ℕ). list_fault n x (part p.right p.end s)) there ∙ ap (list_fault n (at + 2 + get_or body 0 0)) r.right in
        let long : leb 1 (length body) ≡ true = le-leb 1 (length body) (omega (arith, sized)) in
        let count : leb (get_or body 0 0) (length body - 1) ≡ true =
        le-leb (get_or body 0 0) (length body - 1) (omega (arith, a, sized)) in
        ap (λ (o : Option Fault). step_to (next_at s at) (o then list_fault n p.right (part p.right p.end s))) left
        ∙ ap (λ (o : Option Fault). step_to (next_at s at) (list_fault n (at + 2) (step_of body).left then o)) right
        ∙ ap (step_to (next_at s at)) (shaped _ at _ (ap (λ (b : Bool). b && leb (get_or body 0 0) (length body - 1)) long ∙ count))

    pub left-refused :
        {f : F.Fault} → step_to p.right (list_fault n p.left (part p.left p.right s)) ≡ Err f
        → Err f ≡ record_step a_step n s at
    left-refused q = refused p.right (next_at s at) (list_fault n p.left (part p.left p.right s)) _ q ∙ sides

    pub left-moved :
        {c : Cursor} → step_to p.right (list_fault n p.left (part p.left p.right s)) ≡ Ok c
        → (c.at ≡ p.right) × (step_to p.end (list_fault n c.at (part c.at p.end s)) ≡ record_step a_step n s at)
    left-moved {c} q =
        let m = moved p.right (list_fault n p.left (part p.left p.right s)) q in (
          m.1,
          ap (λ (x : ℕ). step_to p.end (list_fault n x (part x p.end s))) m.1
              ∙ ap (λ (x : ℕ). step_to x (list_fault n p.right (part p.right p.end s))) r.end
              ∙ ap (λ (o : Option Fault). step_to (next_at s at) (o then list_fault n p.right (part p.right p.end s))) (sym m.0)
              ∙ sides,
        )
