-- Records and a header written into a lent slice.
--   records   record-written: one; records-none, records-then: none, and more behind them; section-append: their bytes are joined
--   a sheet   header-last: a header written in front of what was written behind its room; all stands as if written in one
-- Assumes nothing.
use mathlib.Core.Path.{◌≡◌, refl, sym, ◌∙◌, ap}
use mathlib.Core.List.{List, [], ◌∷◌, ◌++◌, append_assoc, append-nil}
use Prim.Native.Nat.{ℕ, zero, suc, ◌+◌, ◌≤◌, ◌<◌}
use native.Mathlib.Omega.{arith}
use lib.ListN.{length, set, length-append}
use lib.Seq.{sets, set_comm}
use Rattle.meaning.proofs.Writing.{sets-append}
use Rattle.records.specs.Records.{section}
use Rattle.records.specs.Writing.{RecordsWritten}

-- ---- records

-- The bytes of records behind records are those of all of them.
pub section-append : (a b : List (List ℕ)) → section (a ++ b) ≡ section a ++ section b
unfolding section
section-append [] b = refl
section-append (x ∷ a) b =
    let front = length x ∷ x in
    ap (λ (l : List ℕ). front ++ l) (section-append a b) ∙ sym (append_assoc front (section a) (section b))

-- The length byte, and the record's own bytes behind it.
pub record-written : {old mid new : List ℕ} {at : ℕ} {body : List ℕ} → mid ≡ sets old at (length body ∷ []) → new ≡ sets mid (at + 1) body
    → RecordsWritten old at (body ∷ []) new (at + 1 + length body)
unfolding section
record-written {old} {mid} {new} {at} {body} f g =
    let next : at + 1 ≡ suc at = omega arith in
    let all = append-nil (length body ∷ body) in
    record {
      slice =
          g ∙ ap (λ (l : List ℕ). sets l (at + 1) body) f ∙ ap (λ (n : ℕ). sets (set old at (length body)) n body) next
          ∙ ap (sets old at) (sym all);
      next = omega (arith, ap length all);
    }

-- No record is written, and some behind others are all of them.
pub records-none : (old : List ℕ) (at : ℕ) → RecordsWritten old at [] old at
unfolding section
records-none old at = record { slice = refl; next = omega arith }

pub records-then : {old mid new : List ℕ} {at to end : ℕ} {a b : List (List ℕ)} → RecordsWritten old at a mid to
    → RecordsWritten mid to b new end → RecordsWritten old at (a ++ b) new end
records-then {old} {mid} {at = at} {to = to} {a = a} {b = b} x y =
    let both = section-append a b in
    record {
      slice =
          y.slice ∙ ap (λ (n : ℕ). sets mid n (section b)) x.next
          ∙ ap (λ (l : List ℕ). sets l (at + length (section a)) (section b)) x.slice
          ∙ sym (sets-append old at (section a) (section b)) ∙ ap (sets old at) (sym both);
      next = y.next ∙ omega (arith, x.next, ap length both, length-append (section a) (section b));
    }

-- ---- a sheet

-- A byte set in front of what is written may as well be set before.
set_before : (l : List ℕ) (i at : ℕ) (x : ℕ) (bytes : List ℕ) → i < at → set (sets l at bytes) i x ≡ sets (set l i x) at bytes
set_before l i at x [] h = refl
set_before l i at x (b ∷ bytes) h =
    set_before (set l at b) i (suc at) x bytes (omega arith)
    ∙ ap (λ (m : List ℕ). sets m (suc at) bytes) (set_comm l at i b x (omega arith))

sets-before : (l : List ℕ) (i at : ℕ) (front bytes : List ℕ) → i + length front ≤ at
    → sets (sets l at bytes) i front ≡ sets (sets l i front) at bytes
sets-before l i at [] bytes h = refl
sets-before l i at (x ∷ front) bytes h =
    ap (λ (m : List ℕ). sets m (suc i) front) (set_before l i at x bytes (omega arith))
    ∙ sets-before (set l i x) (suc i) at front bytes (omega arith)

-- A header written last, in front of what was written behind its room: the slice is as if both had been written in one.
pub header-last : (old : List ℕ) {mid new : List ℕ} (header records : List ℕ) → mid ≡ sets old (length header) records
    → new ≡ sets mid 0 header → new ≡ sets old 0 (header ++ records)
header-last old header records f g =
    let behind : length header ≡ 0 + length header = omega arith in
    g ∙ ap (λ (l : List ℕ). sets l 0 header) f ∙ sets-before old 0 (length header) header records (omega arith)
    ∙ ap (λ (n : ℕ). sets (sets old 0 header) n records) behind ∙ sym (sets-append old 0 header records)
