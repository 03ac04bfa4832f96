-- Records in a row: the check for 6, what the loop over a section keeps, and how the sections follow each other. Assumes nothing.
use mathlib.Core.Path.{◌≡◌, refl, sym, ◌∙◌, ap, subst}
use mathlib.Core.Option.{Option, none, some}
use mathlib.Core.List.{List}
use Prim.Native.Nat.{ℕ, zero, suc, ◌-◌, ◌≤◌, ◌<◌}
use native.Mathlib.Omega.{arith}
use lib.Dec.{leb, eqb}
use lib.ListN.{length}
use borrow.Author.Tests.{le-leb, lt-leb, eq-eqb, ne_eqb, leb-true}
use Rattle.meaning.specs.Sheet.{record_missing, surplus, Fault, unless, ◌then◌, Kind, record_fault, records_fault, body_at, next_at, after_at}
use Rattle.reader.specs.declared.Why.TheVariants.{RecordMissing, Surplus}
use Rattle.reader.specs.declared.Fault as F
use Rattle.reader.specs.declared.cursor.Cursor.{Cursor}
use Rattle.std.specs.Prelude.{Ok, Err}
use Rattle.reader.specs.Answer.{step_to, record_step, next_step, records_step, onwards, Within, end_step}
use Rattle.reader.proofs.Good.{then-none, passed, after-within}
use Rattle.reader.proofs.Reading.{moved, refused}

-- ---- the next record

-- a record that runs past the end, or is missing
pub record-missing :
    (kind : Kind) (n : ℕ) (s : List ℕ) (at : ℕ) → length s < next_at s at
    → Err (record { why = RecordMissing; at = at }) ≡ next_step kind n s at
unfolding next_step
record-missing kind n s at h = let t = lt-leb (next_at s at) (length s) h in rw t

-- a record that lies within the sheet
pub record-there : (kind : Kind) (n : ℕ) (s : List ℕ) (at : ℕ) → next_at s at ≤ length s → record_step kind n s at ≡ next_step kind n s at
unfolding record_step next_step
record-there kind n s at h = let t = le-leb (next_at s at) (length s) h in rw t

-- ---- a section

-- `left` records are to be read from `at` on: they have the fault of the whole section, and its end
pub record Section (kind : Kind) (n : ℕ) (s : List ℕ) (count start left at : ℕ) : Type 0 where
  pub within : at ≤ length s
  pub rest : records_step kind n s left at ≡ records_step kind n s count start

pub section-begins : (kind : Kind) (n : ℕ) (s : List ℕ) (count start : ℕ) → start ≤ length s → Section kind n s count start count start
section-begins kind n s count start h = record { within = h; rest = refl }

-- the first of some records, and the others
unrolled : (e d : ℕ) (a b c : Option Fault) {f : F.Fault} → step_to e (a then b) ≡ Err f → Err f ≡ step_to d (a then b then c)
unrolled e d none b c q = refused e d b c q
unrolled e d (some f) b c q = sym q

-- every record was read
pub section-done :
    (kind : Kind) (n : ℕ) (s : List ℕ) (count start left at : ℕ) → Section kind n s count start left at
    → left ≤ 0 → Ok (record { at = at }) ≡ records_step kind n s count start
unfolding records_step after_at records_fault
section-done kind n s count start zero at l h = l.rest
section-done kind n s count start (suc m) at l h = absurd (omega arith)

-- a record with a fault
pub section-refused :
    (kind : Kind) (n : ℕ) (s : List ℕ) (count start left at : ℕ) → Section kind n s count start left at
    → 0 < left → {f : F.Fault} → next_step kind n s at ≡ Err f → Err f ≡ records_step kind n s count start
unfolding next_step records_step after_at records_fault
section-refused kind n s count start zero at l h q = absurd (omega arith)
section-refused kind n s count start (suc m) at l h q =
    unrolled (next_at s at) (after_at s m (next_at s at)) (unless (leb (next_at s at) (length s)) record_missing at)
    (record_fault kind n at (body_at s at)) (records_fault kind n s m (next_at s at)) q
    ∙ l.rest

-- a record without fault
pub section-goes-on :
    (kind : Kind) (n : ℕ) (s : List ℕ) (count start left at : ℕ) → Section kind n s count start left at
    → 0 < left → {c : Cursor} → next_step kind n s at ≡ Ok c → Section kind n s count start (left - 1) c.at
unfolding next_step records_step after_at records_fault
section-goes-on kind n s count start zero at l h q = absurd (omega arith)
section-goes-on kind n s count start (suc m) at l h {c} q =
    let room : Option Fault = unless (leb (next_at s at) (length s)) record_missing at in
    let fault : Option Fault = record_fault kind n at (body_at s at) in
    let later : Option Fault = records_fault kind n s m (next_at s at) in
    let d = moved (next_at s at) (room then fault) q in
    let none_here = then-none room fault d.0 in
    let fits : next_at s at ≤ length s =
    leb-true (next_at s at) (length s) (passed (leb (next_at s at) (length s)) record_missing at none_here.0) in
    let less : suc m - 1 ≡ m = omega arith in
    record {
      within = subst (λ (x : ℕ). x ≤ length s) (sym d.1) fits;
      rest = ap (λ (k : ℕ). records_step kind n s k c.at) less
          ∙ ap (λ (k : ℕ). records_step kind n s m k) d.1
          ∙ ap (λ (o : Option Fault). step_to (after_at s m (next_at s at)) (o then later)) (sym none_here.1)
          ∙ ap (λ (o : Option Fault). step_to (after_at s m (next_at s at)) (o then fault then later)) (sym none_here.0)
          ∙ l.rest;
    }

-- ---- from section to section

-- whatever was read, what follows stands within the sheet
records-within :
    (kind : Kind) (n : ℕ) (s : List ℕ) (count at : ℕ) → at ≤ length s → Within s (records_step kind n s count at)
unfolding records_step
records-within kind n s count at h = by (records_fault kind n s count at) refl
  where
    by : (o : Option Fault) → records_fault kind n s count at ≡ o → Within s (step_to (after_at s count at) o)
    by none q = after-within kind n s count at q h count (omega arith)
    by (some f) q = tt

pub moved-within :
    (kind : Kind) (n : ℕ) (s : List ℕ) (count at : ℕ) {c : Cursor} → records_step kind n s count at ≡ Ok c → at ≤ length s → c.at ≤ length s
moved-within kind n s count at q h = subst (Within s) q (records-within kind n s count at h)

-- a section behind others
pub onwards-records :
    (kind : Kind) (n : ℕ) (s : List ℕ) (count at : ℕ) (o : Option Fault)
    → onwards (step_to at o) (records_step kind n s count) ≡ step_to (after_at s count at) (o then records_fault kind n s count at)
unfolding records_step
onwards-records kind n s count at none = refl
onwards-records kind n s count at (some f) = refl

-- the end behind the sections
pub onwards-end :
    (s : List ℕ) (at : ℕ) (o : Option Fault)
    → onwards (step_to at o) (end_step s) ≡ step_to at (o then unless (eqb at (length s)) surplus at)
unfolding end_step
onwards-end s at none = refl
onwards-end s at (some f) = refl

pub at-end : (s : List ℕ) (at : ℕ) → at ≡ length s → Ok (record { at = at }) ≡ end_step s at
unfolding end_step
at-end s at e = let t = eq-eqb at (length s) e in rw t

pub not-at-end : (s : List ℕ) (at : ℕ) → (at ≡ length s → ⊥) → Err (record { why = Surplus; at = at }) ≡ end_step s at
unfolding end_step
not-at-end s at e = let t = ne_eqb at (length s) e in rw t
