-- Records that lie within a sheet, one behind the other.
--   some of them   within-fewer; section-long: how many bytes they have; next_fits, after_next: passing one more
--   a good sheet   limits-in, firsts-in, steps-in: its records lie within it
-- Assumes nothing.
use mathlib.Core.Path.{◌≡◌, sym, ◌∙◌, ap, subst}
use mathlib.Core.Option.{none}
use mathlib.Core.List.{List}
use Prim.Native.Nat.{ℕ, zero, suc, ◌+◌, ◌≤◌, ◌<◌}
use native.Mathlib.Omega.{arith}
use lib.ListN.{length, length-append}
use Rattle.meaning.specs.Sheet.{Kind, body_at, next_at, after_at, bodies, records_fault, first_fault, firsts_at, steps_at}
use Rattle.reader.specs.Header.{records_at, limits_in, firsts_in, steps_in}
use Rattle.reader.proofs.Good.{good-header, record-good, length-body, after_more}
use Rattle.records.specs.Records.{section}
use Rattle.clash_choice.specs.Writing.{Within}

-- Records that read without fault lie within the sheet.
within-read : (kind : Kind) (n : ℕ) {s : List ℕ} {count at : ℕ} → records_fault kind n s count at ≡ none → Within s count at
within-read kind n {s} {count} {at} e = record { fits = λ i l. (record-good kind n s count at e i l).fits }

pub within-fewer : {s : List ℕ} {count at i : ℕ} → Within s count at → i ≤ count → Within s i at
within-fewer w h = record { fits = λ j l. w.fits j (omega arith) }

within-later : (s : List ℕ) (count at : ℕ) → Within s (suc count) at → Within s count (next_at s at)
unfolding after_at
within-later s count at w = record { fits = λ i h. w.fits (suc i) (omega arith) }

-- So many bytes they have.
pub section-long : (s : List ℕ) (count at : ℕ) → Within s count at → at + length (section (bodies s count at)) ≡ after_at s count at
unfolding section bodies next_at after_at
section-long s zero at w = omega arith
section-long s (suc count) at w =
    let body = body_at s at in
    let more = section (bodies s count (next_at s at)) in
    let later = section-long s count (next_at s at) (within-later s count at w) in
    omega (arith, length-append body more, length-body s at (w.fits 0 (omega arith)), later)

-- One record more.
pub next_fits : {s : List ℕ} {count i from at : ℕ} → Within s count from → i < count → at ≡ after_at s i from → next_at s at ≤ length s
next_fits {s} {i = i} w h here = subst (λ (n : ℕ). next_at s n ≤ length s) (sym here) (w.fits i h)

pub after_next : (s : List ℕ) (i from : ℕ) {at next : ℕ} → at ≡ after_at s i from → next ≡ next_at s at → next ≡ after_at s (i + 1) from
after_next s i from here there =
    let more : suc i ≡ i + 1 = omega arith in
    there ∙ ap (next_at s) here ∙ sym (after_more s i from) ∙ ap (λ (n : ℕ). after_at s n from) more

-- ---- a good sheet

module _ (s : List ℕ) (good : first_fault s ≡ none) where
  pub limits-in : Within s (limits_in s) records_at
  limits-in = within-read _ _ (good-header s good).limits_read

  pub firsts-in : Within s (firsts_in s) (firsts_at s)
  firsts-in = within-read _ _ (good-header s good).firsts_read

  pub steps-in : Within s (steps_in s) (steps_at s)
  steps-in = within-read _ _ (good-header s good).steps_read
