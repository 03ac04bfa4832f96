-- Sections of rows: every record of a good sheet is sound, and one more row behind the others leaves them as they are. Assumes nothing.
use mathlib.Core.Path.{◌≡◌, sym, ◌∙◌, ap, subst}
use mathlib.Core.Bool.{true}
use mathlib.Core.Option.{none}
use mathlib.Core.List.{List}
use Prim.Native.Nat.{ℕ, suc, ◌+◌, ◌≤◌, ◌<◌}
use native.Mathlib.Decide.{ℕ_discrete}
use native.Mathlib.Numerals.{add-one}
use native.Mathlib.Omega.{arith}
use lib.ListN.{length, get_or}
use Rattle.meaning.specs.Sheet.{first_fault, names, byte, body_at, next_at, after_at, letters_in, limit_of, step_of, promise_of, most_limits}
use Rattle.meaning.specs.Sheet.{firsts_at, steps_at, promises_at, Kind, a_limit, a_first, a_step, a_promise}
use Rattle.reader.specs.Header.{records_at, limits_in, firsts_in, steps_in, promises_in}
use Rattle.reader.proofs.Good.{good-header, limit-record, first-record, step-record, promise-record, limit-good, first_good, step-good}
use Rattle.reader.proofs.Good.{promise-good, LiteralsGood, body-byte, after_more}
use Rattle.rules.specs.Book.{book_size, most_rules, limit_at, first_at, step_at, row_at, width_of, list_width, limit_width, step_width, least_at}
use Rattle.rules.specs.Book.{most_at}
use Rattle.rules.specs.Book.{limits_from, firsts_from, steps_from, promises_from}
use Rattle.rules.specs.Rows.{KeptBelow}
use Rattle.compile.specs.Compile.{LimitSound, ListRecordSound, StepSound, Sound, Row, RowWritten, start_of, records_of}
use Rattle.compile.specs.Compile.{RowOf, Section, Counts, BookWritten}
use Rattle.rules.proofs.Rows.{kept-all, kept_then, kept_less}
use Rattle.compile.proofs.RowLaws.{masks-kept}
use Rattle.compile.proofs.Sorted.{in_order}

-- ---- the records of a good sheet

-- one literal is a good list
lone-good : (n : ℕ) (body : List ℕ) → length body ≡ 1 → names n (promise_of body) ≡ true → LiteralsGood n body
unfolding promise_of
lone-good n body one e = record {
  named = λ j h. (let z : 0 ≡ j = omega arith in subst (λ (j : ℕ). names n (get_or body j 0) ≡ true) z e);
  rising = λ j h. absurd (omega arith);
}

module _ (s : List ℕ) (good : first_fault s ≡ none) where
  few : letters_in s < 128
  few = let h = (good-header s good).few-letters in omega arith

  pub limit-sound : (i : ℕ) → i < limits_in s → LimitSound s (after_at s i records_at)
  limit-sound i h =
      let r = limit-record s (good-header s good) i h in
      let g = limit-good (letters_in s) (after_at s i records_at) (body_at s (after_at s i records_at)) r.faultless in
      record {
        fits = r.fits;
        long = (let a = g.long in let b = r.sized in omega arith);
        few = (good-header s good).few-letters;
        among = in_order (letters_in s) (limit_of (body_at s (after_at s i records_at))).among few g.among;
      }

  pub first-sound : (i : ℕ) → i < firsts_in s → ListRecordSound s (after_at s i (firsts_at s))
  first-sound i h =
      let r = first-record s (good-header s good) i h in
      record {
        fits = r.fits;
        few = (good-header s good).few-letters;
        literals = in_order (letters_in s) _ few (first_good (letters_in s) (after_at s i (firsts_at s)) _ r.faultless);
      }

  pub step-sound : (i : ℕ) → i < steps_in s → StepSound s (after_at s i (steps_at s))
  step-sound i h =
      let at : ℕ = after_at s i (steps_at s) in
      let r = step-record s (good-header s good) i h in
      let g = step-good (letters_in s) at (body_at s at) r.faultless in
      let long : 1 ≤ byte s at = (let a = g.long in let b = r.sized in omega arith) in
      let z : suc at + 0 ≡ suc at = omega arith in
      let first : get_or (body_at s at) 0 0 ≡ byte s (suc at) = body-byte s at 0 long ∙ ap (byte s) z in
      record {
        fits = r.fits;
        long = long;
        count = (let a = g.count in let b = r.sized in omega arith);
        few = (good-header s good).few-letters;
        left = in_order (letters_in s) (step_of (body_at s at)).left few g.left;
        right = in_order (letters_in s) (step_of (body_at s at)).right few g.right;
      }

  pub promise-sound : (i : ℕ) → i < promises_in s → ListRecordSound s (after_at s i (promises_at s))
  promise-sound i h =
      let at : ℕ = after_at s i (promises_at s) in
      let r = promise-record s (good-header s good) i h in
      let g = promise-good (letters_in s) at (body_at s at) r.faultless in
      record {
        fits = r.fits;
        few = (good-header s good).few-letters;
        literals = in_order (letters_in s) (body_at s at) few (lone-good (letters_in s) (body_at s at) g.one g.literal);
      }

  -- each record of a kind
  pub sound : (kind : Kind) (i : ℕ) → i < records_of kind s → Sound kind s (after_at s i (start_of kind s))
  sound a_limit i h = limit-sound i h
  sound a_first i h = first-sound i h
  sound a_step i h = step-sound i h
  sound a_promise i h = promise-sound i h

  -- Every row has its place within the book.
  pub row_within : (kind : Kind) (i : ℕ) → i < records_of kind s → records_of kind s ≤ most_rules → row_at kind i + width_of kind ≤ book_size
  row_within a_limit i h m = let few_limits = (good-header s good).few_limits in omega arith
  row_within a_first i h m = omega arith
  row_within a_step i h m = omega arith
  row_within a_promise i h m = let few-promises = (good-header s good).few-promises in omega arith

-- ---- one more row

-- A row stays where it stands.
pub row_kept :
    (kind : Kind) (row : ℕ) (body l l' : List ℕ) → KeptBelow (row + width_of kind) l l' → Row kind l row body → Row kind l' row body
row_kept a_limit row body l l' k r = record {
  masks = masks-kept {m = row + limit_width} (omega arith) k r.masks;
  least = k.same (least_at row) (omega arith) ∙ r.least;
  most = k.same (most_at row) (omega arith) ∙ r.most;
}
row_kept a_first row body l l' k r = masks-kept {m = row + list_width} (omega arith) k r
row_kept a_step row body l l' k r = record {
  left = masks-kept {m = row + step_width} (omega arith) k r.left;
  right = masks-kept {m = row + step_width} (omega arith) k r.right;
}
row_kept a_promise row body l l' k r = masks-kept {m = row + list_width} (omega arith) k r

-- A later row begins behind an earlier one.
row-behind : (kind : Kind) (j i : ℕ) → j < i → row_at kind j + width_of kind ≤ row_at kind i
row-behind a_limit j i h = omega arith
row-behind a_first j i h = omega arith
row-behind a_step j i h = omega arith
row-behind a_promise j i h = omega arith

row_from : (kind : Kind) (i : ℕ) → row_at kind 0 ≤ row_at kind i
row_from a_limit i = omega arith
row_from a_first i = omega arith
row_from a_step i = omega arith
row_from a_promise i = omega arith

pub none_written : (kind : Kind) (s l : List ℕ) (from : ℕ) → from ≡ start_of kind s → Section kind s l l 0 from
unfolding after_at
none_written kind s l from e = record { keeps = kept-all (row_at kind 0) l; rows = λ j h. absurd (omega arith); there = e }

-- One more row, behind the others.
pub row_more :
    (kind : Kind) (s before l l' : List ℕ) (i at next : ℕ) → Section kind s before l i at → RowWritten kind s at l (row_at kind i) l' next
    → Section kind s before l' (i + 1) next
row_more kind s before l l' i at next so w =
    subst (λ (m : ℕ). Section kind s before l' m next) (sym (add-one i)) (record {
      keeps = kept_then (row_from kind i) so.keeps w.keeps;
      rows = λ j h. by j h (ℕ_discrete j i);
      there = w.there ∙ ap (next_at s) so.there ∙ sym (after_more s i (start_of kind s));
    })
  where
    by : (j : ℕ) → j < suc i → Dec (j ≡ i) → RowOf kind s l' j
    by j h (yes e) =
        subst (RowOf kind s l') (sym e) (subst (λ (a : ℕ). Row kind l' (row_at kind i) (body_at s a)) so.there w.says)
    by j h (no e) =
        let lt : j < i = omega arith in
        row_kept kind (row_at kind j) _ l l' (kept_less (row-behind kind j i lt) w.keeps) (so.rows j lt)

-- ---- the whole book

-- Counts, then section behind section: nothing written is written over.
pub all-written :
    (s b1 b2 b3 b4 b5 : List ℕ) (r2 r3 r4 r5 : ℕ) → limits_in s ≤ most_limits → firsts_in s ≤ most_rules → steps_in s ≤ most_rules
    → Counts s b1 → length b1 ≡ book_size → Section a_limit s b1 b2 (limits_in s) r2 → Section a_first s b2 b3 (firsts_in s) r3
    → Section a_step s b3 b4 (steps_in s) r4 → Section a_promise s b4 b5 (promises_in s) r5
    → BookWritten s b5
all-written s b1 b2 b3 b4 b5 r2 r3 r4 r5 f4 f5 f6 c n limits firsts steps promises =
    let k4 : KeptBelow promises_from b4 b5 = promises.keeps in
    let k3 : KeptBelow steps_from b3 b5 = kept_then (omega arith) steps.keeps k4 in
    let k2 : KeptBelow firsts_from b2 b5 = kept_then (omega arith) firsts.keeps k3 in
    let k1 : KeptBelow limits_from b1 b5 = kept_then (omega arith) limits.keeps k2 in
    record {
      long = k1.long ∙ n;
      counts = record {
        letters = k1.same 0 (omega arith) ∙ c.letters;
        limits = k1.same 1 (omega arith) ∙ c.limits;
        firsts = k1.same 2 (omega arith) ∙ c.firsts;
        steps = k1.same 3 (omega arith) ∙ c.steps;
        promises = k1.same 4 (omega arith) ∙ c.promises;
      };
      limits = λ j h. row_kept a_limit (limit_at j) _ b2 b5 (kept_less (omega arith) k2) (limits.rows j h);
      firsts = λ j h. row_kept a_first (first_at j) _ b3 b5 (kept_less (omega arith) k3) (firsts.rows j h);
      steps = λ j h. row_kept a_step (step_at j) _ b4 b5 (kept_less (omega arith) k4) (steps.rows j h);
      promises = promises.rows;
    }
