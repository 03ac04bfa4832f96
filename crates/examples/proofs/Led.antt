-- Order 6's examples, proved: each by computing; that 4,096 bytes fill the buffer and one more is lost is by the laws of stores, since
-- computing it would store byte by byte. Assumes nothing.
use mathlib.Core.Path.{◌≡◌, refl, sym, ◌∙◌}
use mathlib.Core.List.{List, [], ◌∷◌}
use Prim.Native.Nat.{ℕ, ◌≤◌}
use native.Mathlib.Omega.{arith}
use lib.Dec.{lit≤}
use lib.ListN.{replicate}
use lib.Seq.{sets, sets-eq, length-sets}
use Rattle.meaning.specs.Sheet.{first_fault}
use Rattle.meaning.specs.Promises.{read_number, ReadSays, place_of, ReadPlaced}
use Rattle.meaning.proofs.Writing.{sets-append, sets-past}
use Rattle.serial.specs.Serial.{added, late, read, over, ends, again}
use Rattle.examples.specs.Leads.{Leads}

-- the buffer before and after
abbrev sevens : List ℕ
sevens = replicate 4096 7

abbrev ones : List ℕ
ones = replicate 4096 1

-- 4,096 bytes fill the buffer
filled : ones ≡ sets sevens 0 ones
filled = sym (sets-eq ones sevens 0 (lit≤ tt))

-- and the byte behind them is lost
over-filled : ones ≡ sets sevens 0 (replicate 4097 1)
over-filled =
    filled ∙ sym (sets-append sevens 0 ones (1 ∷ []) ∙ sets-past (sets sevens 0 ones) 4096 (1 ∷ []) (long (length-sets sevens 0 ones)))
  where
    long : {n : ℕ} → n ≡ 4096 → n ≤ 4096
    long e = omega arith

-- nothing is stored past the end
past_the_end : (n : ℕ) → 4096 ≤ n → ones ≡ sets ones n (9 ∷ [])
past_the_end n h = sym (sets-past ones n (9 ∷ []) h)

pub the-leads : Leads
unfolding ReadPlaced ReadSays read_number place_of first_fault
the-leads = record {
  first_piece = record { after = _; promise = added refl refl refl refl; written = refl };
  empty_piece = record { after = _; promise = added refl refl refl refl; written = refl };
  last_piece = record { after = _; promise = added refl refl refl refl; written = refl };
  closing = record {
    answer = 0;
    place = 0;
    after = _;
    promise = ends refl (read (lit≤ tt) (record { number = refl; where_met = refl })) refl;
    written = refl;
    told = refl;
  };
  closing_early = record {
    answer = 1;
    place = 0;
    after = _;
    promise = ends refl (read (lit≤ tt) (record { number = refl; where_met = refl })) refl;
    written = refl;
    told = refl;
  };
  closing_at_once = record {
    answer = 1;
    place = 0;
    after = _;
    promise = ends refl (read (lit≤ tt) (record { number = refl; where_met = refl })) refl;
    written = refl;
    told = refl;
  };
  closing_a_bad_sheet = record {
    answer = 4;
    place = 3;
    after = _;
    promise = ends refl (read (lit≤ tt) (record { number = refl; where_met = refl })) refl;
    written = refl;
    told = refl;
  };
  most_bytes = record { after = _; promise = added refl refl refl filled; written = refl };
  closing_most_bytes = record {
    answer = 3;
    place = 1;
    after = _;
    promise = ends refl (read (lit≤ tt) (record { number = refl; where_met = refl })) refl;
    written = refl;
    told = refl;
  };
  one_byte_over = record { after = _; promise = added refl refl refl over-filled; written = refl };
  one_byte_later = record { after = _; promise = added refl refl refl (past_the_end 4096 (lit≤ tt)); written = refl };
  no_more_counted = record { after = _; promise = added refl refl refl (past_the_end 4097 (lit≤ tt)); written = refl };
  closing_over = record {
    answer = 1;
    place = 0;
    after = _;
    promise = ends refl (over (lit≤ tt) refl refl) refl;
    written = refl;
    told = refl;
  };
  late_piece = record { after = _; promise = late (λ e. omega (arith, e)) refl refl refl; written = refl };
  late_empty_piece = record { after = _; promise = late (λ e. omega (arith, e)) refl refl refl; written = refl };
  second_closing = record {
    answer = 18;
    place = 0;
    after = _;
    promise = again (λ e. omega (arith, e)) refl refl refl;
    written = refl;
    told = refl;
  };
  second_closing_bad = record {
    answer = 18;
    place = 0;
    after = _;
    promise = again (λ e. omega (arith, e)) refl refl refl;
    written = refl;
    told = refl;
  };
  second_closing_over = record {
    answer = 18;
    place = 0;
    after = _;
    promise = again (λ e. omega (arith, e)) refl refl refl;
    written = refl;
    told = refl;
  };
}
