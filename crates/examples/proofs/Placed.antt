-- Order 1's examples, proved: each by computing the first fault of the sheet's bytes. Assumes nothing.
use mathlib.Core.Path.{refl}
use native.Mathlib.Omega.{arith}
use Rattle.meaning.specs.Sheet.{bad_literal, first_fault}
use Rattle.meaning.specs.Promises.{read_number, ReadSays, place_of, ReadPlaced, RunChecked, RunPlaced, StrikesChecked, StrikesPlaced}
use Rattle.meaning.specs.Promises.{faulty, refused, bad, outcome}
use Rattle.examples.specs.Places.{Places}

pub the_places : Places
unfolding ReadPlaced ReadSays read_number place_of first_fault RunPlaced RunChecked StrikesPlaced StrikesChecked outcome
the_places = record {
  too_short = record { number = refl; where_met = refl };
  too_long = record { number = refl; where_met = refl };
  version = record { number = refl; where_met = refl };
  stated-high = record { number = refl; where_met = refl };
  stated-low = record { number = refl; where_met = refl };
  no_letters = record { number = refl; where_met = refl };
  many_letters = record { number = refl; where_met = refl };
  many_limits = record { number = refl; where_met = refl };
  many_promises = record { number = refl; where_met = refl };
  many_of_both = record { number = refl; where_met = refl };
  past_the_end = record { number = refl; where_met = refl };
  missing = record { number = refl; where_met = refl };
  left_too_large = record { number = refl; where_met = refl };
  empty_step = record { number = refl; where_met = refl };
  long_promise = record { number = refl; where_met = refl };
  strange_kind = record { number = refl; where_met = refl };
  strange_first = record { number = refl; where_met = refl };
  strange_limited = record { number = refl; where_met = refl };
  strange_right = record { number = refl; where_met = refl };
  not_ascending = record { number = refl; where_met = refl };
  two_lists = record { number = refl; where_met = refl };
  falling_right = record { number = refl; where_met = refl };
  surplus = record { number = refl; where_met = refl };
  judge-passes-on = record { finding = bad (record { why = bad_literal; at = 9 }); found = refl; returned = refl };
  run_check_passes_on = record { number = faulty (record { why = bad_literal; at = 9 }) refl refl; where_met = refl };
  strike_check_passes_on = record { number = faulty (record { why = bad_literal; at = 9 }) refl refl; where_met = refl };
  good = record { number = refl; where_met = refl };
  no_place_on_14 = record { number = refused refl (λ ok. omega (arith, ok.back)) refl; where_met = refl };
}
