-- Order 4's examples, proved: that a class is fair by computing its ends, each sheet's numbers and slices by the wall's computations
-- (crates/meaning/proofs/Walled.antt), and 32 empty sheets one after another. Assumes nothing.
use mathlib.Core.Path.{◌≡◌, refl, sym, ◌∙◌, ap, subst}
use mathlib.Core.List.{List, [], ◌∷◌}
use Prim.Native.Nat.{ℕ, zero, suc, ◌-◌, ◌*◌}
use native.Mathlib.Omega.{arith}
use lib.Dec.{T, lit≤}
use lib.ListN.{length, get_or, take, drop, replicate}
use Rattle.meaning.specs.Sheet.{bad_size, bad_letters, first_fault}
use Rattle.meaning.specs.Promises.{Lent, Outcome, capacity, Judged, bad, can, cannot, outcome}
use Rattle.meaning.proofs.Judging.{lists-number}
use Rattle.meaning.proofs.Tests.{Test, as?, same?, le?, both?, each?}
use Rattle.meaning.proofs.Walled.{w2-kept, w5-struck, reachable-list?}
use Rattle.class_ends.specs.Class.{start_of, sheet_at, Refused, falls, passes, unfinished, many, no_room, no_ends, Desk, stored, noted}
use Rattle.class_ends.specs.Class.{most_sheets, numbers_each, OneJudged, InTurn, turned_away, in_turn}
use Rattle.class_ends.specs.Ends.{Fair}
use Rattle.class_ends.proofs.Ends.{fair-not-refused}
use Rattle.examples.specs.Classes.{Classes, kept, stuck, letterless, desk, after_kept, after_stuck}

-- ---- fair classes

-- a class is fair
unfoldable fair-test : (size : ℕ) (ends : List ℕ) (room : ℕ) → Test (Fair size ends room)
unfolding as? both? each? le? same? start_of
fair-test size ends room = as?
    (λ w. record {
      ends-fit = record { rise = w.0; within = w.1.0; last = w.1.1.0 };
      few = w.1.1.1.0;
      fits = w.1.1.1.1;
    })
    (λ f. (f.ends-fit.rise, (f.ends-fit.within, (f.ends-fit.last, (f.few, f.fits)))))
    (both? (each? (length ends) (λ i. le? (start_of ends i) (get_or ends i 0)))
    (both? (each? (length ends) (λ i. le? (get_or ends i 0) size))
    (both? (same? (start_of ends (length ends)) size)
    (both? (le? (length ends) most_sheets) (le? (length ends * numbers_each) room)))))

-- and so is not refused
not-refused : (size : ℕ) (ends : List ℕ) (room : ℕ) → T (fair-test size ends room).says → Refused size ends room → ⊥
not-refused size ends room x = fair-not-refused ((fair-test size ends room).sound x)

-- ---- one sheet

-- `kept` with any slices of these lengths, in whatever they hold
kept-judged : (t u w x c d e f r q : ℕ) → Judged kept
    (record { table = t ∷ u ∷ []; words = w ∷ x ∷ []; scratch = c ∷ d ∷ e ∷ f ∷ []; run = r ∷ q ∷ [] })
    (record { answer = 0; count = 2; a = 1; b = 2; place = 0; leaves = (after_kept []).lent })
unfolding first_fault capacity outcome reachable-list?
kept-judged t u w x c d e f r q = record {
  finding = can (0 ∷ 1 ∷ []) (0 ∷ 1 ∷ []) 1;
  found = (
    record { good = refl; reached = 2; number = lists-number ((reachable-list? kept (0 ∷ 1 ∷ [])).sound tt); room = lit≤ tt },
    w2-kept.0,
    w2-kept.1,
    w2-kept.2,
    lit≤ tt,
  );
  returned = refl;
}

stuck-judged : (t u w x c d e f r q : ℕ) → Judged stuck
    (record { table = t ∷ u ∷ []; words = w ∷ x ∷ []; scratch = c ∷ d ∷ e ∷ f ∷ []; run = r ∷ q ∷ [] })
    (record { answer = 13; count = 2; a = 0; b = 0; place = 0; leaves = (after_stuck (r ∷ q ∷ []) []).lent })
unfolding first_fault capacity outcome
stuck-judged t u w x c d e f r q = record {
  finding = cannot (0 ∷ 1 ∷ []) (32 ∷ 32 ∷ []);
  found = (record { good = refl; reached = 2; number = w5-struck.1; room = lit≤ tt }, w5-struck.0, w5-struck.2);
  returned = refl;
}

bad-judged : (lent : Lent) → Judged letterless lent (record { answer = 4; count = 0; a = 0; b = 0; place = 3; leaves = lent })
unfolding first_fault outcome
bad-judged lent = record { finding = bad (record { why = bad_letters; at = 3 }); found = refl; returned = refl }

-- what the judge says of no bytes
abbrev nothing_said : Lent → Outcome
nothing_said lent = record { answer = 1; count = 0; a = 0; b = 0; place = 0; leaves = lent }

none-judged : (lent : Lent) → Judged [] lent (nothing_said lent)
unfolding first_fault outcome
none-judged lent = record { finding = bad (record { why = bad_size; at = 0 }); found = refl; returned = refl }

-- a judged sheet with its numbers noted
one-judged : {sheet : List ℕ} (at : ℕ) (before : Desk) {o : Outcome} → Judged sheet before.lent o
    → OneJudged sheet at before (record { lent = o.leaves; numbers = noted at o before.numbers })
one-judged at before j = record { got = _; promise = j; lent_left = refl; numbers_left = refl }

-- ---- empty sheets

-- Where there is no input every sheet is empty.
no-sheet : (ends : List ℕ) (i : ℕ) → sheet_at [] ends i ≡ []
unfolding sheet_at
no-sheet ends i = by (start_of ends i) (get_or ends i 0)
  where
    nothing_left : (n : ℕ) → drop {A = ℕ} n [] ≡ []
    nothing_left zero = refl
    nothing_left (suc n) = refl

    nothing-taken : (n : ℕ) → take {A = ℕ} n [] ≡ []
    nothing-taken zero = refl
    nothing-taken (suc n) = refl

    by : (s e : ℕ) → take {A = ℕ} (e - s) (drop s []) ≡ []
    by s e = ap (take (e - s)) (nothing_left s) ∙ nothing-taken (e - s)

-- the desk after i of them
unfoldable emptied : Desk → ℕ → Desk
unfolding noted
emptied before zero = before
emptied before (suc i) =
    record { lent = before.lent; numbers = noted (i * numbers_each) (nothing_said before.lent) (emptied before i).numbers }

emptied-lent : (before : Desk) (i : ℕ) → (emptied before i).lent ≡ before.lent
unfolding emptied
emptied-lent before zero = refl
emptied-lent before (suc i) = refl

emptied-in-turn : (ends : List ℕ) (before : Desk) (i : ℕ) → InTurn [] ends before i (emptied before i)
unfolding InTurn emptied
emptied-in-turn ends before zero = refl
emptied-in-turn ends before (suc i) = (
  emptied before i,
  emptied-in-turn ends before i,
  record {
    got = nothing_said before.lent;
    promise = subst (λ (s : List ℕ). Judged s (emptied before i).lent (nothing_said before.lent)) (sym (no-sheet ends i))
        (subst (λ (l : Lent). Judged [] l (nothing_said before.lent)) (sym (emptied-lent before i)) (none-judged before.lent));
    lent_left = refl;
    numbers_left = refl;
  },
)

-- ---- the examples

pub the-classes : Classes
unfolding fair-test InTurn sheet_at start_of noted stored emptied
the-classes = record {
  nobody = in_turn (not-refused 0 [] 1 tt) refl refl;
  no_ends = turned_away (no_ends refl (lit≤ tt)) refl refl;
  one = in_turn (not-refused 10 (10 ∷ []) 5 tt) refl (_, refl, one-judged 0 _ (kept-judged 7 7 7 7 7 7 7 7 7 7));
  second_bad = in_turn (not-refused 18 (10 ∷ 18 ∷ []) 9 tt) refl
      (_, (_, refl, one-judged 0 _ (kept-judged 7 7 7 7 7 7 7 7 7 7)), one-judged 4 _ (bad-judged _));
  first_bad = in_turn (not-refused 18 (8 ∷ 18 ∷ []) 9 tt) refl
      (_, (_, refl, one-judged 0 _ (bad-judged _)), one-judged 4 _ (kept-judged 7 7 7 7 7 7 7 7 7 7));
  second_stuck = in_turn (not-refused 20 (10 ∷ 20 ∷ []) 8 tt) refl
      (_, (_, refl, one-judged 0 _ (kept-judged 7 7 7 7 7 7 7 7 7 7)), one-judged 4 _ (stuck-judged 0 1 0 0 0 0 0 0 0 1));
  first_stuck = in_turn (not-refused 20 (10 ∷ 20 ∷ []) 8 tt) refl
      (_, (_, refl, one-judged 0 _ (stuck-judged 7 7 7 7 7 7 7 7 7 7)), one-judged 4 _ (kept-judged 0 1 32 32 0 0 0 0 7 7));
  equal_ends = in_turn (not-refused 10 (0 ∷ 10 ∷ 10 ∷ []) 12 tt) refl (
    _,
    (_, (_, refl, one-judged 0 _ (none-judged _)), one-judged 4 _ (kept-judged 7 7 7 7 7 7 7 7 7 7)),
    one-judged 8 _ (none-judged _),
  );
  falling = turned_away (falls 0 (lit≤ tt) (lit≤ tt)) refl refl;
  passing = turned_away (passes 0 (lit≤ tt) (lit≤ tt)) refl refl;
  unfinished = turned_away (unfinished 0 refl (λ e. omega (arith, e))) refl refl;
  short_by_one = turned_away (no_room (lit≤ tt)) refl refl;
  short_for_two = turned_away (no_room (lit≤ tt)) refl refl;
  thirty_three = turned_away (many (lit≤ tt)) refl refl;
  thirty_two = in_turn (not-refused 0 (replicate 32 0) 132 tt) refl (emptied-in-turn (replicate 32 0) (desk (replicate 132 5)) 32);
}
