-- The ends: what a test of them knows on its way, that a class is refused or fair and never both. Assumes nothing.
use mathlib.Core.Path.{◌≡◌, refl, sym, ap, subst, ◌∙◌}
use mathlib.Core.Bool.{Bool, false}
use mathlib.Core.Logic.{◌⊎◌, inl, inr}
use mathlib.Core.List.{List}
use Prim.Native.Nat.{ℕ, zero, suc, ◌+◌, ◌*◌, ◌≤◌, ◌<◌}
use native.Mathlib.Decide.{dec_lt, ℕ_discrete}
use native.Mathlib.Omega.{arith}
use borrow.Author.Tests.{eqb-true, eqb-false}
use lib.Dec.{eqb}
use lib.ListN.{length, get_or}
use Rattle.meaning.proofs.Tests.{below_next}
use Rattle.class_ends.specs.Class.{most_sheets, numbers_each, start_of, Refused, falls, passes, unfinished, many, no_room, no_ends}
use Rattle.class_ends.specs.Ends.{EndsFit, EndsFitSays, Fair, FairSays}

-- none of the first i ends falls or passes the input, and sheet i starts at `start`
pub record EndsFitUpTo (size : ℕ) (ends : List ℕ) (i start : ℕ) : Type 0 where
  pub inside : i ≤ length ends
  pub here : start ≡ start_of ends i
  pub rise : (j : ℕ) → j < i → start_of ends j ≤ get_or ends j 0
  pub within : (j : ℕ) → j < i → get_or ends j 0 ≤ size

-- Before the first end nothing is asked.
pub cut-none : (size : ℕ) (ends : List ℕ) → EndsFitUpTo size ends 0 0
unfolding start_of
cut-none size ends = record { inside = omega arith; here = refl; rise = λ j h. absurd (omega arith); within = λ j h. absurd (omega arith) }

-- One end more, neither below the start nor past the input.
pub cut-more : {size : ℕ} {ends : List ℕ} {i start : ℕ} → EndsFitUpTo size ends i start → i < length ends → start ≤ get_or ends i 0
    → get_or ends i 0 ≤ size → EndsFitUpTo size ends (suc i) (get_or ends i 0)
unfolding start_of
cut-more {size} {ends} {i} {start} C h up low = record {
  inside = omega arith;
  here = refl;
  rise = below_next (λ j. start_of ends j ≤ get_or ends j 0) i (subst (λ (s : ℕ). s ≤ get_or ends i 0) C.here up) C.rise;
  within = below_next (λ j. get_or ends j 0 ≤ size) i low C.within;
}

-- The same as a loop counts.
pub cut-next : {size : ℕ} {ends : List ℕ} {i start : ℕ} → EndsFitUpTo size ends i start → i < length ends → start ≤ get_or ends i 0
    → get_or ends i 0 ≤ size → EndsFitUpTo size ends (i + 1) (get_or ends i 0)
cut-next {size} {ends} {i} C h up low =
    let e : suc i ≡ i + 1 = omega arith in
    subst (λ (k : ℕ). EndsFitUpTo size ends k (get_or ends i 0)) e (cut-more C h up low)

-- An end below its sheet's start falls.
pub cut-falls : {size : ℕ} {ends : List ℕ} {i start : ℕ} → EndsFitUpTo size ends i start → i < length ends → get_or ends i 0 < start
    → (room : ℕ) → Refused size ends room
unfolding start_of
cut-falls {ends = ends} {i = zero} C h low room = absurd (omega (arith, C.here))
cut-falls {ends = ends} {i = suc i} C h low room = falls i h (subst (λ (s : ℕ). get_or ends (suc i) 0 < s) C.here low)

-- When all ends are passed, they cut the input if the last is its length.
pub cut-whole : {size : ℕ} {ends : List ℕ} {i start : ℕ} → EndsFitUpTo size ends i start → length ends ≤ i → start ≡ size
    → EndsFit size ends
cut-whole {size} {ends} {i} {start} C all e =
    let m : i ≡ length ends = omega (arith, C.inside) in
    record {
      rise = λ j l. C.rise j (omega arith);
      within = λ j l. C.within j (omega arith);
      last = ap (start_of ends) (sym m) ∙ sym C.here ∙ e;
    }

-- Else the class is refused: some input is left over, or there are no ends for it.
pub cut-left-over : {size : ℕ} {ends : List ℕ} {i start : ℕ} → EndsFitUpTo size ends i start → length ends ≤ i → (start ≡ size → ⊥)
    → (room : ℕ) → Refused size ends room
unfolding start_of
cut-left-over {i = zero} C all e room = no_ends (omega arith) (omega (arith, C.here))
cut-left-over {i = suc i} C all e room = unfinished i (omega (arith, C.inside)) (λ w. e (C.here ∙ w))

-- What the test of the ends says when all of them are passed.
pub cut-says : {size : ℕ} {ends : List ℕ} {i start : ℕ} → EndsFitUpTo size ends i start → length ends ≤ i
    → EndsFitSays size ends (eqb start size)
cut-says {size} {start = start} C all =
    record { yes = λ e. cut-whole C all (eqb-true start size e); never = λ e. cut-left-over C all (eqb-false start size e) }

-- Ends that are refused, said by the test.
pub cut-refused : {size : ℕ} {ends : List ℕ} → ((room : ℕ) → Refused size ends room) → EndsFitSays size ends false
cut-refused x = record { yes = λ e. let z : ◌≡◌ {A = ℕ} 0 1 = cc in absurd (omega arith); never = λ e. x }

-- A test of the ends, said of the class.
pub fair-says : {size : ℕ} {ends : List ℕ} {room : ℕ} {r : Bool} → length ends ≤ most_sheets → length ends * numbers_each ≤ room
    → EndsFitSays size ends r → FairSays size ends room r
fair-says {room = room} few fits C = record {
  yes = λ e. record { ends-fit = C.yes e; few = few; fits = fits };
  never = λ e. C.never e room;
}

-- A class that is refused, said by the test.
pub unfair-says : {size : ℕ} {ends : List ℕ} {room : ℕ} → Refused size ends room → FairSays size ends room false
unfair-says x = record { yes = λ e. let z : ◌≡◌ {A = ℕ} 0 1 = cc in absurd (omega arith); never = λ e. x }

-- No fair class is refused.
pub fair-not-refused : {size : ℕ} {ends : List ℕ} {room : ℕ} → Fair size ends room → Refused size ends room → ⊥
unfolding start_of
fair-not-refused F (falls i h low) = omega (arith, F.ends-fit.rise (suc i) h)
fair-not-refused F (passes i h low) = omega (arith, F.ends-fit.within i h)
fair-not-refused {ends = ends} F (unfinished i e never) = never (ap (start_of ends) e ∙ F.ends-fit.last)
fair-not-refused F (many h) = omega (arith, F.few)
fair-not-refused F (no_room h) = omega (arith, F.fits)
fair-not-refused {size} {ends} F (no_ends e h) =
    let z : start_of ends 0 ≡ size = ap (start_of ends) (sym e) ∙ F.ends-fit.last in
    omega (arith, z, h)

-- Of the first i ends, all are in order or one is refused.
cut-or-refused : (size : ℕ) (ends : List ℕ) (room i : ℕ) → i ≤ length ends → EndsFitUpTo size ends i (start_of ends i)
    ⊎ Refused size ends room
unfolding start_of
cut-or-refused size ends room zero h = inl (cut-none size ends)
cut-or-refused size ends room (suc i) h = by (cut-or-refused size ends room i (omega arith))
  where
    test : EndsFitUpTo size ends i (start_of ends i) → Dec (get_or ends i 0 < start_of ends i) → Dec (size < get_or ends i 0)
        → EndsFitUpTo size ends (suc i) (start_of ends (suc i)) ⊎ Refused size ends room
    test C (yes low) past = inr (cut-falls C (omega arith) low room)
    test C (no low) (yes past) = inr (passes i (omega arith) past)
    test C (no low) (no past) = inl (cut-more C (omega arith) (omega arith) (omega arith))

    by : EndsFitUpTo size ends i (start_of ends i) ⊎ Refused size ends room → EndsFitUpTo size ends (suc i) (start_of ends (suc i))
        ⊎ Refused size ends room
    by (inl C) = test C (dec_lt (get_or ends i 0) (start_of ends i)) (dec_lt size (get_or ends i 0))
    by (inr x) = inr x

-- Every class is fair or refused.
pub fair-or-refused : (size : ℕ) (ends : List ℕ) (room : ℕ) → Fair size ends room ⊎ Refused size ends room
fair-or-refused size ends room =
    by (dec_lt most_sheets (length ends)) (dec_lt room (length ends * numbers_each)) (cut-or-refused size ends room (length ends) (omega arith))
  where
    last : EndsFitUpTo size ends (length ends) (start_of ends (length ends)) → length ends ≤ most_sheets → length ends * numbers_each ≤ room
        → Dec (start_of ends (length ends) ≡ size) → Fair size ends room ⊎ Refused size ends room
    last C few fits (yes e) = inl (record { ends-fit = cut-whole C (omega arith) e; few = few; fits = fits })
    last C few fits (no e) = inr (cut-left-over C (omega arith) e room)

    by : Dec (most_sheets < length ends) → Dec (room < length ends * numbers_each)
        → EndsFitUpTo size ends (length ends) (start_of ends (length ends)) ⊎ Refused size ends room → Fair size ends room
        ⊎ Refused size ends room
    by (yes h) short x = inr (many h)
    by (no h) (yes s) x = inr (no_room s)
    by (no h) (no s) (inr x) = inr x
    by (no h) (no s) (inl C) = last C (omega arith) (omega arith) (ℕ_discrete (start_of ends (length ends)) size)
