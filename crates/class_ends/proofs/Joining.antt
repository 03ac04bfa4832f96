-- Sheets joined, over every input and with the order's own numbers. Document 02, order 4: "A teacher hands over up to 32 sheets joined,
-- with the place where each ends, and a slice for four numbers a sheet: answer, count, a, b."
-- * Up to 32 sheets joined, with where each ends and four places a sheet, are not refused (joined-taken), and cutting gives each sheet back
--   (sheet-back). A class that is not refused is such: the sheets that it is cut into, joined, are its input (cut-joins), and where they
--   end are its ends (cut-ends). So these are the classes taken, and no others (taken-exactly): 33 sheets or more are refused
--   (many-refused), and so are places for fewer numbers than four a sheet (short-refused).
-- * The call answers 16 exactly if the class is refused (refused-exactly), and changes nothing then (refused-unchanged); else it answers 0
--   (taken-turn), and nothing else (answers).
-- * Of sheets joined, the call is the judge on each in turn with the same slices, sheet i's answer, count, a and b going to places 4 i to
--   4 i + 3 (joined-in-turn), where they stand at the end (numbers-stand, joined_numbers).
-- * No ends and no input: 0, and nothing changed (nothing-to-judge); no ends with some input: 16 (no-ends-refused).
-- Assumes nothing.
use mathlib.Core.Path.{◌≡◌, refl, sym, ap, ap₂, subst, ◌∙◌}
use mathlib.Core.Logic.{◌⊎◌, inl, inr, ◌↔◌}
use mathlib.Core.List.{List, [], ◌∷◌, ◌++◌}
use Prim.Native.Nat.{ℕ, zero, suc, ◌+◌, ◌-◌, ◌*◌, ◌≤◌, ◌<◌}
use native.Mathlib.Omega.{arith}
use lib.ListN.{length, get_or, take, drop, length-append, length-drop, take-append-drop, drop_of_length-le}
use lib.Seq.{length-take-le, take_at, drop-append-add, drop-drop, drop-cons}
use Rattle.meaning.specs.Promises.{Lent, Outcome, Judged}
use Rattle.meaning.proofs.Meetable.{AsLong}
use Rattle.class_ends.specs.Class.{start_of, sheet_at, Refused, many, no_room, Desk, OneJudged, InTurn, ClassJudged, turned_away}
use Rattle.class_ends.specs.Class.{in_turn, no_ends}
use Rattle.class_ends.specs.Ends.{EndsFit, Fair}
use Rattle.class_ends.proofs.Ends.{fair-not-refused, fair-or-refused}
use Rattle.class_ends.proofs.Turns.{Stand, in-turn-got}

-- ---- joined, and cut again

-- sheets put one behind the other
unfoldable pub joined : List (List ℕ) → List ℕ
joined [] = []
joined (sheet ∷ sheets) = sheet ++ joined sheets

-- "with the place where each ends": the running ends, where the first sheet starts at a place
unfoldable pub ends_from : ℕ → List (List ℕ) → List ℕ
ends_from start [] = []
ends_from start (sheet ∷ sheets) = (start + length sheet) ∷ ends_from (start + length sheet) sheets

abbrev pub ends_of : List (List ℕ) → List ℕ
ends_of sheets = ends_from 0 sheets

-- the n sheets from sheet i on that an input is cut into
unfoldable pub cut_from : (sheets ends : List ℕ) → (i n : ℕ) → List (List ℕ)
cut_from sheets ends i zero = []
cut_from sheets ends i (suc n) = sheet_at sheets ends i ∷ cut_from sheets ends (suc i) n

-- ---- a class that is not refused

-- A class that is not refused is fair.
fair-if : {size : ℕ} {ends : List ℕ} {room : ℕ} → (Refused size ends room → ⊥) → Fair size ends room
fair-if {size} {ends} {room} never = by (fair-or-refused size ends room)
  where
    by : Fair size ends room ⊎ Refused size ends room → Fair size ends room
    by (inl F) = F
    by (inr x) = absurd (never x)

module _ (sheets ends : List ℕ) (E : EndsFit (length sheets) ends) where
  -- The sheets from sheet i on, joined, are the input from there on.
  joins-from : (i n : ℕ) → i + n ≡ length ends → joined (cut_from sheets ends i n) ≡ drop (start_of ends i) sheets
  unfolding joined cut_from sheet_at start_of
  joins-from i zero all =
      let last : start_of ends i ≡ length sheets = ap (start_of ends) (let e : i ≡ length ends = omega arith in e) ∙ E.last in
      sym (drop_of_length-le sheets {i = start_of ends i} (omega (arith, last)))
  joins-from i (suc n) all =
      let rise : start_of ends i ≤ get_or ends i 0 = E.rise i (omega arith) in
      let whole : start_of ends i + (get_or ends i 0 - start_of ends i) ≡ get_or ends i 0 = omega arith in
      let rest : joined (cut_from sheets ends (suc i) n) ≡ drop (get_or ends i 0 - start_of ends i) (drop (start_of ends i) sheets) =
      joins-from (suc i) n (omega arith)
      ∙ ap (λ (k : ℕ). drop k sheets) (sym whole)
      ∙ sym (drop-drop (get_or ends i 0 - start_of ends i) (start_of ends i) sheets) in
      ap (λ (l : List ℕ). take (get_or ends i 0 - start_of ends i) (drop (start_of ends i) sheets) ++ l) rest
      ∙ take-append-drop (get_or ends i 0 - start_of ends i) (drop (start_of ends i) sheets)

  -- A sheet is as long as from its start to its end.
  sheet-long : (i : ℕ) → i < length ends → length (sheet_at sheets ends i) ≡ get_or ends i 0 - start_of ends i
  unfolding sheet_at
  sheet-long i h =
      length-take-le (get_or ends i 0 - start_of ends i) (drop (start_of ends i) sheets)
      (omega (arith, E.within i h, E.rise i h, length-drop (start_of ends i) sheets))

  -- The ends of the sheets from sheet i on are the ends from there on.
  ends-from : (i n : ℕ) → i + n ≡ length ends → ends_from (start_of ends i) (cut_from sheets ends i n) ≡ drop i ends
  unfolding ends_from cut_from start_of
  ends-from i zero all = sym (drop_of_length-le ends {i = i} (omega arith))
  ends-from i (suc n) all =
      let end : start_of ends i + length (sheet_at sheets ends i) ≡ get_or ends i 0 =
      omega (arith, E.rise i (omega arith), sheet-long i (omega arith)) in
      ap₂ ◌∷◌ end
      (ap (λ (k : ℕ). ends_from k (cut_from sheets ends (suc i) n)) end ∙ ends-from (suc i) n (omega arith))
      ∙ sym (drop-cons ends i 0 (omega arith))

cut-long : (sheets ends : List ℕ) (i n : ℕ) → length (cut_from sheets ends i n) ≡ n
unfolding cut_from
cut-long sheets ends i zero = refl
cut-long sheets ends i (suc n) = ap suc (cut-long sheets ends (suc i) n)

-- The sheets that a class not refused is cut into, joined, are its input.
pub cut-joins : (sheets ends : List ℕ) {room : ℕ} → (Refused (length sheets) ends room → ⊥)
    → joined (cut_from sheets ends 0 (length ends)) ≡ sheets
unfolding start_of
cut-joins sheets ends never = joins-from sheets ends (fair-if never).ends-fit 0 (length ends) (omega arith)

-- Where they end are its ends.
pub cut-ends : (sheets ends : List ℕ) {room : ℕ} → (Refused (length sheets) ends room → ⊥)
    → ends_of (cut_from sheets ends 0 (length ends)) ≡ ends
unfolding start_of
cut-ends sheets ends never = ends-from sheets ends (fair-if never).ends-fit 0 (length ends) (omega arith)

-- ---- sheets joined

-- how long the first i sheets are together
size_up : List (List ℕ) → ℕ → ℕ
size_up [] i = 0
size_up (sheet ∷ sheets) zero = 0
size_up (sheet ∷ sheets) (suc i) = length sheet + size_up sheets i

size_none : (l : List (List ℕ)) → size_up l 0 ≡ 0
unfolding size_up
size_none [] = refl
size_none (sheet ∷ l) = refl

size-rises : (l : List (List ℕ)) (i : ℕ) → size_up l i ≤ size_up l (suc i)
unfolding size_up
size-rises [] i = omega arith
size-rises (sheet ∷ l) zero = omega arith
size-rises (sheet ∷ l) (suc i) = omega (arith, size-rises l i)

size-within : (l : List (List ℕ)) (i : ℕ) → size_up l i ≤ length (joined l)
unfolding size_up joined
size-within [] i = omega arith
size-within (sheet ∷ l) zero = omega arith
size-within (sheet ∷ l) (suc i) = omega (arith, size-within l i, length-append sheet (joined l))

size-all : (l : List (List ℕ)) → size_up l (length l) ≡ length (joined l)
unfolding size_up joined
size-all [] = refl
size-all (sheet ∷ l) = omega (arith, size-all l, length-append sheet (joined l))

ends-long : (start : ℕ) (l : List (List ℕ)) → length (ends_from start l) ≡ length l
unfolding ends_from
ends-long start [] = refl
ends-long start (sheet ∷ l) = ap suc (ends-long (start + length sheet) l)

end-at : (start : ℕ) (l : List (List ℕ)) (i : ℕ) → i < length l → get_or (ends_from start l) i 0 ≡ start + size_up l (suc i)
unfolding ends_from size_up
end-at start [] i h = absurd (omega arith)
end-at start (sheet ∷ l) zero h = omega (arith, size_none l)
end-at start (sheet ∷ l) (suc i) h = omega (arith, end-at (start + length sheet) l i (omega arith))

start-at : (l : List (List ℕ)) (i : ℕ) → i ≤ length l → start_of (ends_of l) i ≡ size_up l i
unfolding start_of
start-at l zero h = sym (size_none l)
start-at l (suc i) h = omega (arith, end-at 0 l i h)

-- Cut where its neighbours end, a sheet is itself.
cut-back : (l : List (List ℕ)) (i : ℕ) → i < length l → take (size_up l (suc i) - size_up l i) (drop (size_up l i) (joined l)) ≡ get_or l i []
unfolding size_up joined
cut-back [] i h = absurd (omega arith)
cut-back (sheet ∷ l) zero h = take_at sheet (joined l) (length sheet + size_up l 0 - 0) (omega (arith, size_none l))
cut-back (sheet ∷ l) (suc i) h =
    let less : length sheet + size_up l (suc i) - (length sheet + size_up l i) ≡ size_up l (suc i) - size_up l i = omega arith in
    ap₂ take less (drop-append-add sheet (joined l) (size_up l i)) ∙ cut-back l i (omega arith)

-- Sheets joined, cut at their running ends, come back.
pub sheet-back : (l : List (List ℕ)) (i : ℕ) → i < length l → sheet_at (joined l) (ends_of l) i ≡ get_or l i []
unfolding sheet_at
sheet-back l i h =
    let end : get_or (ends_of l) i 0 ≡ size_up l (suc i) = omega (arith, end-at 0 l i h) in
    let start : start_of (ends_of l) i ≡ size_up l i = start-at l i (omega arith) in
    ap₂ (λ (a b : ℕ). take (a - b) (drop b (joined l))) end start ∙ cut-back l i h

ends-fit : (l : List (List ℕ)) → EndsFit (length (joined l)) (ends_of l)
ends-fit l = record {
  rise = λ i h. omega (arith, start-at l i (omega (arith, ends-long 0 l)), end-at 0 l i (omega (arith, ends-long 0 l)), size-rises l i);
  within = λ i h. omega (arith, end-at 0 l i (omega (arith, ends-long 0 l)), size-within l (suc i));
  last = ap (start_of (ends_of l)) (ends-long 0 l) ∙ start-at l (length l) (omega arith) ∙ size-all l;
}

-- "up to 32 sheets joined, with the place where each ends, and a slice for four numbers a sheet": these are not refused.
pub joined-taken : (l : List (List ℕ)) (room : ℕ) → length l ≤ 32 → 4 * length l ≤ room
    → Refused (length (joined l)) (ends_of l) room → ⊥
joined-taken l room few fits = fair-not-refused (record {
  ends-fit = ends-fit l;
  few = omega (arith, ends-long 0 l);
  fits = omega (arith, ends-long 0 l);
})

-- A class is not refused exactly if it is up to 32 sheets joined, with where each ends, and four places a sheet.
pub taken-exactly : (sheets ends : List ℕ) (room : ℕ) → (Refused (length sheets) ends room → ⊥)
    ↔ ((l : List (List ℕ)) × (length l ≤ 32) × (4 * length l ≤ room) × (sheets ≡ joined l) × (ends ≡ ends_of l))
taken-exactly sheets ends room = (to, from)
  where
    to : (Refused (length sheets) ends room → ⊥)
        → (l : List (List ℕ)) × (length l ≤ 32) × (4 * length l ≤ room) × (sheets ≡ joined l) × (ends ≡ ends_of l)
    to never =
        let F = fair-if never in
        let long = cut-long sheets ends 0 (length ends) in (
          cut_from sheets ends 0 (length ends),
          omega (arith, long, F.few),
          omega (arith, long, F.fits),
          sym (cut-joins sheets ends never),
          sym (cut-ends sheets ends never),
        )

    from : (l : List (List ℕ)) × (length l ≤ 32) × (4 * length l ≤ room) × (sheets ≡ joined l) × (ends ≡ ends_of l)
        → Refused (length sheets) ends room → ⊥
    from (l, few, fits, e, f) x =
        joined-taken l room few fits
        (subst (λ (k : ℕ). Refused k (ends_of l) room) (ap length e) (subst (λ (y : List ℕ). Refused (length sheets) y room) f x))

-- "over 32 sheets": 33 or more are refused.
pub many-refused : (size : ℕ) (ends : List ℕ) (room : ℕ) → 33 ≤ length ends → Refused size ends room
many-refused size ends room h = many (omega arith)

-- "or too short a slice for the numbers": fewer than four places a sheet are refused.
pub short-refused : (size : ℕ) (ends : List ℕ) (room : ℕ) → room < 4 * length ends → Refused size ends room
short-refused size ends room h = no_room (omega arith)

-- ---- what the call answers

module _ {sheets ends : List ℕ} {before after : Desk} {n : ℕ} where
  -- The call answers 0 or 16.
  pub answers : ClassJudged sheets ends before n after → (n ≡ 0) ⊎ (n ≡ 16)
  answers (turned_away r p d) = inr p
  answers (in_turn r p d) = inl p

  -- 16 exactly if the class is refused.
  pub refused-exactly : ClassJudged sheets ends before n after → (n ≡ 16) ↔ Refused (length sheets) ends (length before.numbers)
  refused-exactly (turned_away r p d) = (λ e. r, λ x. p)
  refused-exactly (in_turn r p d) = (λ e. absurd (omega (arith, p, e)), λ x. absurd (r x))

  -- "16 before any sheet, nothing changed".
  pub refused-unchanged : ClassJudged sheets ends before n after → n ≡ 16 → after ≡ before
  refused-unchanged (turned_away r p d) e = d
  refused-unchanged (in_turn r p d) e = absurd (omega (arith, p, e))

  -- Else 0, and the sheets are judged in turn.
  pub taken-turn : ClassJudged sheets ends before n after → (Refused (length sheets) ends (length before.numbers) → ⊥)
      → (n ≡ 0) × InTurn sheets ends before (length ends) after
  taken-turn (turned_away r p d) never = absurd (never r)
  taken-turn (in_turn r p d) never = (p, d)

-- ---- the judge on each sheet in turn

-- The judge called on each of these sheets in turn, each call finding the slices as the one before left them. The first of them is sheet i,
-- and its answer, count, a and b go to places 4 i to 4 i + 3.
unfoldable pub JudgedFrom : (i : ℕ) → List (List ℕ) → (before after : Desk) → Type 0
JudgedFrom i [] before after = after ≡ before
JudgedFrom i (sheet ∷ l) before after = (mid : Desk) × OneJudged sheet (4 * i) before mid × JudgedFrom (suc i) l mid after

module _ (sheets ends : List ℕ) (before : Desk) where
  -- The first i sheets judged, and then these in turn, which are the sheets from sheet i on.
  turn_on : (i : ℕ) (l : List (List ℕ)) (after : Desk) → ((j : ℕ) → j < length l → sheet_at sheets ends (i + j) ≡ get_or l j [])
      → InTurn sheets ends before (i + length l) after
      → (now : Desk) × InTurn sheets ends before i now × JudgedFrom i l now after
  unfolding InTurn JudgedFrom
  turn_on i [] after same p =
      let e : i + 0 ≡ i = omega arith in
      (after, subst (λ (k : ℕ). InTurn sheets ends before k after) e p, refl)
  turn_on i (sheet ∷ l) after same p =
      let e : i + suc (length l) ≡ suc i + length l = omega arith in
      split (turn_on (suc i) l after
      (λ j h. let f : suc i + j ≡ i + suc j = omega arith in ap (sheet_at sheets ends) f ∙ same (suc j) (omega arith))
      (subst (λ (k : ℕ). InTurn sheets ends before k after) e p))
    where
      here : sheet_at sheets ends i ≡ sheet
      here = let f : i ≡ i + 0 = omega arith in ap (sheet_at sheets ends) f ∙ same 0 (omega arith)

      place : i * 4 ≡ 4 * i
      place = omega arith

      split : (now : Desk) × InTurn sheets ends before (suc i) now × JudgedFrom (suc i) l now after
          → (now : Desk) × InTurn sheets ends before i now × JudgedFrom i (sheet ∷ l) now after
      split (mid, (now, turn, one), rest) =
          let judged : OneJudged sheet (4 * i) now mid =
          subst (λ (at : ℕ). OneJudged sheet at now mid) place (subst (λ (x : List ℕ). OneJudged x (i * 4) now mid) here one) in
          (now, turn, (mid, judged, rest))

  turn-all : (i : ℕ) (l : List (List ℕ)) (now after : Desk) → ((j : ℕ) → j < length l → sheet_at sheets ends (i + j) ≡ get_or l j [])
      → InTurn sheets ends before i now → JudgedFrom i l now after → InTurn sheets ends before (i + length l) after
  unfolding InTurn JudgedFrom
  turn-all i [] now after same turn e =
      let f : i ≡ i + 0 = omega arith in
      subst (λ (k : ℕ). InTurn sheets ends before k after) f (subst (InTurn sheets ends before i) (sym e) turn)
  turn-all i (sheet ∷ l) now after same turn (mid, judged, rest) =
      let e : suc i + length l ≡ i + suc (length l) = omega arith in
      let place : 4 * i ≡ i * 4 = omega arith in
      let f : i ≡ i + 0 = omega arith in
      let here : sheet_at sheets ends i ≡ sheet = ap (sheet_at sheets ends) f ∙ same 0 (omega arith) in
      let one : OneJudged (sheet_at sheets ends i) (i * 4) now mid =
      subst (λ (at : ℕ). OneJudged (sheet_at sheets ends i) at now mid) place
      (subst (λ (x : List ℕ). OneJudged x (4 * i) now mid) (sym here) judged) in
      subst (λ (k : ℕ). InTurn sheets ends before k after) e
      (turn-all (suc i) l mid after
      (λ j h. let g : suc i + j ≡ i + suc j = omega arith in ap (sheet_at sheets ends) g ∙ same (suc j) (omega arith))
      (now, turn, one) rest)

-- "The numbers, and the four lent slices at the end, are those of calling the judge on each sheet in turn with the same slices": of up to
-- 32 sheets joined, with where each ends and four places a sheet, the call answers n and leaves a desk exactly if n is 0 and the judge
-- leaves that desk, called on each in turn, sheet i's four numbers going to places 4 i to 4 i + 3.
pub joined-in-turn : (l : List (List ℕ)) (before : Desk) (n : ℕ) (after : Desk) → length l ≤ 32 → 4 * length l ≤ length before.numbers
    → ClassJudged (joined l) (ends_of l) before n after ↔ ((n ≡ 0) × JudgedFrom 0 l before after)
unfolding InTurn
joined-in-turn l before n after few fits = (to, from)
  where
    never : Refused (length (joined l)) (ends_of l) (length before.numbers) → ⊥
    never = joined-taken l (length before.numbers) few fits

    same : (j : ℕ) → j < length l → sheet_at (joined l) (ends_of l) (0 + j) ≡ get_or l j []
    same j h = let e : 0 + j ≡ j = omega arith in ap (sheet_at (joined l) (ends_of l)) e ∙ sheet-back l j h

    long : length (ends_of l) ≡ 0 + length l
    long = omega (arith, ends-long 0 l)

    to : ClassJudged (joined l) (ends_of l) before n after → (n ≡ 0) × JudgedFrom 0 l before after
    to c =
        let (zero-answer, turn) = taken-turn c never in
        let (now, start, judged) = turn_on (joined l) (ends_of l) before 0 l after same
        (subst (λ (k : ℕ). InTurn (joined l) (ends_of l) before k after) long turn) in
        (zero-answer, subst (λ (d : Desk). JudgedFrom 0 l d after) start judged)

    from : (n ≡ 0) × JudgedFrom 0 l before after → ClassJudged (joined l) (ends_of l) before n after
    from (zero-answer, judged) = in_turn never zero-answer
        (subst (λ (k : ℕ). InTurn (joined l) (ends_of l) before k after) (sym long)
        (turn-all (joined l) (ends_of l) before 0 l before after same refl judged))

-- "No ends and no input: 0 sheets judged, nothing changed", whatever room there is.
pub nothing-to-judge : (before : Desk) (n : ℕ) (after : Desk) → ClassJudged [] [] before n after ↔ ((n ≡ 0) × (after ≡ before))
unfolding joined ends_from JudgedFrom
nothing-to-judge before n after = joined-in-turn [] before n after (omega arith) (omega arith)

-- "No ends with some input: 16", and nothing changed.
pub no-ends-refused : (sheets : List ℕ) (before : Desk) (n : ℕ) (after : Desk) → 0 < length sheets
    → ClassJudged sheets [] before n after ↔ ((n ≡ 16) × (after ≡ before))
no-ends-refused sheets before n after some = (
  λ c. let sixteen = (refused-exactly c).1 (no_ends refl some) in (sixteen, refused-unchanged c sixteen),
  λ p. turned_away (no_ends refl some) p.0 p.1,
)

-- ---- where the numbers stand

-- "four numbers a sheet: answer, count, a, b": those of sheet i, as the judge gave them with slices as long as those lent, stand at places
-- 4 i, 4 i + 1, 4 i + 2 and 4 i + 3.
pub record NumbersStand (sheet : List ℕ) (i : ℕ) (before after : Desk) : Type 0 where
  pub lent : Lent
  pub long : AsLong before.lent lent
  pub outcome : Outcome
  pub promise : Judged sheet lent outcome
  pub answer : get_or after.numbers (4 * i) 0 ≡ outcome.answer
  pub count : get_or after.numbers (4 * i + 1) 0 ≡ outcome.count
  pub a : get_or after.numbers (4 * i + 2) 0 ≡ outcome.a
  pub b : get_or after.numbers (4 * i + 3) 0 ≡ outcome.b

-- So they do for every class that is not refused.
pub numbers-stand : {sheets ends : List ℕ} {before after : Desk} {n : ℕ} → ClassJudged sheets ends before n after
    → (Refused (length sheets) ends (length before.numbers) → ⊥) → (i : ℕ) → i < length ends
    → NumbersStand (sheet_at sheets ends i) i before after
numbers-stand {sheets} {ends} {before} {after} c never i h =
    let g = in-turn-got sheets ends before (length ends) (taken-turn c never).1 (fair-if never).fits i h in
    let place : i * 4 ≡ 4 * i = omega arith in
    let stand : Stand after.numbers (4 * i) g.outcome = subst (λ (at : ℕ). Stand after.numbers at g.outcome) place g.stand in
    record {
      lent = g.lent;
      long = g.long;
      outcome = g.outcome;
      promise = g.promise;
      answer = stand.answer;
      count = stand.count;
      a = stand.a;
      b = stand.b;
    }

-- Of sheets joined they are those of each sheet.
pub joined_numbers : (l : List (List ℕ)) {before after : Desk} {n : ℕ} → length l ≤ 32 → 4 * length l ≤ length before.numbers
    → ClassJudged (joined l) (ends_of l) before n after → (i : ℕ) → i < length l → NumbersStand (get_or l i []) i before after
joined_numbers l {before} {after} few fits c i h =
    subst (λ (sheet : List ℕ). NumbersStand sheet i before after) (sheet-back l i h)
    (numbers-stand c (joined-taken l (length before.numbers) few fits) i (omega (arith, ends-long 0 l)))
