-- Order 5's examples, proved: the bytes of each sheet with chosen rules are computed, and what the judge answers for them by the meaning's
-- tests (crates/meaning/proofs/Tables.antt). Assumes nothing.
use mathlib.Core.Path.{◌≡◌, refl, sym, subst}
use mathlib.Core.Option.{none, some}
use mathlib.Core.List.{List, [], ◌∷◌}
use Prim.Native.Nat.{ℕ, zero, suc, ◌≤◌, ◌<◌}
use native.Mathlib.Omega.{arith}
use lib.Dec.{T, lit≤}
use lib.ListN.{length, get_or, replicate}
use Rattle.meaning.specs.Sheet.{bad_letters, byte, bodies, letters_in, firsts_at, steps_at, promises_at, first_fault}
use Rattle.meaning.specs.Promises.{Lent, Outcome, capacity, zeros, cleared, outcome, Judged, crowded, short, cannot}
use Rattle.meaning.proofs.Tests.{Test, as?, le?, both?, if?, each?, lists?}
use Rattle.meaning.proofs.Judging.{lists-number}
use Rattle.meaning.proofs.Tables.{strikes?, quiet?, livable?, livable-below, paper?}
use Rattle.meaning.proofs.Walled.{tests-in, reachable-list?, cannot-be-kept, can-be-kept}
use Rattle.records.specs.Records.{records_of, bytes_of}
use Rattle.clash_choice.specs.Choice.{picked, picked_in, with_chosen}
use Rattle.clash_choice.specs.Proposals.{first_marks, marks_of, Chosen, left_out_of, Proposal}
use Rattle.clash_trials.specs.Trials.{Answered, ends, drops, keeps, Dropping}
use Rattle.clash_trials.proofs.Trials.{answered-apart}
use Rattle.clash_meaning.specs.Clash as Clash
use Rattle.examples.specs.Fights.{Fights, two_clashes, lawless, opening, opening_late, peaceful, two_places, one_place_said, no_place_said}

-- ---- what the judge answers for a sheet's bytes, with no run room

-- 13: the strike list passes its test, and there is room for its states
judged-13 : (chosen states words : List ℕ) (lent : Lent) → first_fault chosen ≡ none → length states ≤ capacity lent
    → T (strikes? (tests-in chosen) states words).says → Judged chosen lent (outcome lent (cannot states words))
judged-13 chosen states words lent good room x =
    let c = cannot-be-kept chosen states words x in
    record {
      finding = cannot states words;
      found = (record { good = good; reached = length states; number = c.1; room = room }, c.0, c.2);
      returned = refl;
    }

-- 11: more states are reachable than there is room for
judged-11 : (chosen reached : List ℕ) (lent : Lent) → first_fault chosen ≡ none → capacity lent < length reached
    → T (reachable-list? chosen reached).says → Judged chosen lent (outcome lent crowded)
judged-11 chosen reached lent good above x = record {
  finding = crowded;
  found = (good, (length reached, lists-number ((reachable-list? chosen reached).sound x), above));
  returned = refl;
}

-- 12: there is a run, and no room for it; the first phase strikes nothing already
judged-12 : (chosen reached states aims : List ℕ) (a : ℕ) (lent : Lent) → first_fault chosen ≡ none → length reached ≤ capacity lent
    → length lent.run < length states
    → T (reachable-list? chosen reached).says
    → (q : T (quiet? (tests-in chosen) 0).says)
    → T (lists? (livable? (tests-in chosen) 0 ((quiet? (tests-in chosen) 0).sound q)) (tests-in chosen).bound
    (livable-below (tests-in chosen) 0 ((quiet? (tests-in chosen) 0).sound q)) reached).says
    → T (paper? (tests-in chosen) 0 ((quiet? (tests-in chosen) 0).sound q) states aims a).says
    → Judged chosen lent (outcome lent (short (length states)))
judged-12 chosen reached states aims a lent good room runs x q y z =
    let k = can-be-kept chosen 0 q reached states aims a y z in
    record {
      finding = short (length states);
      found = (
        record { good = good; reached = length reached; number = lists-number ((reachable-list? chosen reached).sound x); room = room },
        k.0,
        (states, a, k.2, refl),
        runs,
      );
      returned = refl;
    }

-- ---- sheets with chosen rules

-- one letter and nothing else; one step rule that asks 1 always, or -1; several of them
abbrev plain : List ℕ
plain = 0x01 ∷ 0x00 ∷ 0x08 ∷ 0x01 ∷ 0x00 ∷ 0x00 ∷ 0x00 ∷ 0x00 ∷ []

abbrev up : List ℕ
up = 0x01 ∷ 0x00 ∷ 0x0B ∷ 0x01 ∷ 0x00 ∷ 0x00 ∷ 0x01 ∷ 0x00 ∷ 0x02 ∷ 0x00 ∷ 0x01 ∷ []

abbrev down : List ℕ
down = 0x01 ∷ 0x00 ∷ 0x0B ∷ 0x01 ∷ 0x00 ∷ 0x00 ∷ 0x01 ∷ 0x00 ∷ 0x02 ∷ 0x00 ∷ 0xFF ∷ []

abbrev up_up : List ℕ
up_up = 0x01 ∷ 0x00 ∷ 0x0E ∷ 0x01 ∷ 0x00 ∷ 0x00 ∷ 0x02 ∷ 0x00 ∷ 0x02 ∷ 0x00 ∷ 0x01 ∷ 0x02 ∷ 0x00 ∷ 0x01 ∷ []

abbrev up_down : List ℕ
up_down = 0x01 ∷ 0x00 ∷ 0x0E ∷ 0x01 ∷ 0x00 ∷ 0x00 ∷ 0x02 ∷ 0x00 ∷ 0x02 ∷ 0x00 ∷ 0x01 ∷ 0x02 ∷ 0x00 ∷ 0xFF ∷ []

abbrev down_up : List ℕ
down_up = 0x01 ∷ 0x00 ∷ 0x0E ∷ 0x01 ∷ 0x00 ∷ 0x00 ∷ 0x02 ∷ 0x00 ∷ 0x02 ∷ 0x00 ∷ 0xFF ∷ 0x02 ∷ 0x00 ∷ 0x01 ∷ []

abbrev up_down_up : List ℕ
up_down_up = 0x01 ∷ 0x00 ∷ 0x11 ∷ 0x01 ∷ 0x00 ∷ 0x00 ∷ 0x03 ∷ 0x00
    ∷ 0x02 ∷ 0x00 ∷ 0x01 ∷ 0x02 ∷ 0x00 ∷ 0xFF ∷ 0x02 ∷ 0x00 ∷ 0x01 ∷ []

-- the same begun in state 1; and with a step rule that nothing meets
abbrev from_one : List ℕ
from_one = 0x01 ∷ 0x00 ∷ 0x0A ∷ 0x01 ∷ 0x00 ∷ 0x01 ∷ 0x00 ∷ 0x00 ∷ 0x01 ∷ 0x01 ∷ []

abbrev from_one_up : List ℕ
from_one_up = 0x01 ∷ 0x00 ∷ 0x0D ∷ 0x01 ∷ 0x00 ∷ 0x01 ∷ 0x01 ∷ 0x00 ∷ 0x01 ∷ 0x01 ∷ 0x02 ∷ 0x00 ∷ 0x01 ∷ []

abbrev from_one_down : List ℕ
from_one_down = 0x01 ∷ 0x00 ∷ 0x0D ∷ 0x01 ∷ 0x00 ∷ 0x01 ∷ 0x01 ∷ 0x00 ∷ 0x01 ∷ 0x01 ∷ 0x02 ∷ 0x00 ∷ 0xFF ∷ []

abbrev from_one_stuck : List ℕ
from_one_stuck = 0x01 ∷ 0x00 ∷ 0x0C ∷ 0x01 ∷ 0x00 ∷ 0x01 ∷ 0x01 ∷ 0x00 ∷ 0x01 ∷ 0x01 ∷ 0x01 ∷ 0x00 ∷ []

-- exactly 2 of {1}
abbrev no_law : List ℕ
no_law = 0x01 ∷ 0x00 ∷ 0x0C ∷ 0x01 ∷ 0x01 ∷ 0x00 ∷ 0x00 ∷ 0x00 ∷ 0x03 ∷ 0x00 ∷ 0x02 ∷ 0x01 ∷ []

-- ---- what the judge answers for them, by the room there is

-- a choice of a sheet's rules answered n, by the bytes that it makes
answered : {sheet marks chosen : List ℕ} {lent : Lent} {o : Outcome} (n : ℕ) → with_chosen sheet marks ≡ chosen → Judged chosen lent o
    → n ≡ o.answer → Answered sheet lent marks n
answered {lent = lent} {o = o} n e j h =
    record { got = o; promise = subst (λ (s : List ℕ). Judged s lent o) (sym e) j; number = h }

module _ {sheet marks : List ℕ} {lent : Lent} where
  two_clashes-13 : 2 ≤ capacity lent → with_chosen sheet marks ≡ two_clashes → Answered sheet lent marks 13
  unfolding first_fault tests-in strikes? outcome
  two_clashes-13 room e = answered 13 e (judged-13 two_clashes (0 ∷ 1 ∷ []) (32 ∷ 32 ∷ []) lent refl room tt) refl

  up_down_up-13 : 2 ≤ capacity lent → with_chosen sheet marks ≡ up_down_up → Answered sheet lent marks 13
  unfolding first_fault tests-in strikes? outcome
  up_down_up-13 room e = answered 13 e (judged-13 up_down_up (0 ∷ 1 ∷ []) (32 ∷ 32 ∷ []) lent refl room tt) refl

  up_down-13 : 2 ≤ capacity lent → with_chosen sheet marks ≡ up_down → Answered sheet lent marks 13
  unfolding first_fault tests-in strikes? outcome
  up_down-13 room e = answered 13 e (judged-13 up_down (0 ∷ 1 ∷ []) (32 ∷ 32 ∷ []) lent refl room tt) refl

  down_up-13 : 2 ≤ capacity lent → with_chosen sheet marks ≡ down_up → Answered sheet lent marks 13
  unfolding first_fault tests-in strikes? outcome
  down_up-13 room e = answered 13 e (judged-13 down_up (0 ∷ 1 ∷ []) (32 ∷ 32 ∷ []) lent refl room tt) refl

  opening-13 : 1 ≤ capacity lent → with_chosen sheet marks ≡ opening → Answered sheet lent marks 13
  unfolding first_fault tests-in strikes? outcome
  opening-13 room e = answered 13 e (judged-13 opening (1 ∷ []) (32 ∷ []) lent refl room tt) refl

  opening_late-13 : 1 ≤ capacity lent → with_chosen sheet marks ≡ opening_late → Answered sheet lent marks 13
  unfolding first_fault tests-in strikes? outcome
  opening_late-13 room e = answered 13 e (judged-13 opening_late (1 ∷ []) (32 ∷ []) lent refl room tt) refl

  from_one_stuck-13 : 1 ≤ capacity lent → with_chosen sheet marks ≡ from_one_stuck → Answered sheet lent marks 13
  unfolding first_fault tests-in strikes? outcome
  from_one_stuck-13 room e = answered 13 e (judged-13 from_one_stuck (1 ∷ []) (32 ∷ []) lent refl room tt) refl

  lawless-13 : 0 ≤ capacity lent → with_chosen sheet marks ≡ lawless → Answered sheet lent marks 13
  unfolding first_fault tests-in strikes? outcome
  lawless-13 room e = answered 13 e (judged-13 lawless [] [] lent refl room tt) refl

  no_law-13 : 0 ≤ capacity lent → with_chosen sheet marks ≡ no_law → Answered sheet lent marks 13
  unfolding first_fault tests-in strikes? outcome
  no_law-13 room e = answered 13 e (judged-13 no_law [] [] lent refl room tt) refl

  up-12 : 2 ≤ capacity lent → length lent.run < 2 → with_chosen sheet marks ≡ up → Answered sheet lent marks 12
  unfolding first_fault reachable-list? tests-in lists? quiet? livable? paper? outcome
  up-12 room runs e =
      answered 12 e (judged-12 up (0 ∷ 1 ∷ []) (0 ∷ 1 ∷ []) (0 ∷ 0 ∷ []) 1 lent refl room runs tt tt tt tt) refl

  up_up-12 : 2 ≤ capacity lent → length lent.run < 2 → with_chosen sheet marks ≡ up_up → Answered sheet lent marks 12
  unfolding first_fault reachable-list? tests-in lists? quiet? livable? paper? outcome
  up_up-12 room runs e =
      answered 12 e (judged-12 up_up (0 ∷ 1 ∷ []) (0 ∷ 1 ∷ []) (0 ∷ 0 ∷ []) 1 lent refl room runs tt tt tt tt) refl

  down-12 : 2 ≤ capacity lent → length lent.run < 1 → with_chosen sheet marks ≡ down → Answered sheet lent marks 12
  unfolding first_fault reachable-list? tests-in lists? quiet? livable? paper? outcome
  down-12 room runs e =
      answered 12 e (judged-12 down (0 ∷ 1 ∷ []) (0 ∷ []) (0 ∷ []) 0 lent refl room runs tt tt tt tt) refl

  plain-12 : 2 ≤ capacity lent → length lent.run < 1 → with_chosen sheet marks ≡ plain → Answered sheet lent marks 12
  unfolding first_fault reachable-list? tests-in lists? quiet? livable? paper? outcome
  plain-12 room runs e =
      answered 12 e (judged-12 plain (0 ∷ 1 ∷ []) (0 ∷ []) (0 ∷ []) 0 lent refl room runs tt tt tt tt) refl

  from_one_up-12 : 1 ≤ capacity lent → length lent.run < 1 → with_chosen sheet marks ≡ from_one_up → Answered sheet lent marks 12
  unfolding first_fault reachable-list? tests-in lists? quiet? livable? paper? outcome
  from_one_up-12 room runs e =
      answered 12 e (judged-12 from_one_up (1 ∷ []) (1 ∷ []) (0 ∷ []) 0 lent refl room runs tt tt tt tt) refl

  from_one_down-12 : 2 ≤ capacity lent → length lent.run < 2 → with_chosen sheet marks ≡ from_one_down → Answered sheet lent marks 12
  unfolding first_fault reachable-list? tests-in lists? quiet? livable? paper? outcome
  from_one_down-12 room runs e =
      answered 12 e (judged-12 from_one_down (0 ∷ 1 ∷ []) (1 ∷ 0 ∷ []) (0 ∷ 0 ∷ []) 1 lent refl room runs tt tt tt tt) refl

  up_down-11 : capacity lent < 2 → with_chosen sheet marks ≡ up_down → Answered sheet lent marks 11
  unfolding first_fault reachable-list? outcome
  up_down-11 above e = answered 11 e (judged-11 up_down (0 ∷ 1 ∷ []) lent refl above tt) refl

  from_one_down-11 : capacity lent < 2 → with_chosen sheet marks ≡ from_one_down → Answered sheet lent marks 11
  unfolding first_fault reachable-list? outcome
  from_one_down-11 above e = answered 11 e (judged-11 from_one_down (0 ∷ 1 ∷ []) lent refl above tt) refl

  from_one-11 : capacity lent < 2 → with_chosen sheet marks ≡ from_one → Answered sheet lent marks 11
  unfolding first_fault reachable-list? outcome
  from_one-11 above e = answered 11 e (judged-11 from_one (0 ∷ 1 ∷ []) lent refl above tt) refl

  opening-11 : capacity lent < 1 → with_chosen sheet marks ≡ opening → Answered sheet lent marks 11
  unfolding first_fault reachable-list? outcome
  opening-11 above e = answered 11 e (judged-11 opening (1 ∷ []) lent refl above tt) refl

  -- a sheet answered 13 or 12 is not answered 11
  has-room-13 : Answered sheet lent marks 13 → Answered sheet lent marks 11 → ⊥
  has-room-13 x = answered-apart x (λ e. omega (arith, e))

  has-room-12 : Answered sheet lent marks 12 → Answered sheet lent marks 11 → ⊥
  has-room-12 x = answered-apart x (λ e. omega (arith, e))

-- ---- numbers and marks

-- no mark is set past the last one
unmarked : (i n : ℕ) → ◌≡◌ {A = ℕ} (get_or (replicate n 0) i 0) 0
unmarked i zero = refl
unmarked zero (suc n) = refl
unmarked (suc i) (suc n) = unmarked i n

-- proposed numbers rise and are in the sheet
unfoldable proposal-test : (rules : ℕ) (numbers : List ℕ) → Test (Proposal rules numbers)
unfolding as? both? each? if? le?
proposal-test rules numbers = as?
    (λ w. record { least = w.0; most = w.1.0; rising = λ j h. w.1.1 j (omega arith) h })
    (λ p. (p.least, (p.most, λ j h. p.rising j)))
    (both? (each? (length numbers) (λ j. le? 1 (get_or numbers j 0)))
    (both? (each? (length numbers) (λ j. le? (get_or numbers j 0) rules))
    (each? (length numbers) (λ j. if? (le? (suc (suc j)) (length numbers)) (le? (suc (get_or numbers j 0)) (get_or numbers (suc j) 0))))))

-- ---- choices that fight, and choices that do not

-- rules 1 and 2
low-fight : Clash.Fighting two_clashes two_places (marks_of (1 ∷ 2 ∷ []))
unfolding with_chosen picked_in picked records_of bytes_of byte bodies letters_in firsts_at steps_at promises_at marks_of capacity
low-fight = record { together = up_down-13 (lit≤ tt) refl; one_less = less }
  where
    less : (i : ℕ) → Chosen i (marks_of (1 ∷ 2 ∷ [])) → Answered two_clashes two_places (left_out_of i (marks_of (1 ∷ 2 ∷ []))) 12
    less zero c = down-12 (lit≤ tt) (lit≤ tt) refl
    less (suc zero) c = up-12 (lit≤ tt) (lit≤ tt) refl
    less (suc (suc i)) c = absurd (c (unmarked i 253))

-- rules 3 and 4
high-fight : Clash.Fighting two_clashes two_places (marks_of (3 ∷ 4 ∷ []))
unfolding with_chosen picked_in picked records_of bytes_of byte bodies letters_in firsts_at steps_at promises_at marks_of capacity
high-fight = record { together = up_down-13 (lit≤ tt) refl; one_less = less }
  where
    less : (i : ℕ) → Chosen i (marks_of (3 ∷ 4 ∷ [])) → Answered two_clashes two_places (left_out_of i (marks_of (3 ∷ 4 ∷ []))) 12
    less zero c = absurd (c refl)
    less (suc zero) c = absurd (c refl)
    less (suc (suc zero)) c = down-12 (lit≤ tt) (lit≤ tt) refl
    less (suc (suc (suc zero))) c = up-12 (lit≤ tt) (lit≤ tt) refl
    less (suc (suc (suc (suc i)))) c = absurd (c (unmarked i 251))

-- rules 1, 2 and 3 fight, but rule 3 can be spared; none of their sheets needs more room
spare-roomy : Clash.Crowded two_clashes two_places (marks_of (1 ∷ 2 ∷ 3 ∷ [])) → ⊥
unfolding with_chosen picked_in picked records_of bytes_of byte bodies letters_in firsts_at steps_at promises_at marks_of capacity
spare-roomy (Clash.together p) = has-room-13 (up_down_up-13 (lit≤ tt) refl) p
spare-roomy (Clash.one_less zero c p) = has-room-13 (down_up-13 (lit≤ tt) refl) p
spare-roomy (Clash.one_less (suc zero) c p) = has-room-12 (up_up-12 (lit≤ tt) (lit≤ tt) refl) p
spare-roomy (Clash.one_less (suc (suc zero)) c p) = has-room-13 (up_down-13 (lit≤ tt) refl) p
spare-roomy (Clash.one_less (suc (suc (suc i))) c p) = absurd (c (unmarked i 252))

spare-not-fighting : Clash.Fighting two_clashes two_places (marks_of (1 ∷ 2 ∷ 3 ∷ [])) → ⊥
unfolding with_chosen picked_in picked records_of bytes_of byte bodies letters_in firsts_at steps_at promises_at marks_of capacity
spare-not-fighting f = answered-apart (up_down-13 (lit≤ tt) refl) (λ e. omega (arith, e)) (f.one_less 2 (λ e. omega (arith, e)))

-- rules 1 and 3 can be kept together, and each by itself
peace-roomy : Clash.Crowded two_clashes two_places (marks_of (1 ∷ 3 ∷ [])) → ⊥
unfolding with_chosen picked_in picked records_of bytes_of byte bodies letters_in firsts_at steps_at promises_at marks_of capacity
peace-roomy (Clash.together p) = has-room-12 (up_up-12 (lit≤ tt) (lit≤ tt) refl) p
peace-roomy (Clash.one_less zero c p) = has-room-12 (up-12 (lit≤ tt) (lit≤ tt) refl) p
peace-roomy (Clash.one_less (suc zero) c p) = absurd (c refl)
peace-roomy (Clash.one_less (suc (suc zero)) c p) = has-room-12 (up-12 (lit≤ tt) (lit≤ tt) refl) p
peace-roomy (Clash.one_less (suc (suc (suc i))) c p) = absurd (c (unmarked i 252))

peace-not-fighting : Clash.Fighting two_clashes two_places (marks_of (1 ∷ 3 ∷ [])) → ⊥
unfolding with_chosen picked_in picked records_of bytes_of byte bodies letters_in firsts_at steps_at promises_at marks_of capacity
peace-not-fighting f = answered-apart (up_up-12 (lit≤ tt) (lit≤ tt) refl) (λ e. omega (arith, e)) f.together

-- no rules: a sheet that has no lawful state, and one that can be kept
none-fight : Clash.Fighting lawless two_places (marks_of [])
unfolding with_chosen picked_in picked records_of bytes_of byte bodies letters_in firsts_at steps_at promises_at marks_of capacity
none-fight = record { together = no_law-13 (lit≤ tt) refl; one_less = λ i c. absurd (c (unmarked i 255)) }

none-roomy : Clash.Crowded peaceful two_places (marks_of []) → ⊥
unfolding with_chosen picked_in picked records_of bytes_of byte bodies letters_in firsts_at steps_at promises_at marks_of capacity
none-roomy (Clash.together p) = has-room-12 (plain-12 (lit≤ tt) (lit≤ tt) refl) p
none-roomy (Clash.one_less i c p) = absurd (c (unmarked i 255))

none-not-fighting : Clash.Fighting peaceful two_places (marks_of []) → ⊥
unfolding with_chosen picked_in picked records_of bytes_of byte bodies letters_in firsts_at steps_at promises_at marks_of capacity
none-not-fighting f = answered-apart (plain-12 (lit≤ tt) (lit≤ tt) refl) (λ e. omega (arith, e)) f.together

-- with room for both states the rules of `opening` fight
opening-fights : Clash.Fighting opening two_places (marks_of (1 ∷ 2 ∷ []))
unfolding with_chosen picked_in picked records_of bytes_of byte bodies letters_in firsts_at steps_at promises_at marks_of capacity
opening-fights = record { together = opening-13 (lit≤ tt) refl; one_less = less }
  where
    less : (i : ℕ) → Chosen i (marks_of (1 ∷ 2 ∷ [])) → Answered opening two_places (left_out_of i (marks_of (1 ∷ 2 ∷ []))) 12
    less zero c = from_one_down-12 (lit≤ tt) (lit≤ tt) refl
    less (suc zero) c = from_one_up-12 (lit≤ tt) (lit≤ tt) refl
    less (suc (suc i)) c = absurd (c (unmarked i 253))

-- with room for one, the sheet without rule 1 is too large; two states are too many at once
opening-crowded : Clash.Crowded opening one_place_said (marks_of (1 ∷ 2 ∷ []))
unfolding with_chosen picked_in picked records_of bytes_of byte bodies letters_in firsts_at steps_at promises_at marks_of capacity
opening-crowded = Clash.one_less 0 (λ e. omega (arith, e)) (from_one_down-11 (lit≤ tt) refl)

low-crowded : Clash.Crowded two_clashes one_place_said (marks_of (1 ∷ 2 ∷ []))
unfolding with_chosen picked_in picked records_of bytes_of byte bodies letters_in firsts_at steps_at promises_at marks_of capacity
low-crowded = Clash.together (up_down-11 (lit≤ tt) refl)

-- ---- plans

-- rules 4 and 3 are dropped, 2 and 1 are needed
two-plan : Clash.Plan two_clashes two_places (1 ∷ 1 ∷ replicate 253 0)
unfolding with_chosen picked_in picked records_of bytes_of byte bodies letters_in firsts_at steps_at promises_at marks_of capacity Dropping
two-plan = record {
  reduced = record {
    whole = two_clashes-13 (lit≤ tt) refl;
    dropping = drops (up_down_up-13 (lit≤ tt) refl) (drops (up_down-13 (lit≤ tt) refl)
        (keeps (up-12 (lit≤ tt) (lit≤ tt) refl) (keeps (down-12 (lit≤ tt) (lit≤ tt) refl) refl)));
  };
  roomy = room;
}
  where
    room : (i : ℕ) → Chosen i (1 ∷ 1 ∷ replicate 253 0) → Answered two_clashes two_places (left_out_of i (1 ∷ 1 ∷ replicate 253 0)) 11 → ⊥
    room zero c p = has-room-12 (down-12 (lit≤ tt) (lit≤ tt) refl) p
    room (suc zero) c p = has-room-12 (up-12 (lit≤ tt) (lit≤ tt) refl) p
    room (suc (suc i)) c p = absurd (c (unmarked i 253))

-- the only rule is dropped
lawless-plan : Clash.Plan lawless two_places (replicate 255 0)
unfolding with_chosen picked_in picked records_of bytes_of byte bodies letters_in firsts_at steps_at promises_at marks_of capacity Dropping
lawless-plan = record {
  reduced = record { whole = lawless-13 (lit≤ tt) refl; dropping = drops (no_law-13 (lit≤ tt) refl) refl };
  roomy = λ i c p. absurd (c (unmarked i 255));
}

-- rule 2 is needed, and without rule 1 there is no room
opening-ends : Clash.Reduced opening one_place_said none
unfolding with_chosen picked_in picked records_of bytes_of byte bodies letters_in firsts_at steps_at promises_at marks_of capacity Dropping
opening-ends = record {
  whole = opening-13 (lit≤ tt) refl;
  dropping = keeps (from_one_up-12 (lit≤ tt) (lit≤ tt) refl) (ends (from_one_down-11 (lit≤ tt) refl) refl);
}

-- rule 2 is needed while rule 1 stands, rule 1 is dropped, and then there is no room without rule 2
late-reduced : Clash.Reduced opening_late one_place_said (some (0 ∷ 1 ∷ replicate 253 0))
unfolding with_chosen picked_in picked records_of bytes_of byte bodies letters_in firsts_at steps_at promises_at marks_of capacity Dropping
late-reduced = record {
  whole = opening_late-13 (lit≤ tt) refl;
  dropping = keeps (from_one_up-12 (lit≤ tt) (lit≤ tt) refl) (drops (from_one_stuck-13 (lit≤ tt) refl) refl);
}

late-crowded : Clash.MetMore opening_late one_place_said
unfolding with_chosen picked_in picked records_of bytes_of byte bodies letters_in firsts_at steps_at promises_at marks_of capacity
late-crowded = Clash.at_last (0 ∷ 1 ∷ replicate 253 0) late-reduced 1 (λ e. omega (arith, e)) (from_one-11 (lit≤ tt) refl)

-- no room at once; nothing to plan
opening-at-once : Clash.MetMore opening no_place_said
unfolding with_chosen picked_in picked records_of bytes_of byte bodies letters_in firsts_at steps_at promises_at marks_of capacity
opening-at-once = Clash.at_once (opening-11 (lit≤ tt) refl)

peaceful-kept : Answered peaceful two_places (first_marks 1) 12
unfolding with_chosen picked_in picked records_of bytes_of byte bodies letters_in firsts_at steps_at promises_at marks_of capacity
peaceful-kept = up-12 (lit≤ tt) (lit≤ tt) refl

-- ---- the examples

pub the-fights : Fights
unfolding first_fault byte cleared zeros proposal-test
the-fights = record {
  fighting = Clash.weighed refl ((proposal-test 4 (1 ∷ 2 ∷ [])).sound tt) (Clash.accepted low-fight refl) refl refl;
  fighting_later = Clash.weighed refl ((proposal-test 4 (3 ∷ 4 ∷ [])).sound tt) (Clash.accepted high-fight refl) refl refl;
  one_to_spare =
      Clash.weighed refl ((proposal-test 4 (1 ∷ 2 ∷ 3 ∷ [])).sound tt) (Clash.refused spare-roomy spare-not-fighting refl) refl refl;
  no_fight = Clash.weighed refl ((proposal-test 4 (1 ∷ 3 ∷ [])).sound tt) (Clash.refused peace-roomy peace-not-fighting refl) refl refl;
  no_rules = Clash.weighed refl ((proposal-test 1 []).sound tt) (Clash.accepted none-fight refl) refl refl;
  no_rules_needed = Clash.weighed refl ((proposal-test 1 []).sound tt) (Clash.refused none-roomy none-not-fighting refl) refl refl;
  number_0 = Clash.misnumbered refl (proposal-test 4 (0 ∷ 1 ∷ 2 ∷ [])).whole refl refl refl;
  number_5 = Clash.misnumbered refl (proposal-test 4 (1 ∷ 2 ∷ 5 ∷ [])).whole refl refl refl;
  number_twice = Clash.misnumbered refl (proposal-test 4 (1 ∷ 2 ∷ 2 ∷ [])).whole refl refl refl;
  numbers_falling = Clash.misnumbered refl (proposal-test 4 (2 ∷ 1 ∷ [])).whole refl refl refl;
  no_room = Clash.weighed refl ((proposal-test 4 (1 ∷ 2 ∷ [])).sound tt) (Clash.crowded low-crowded refl) refl refl;
  no_room_without_one = Clash.weighed refl ((proposal-test 2 (1 ∷ 2 ∷ [])).sound tt) (Clash.crowded opening-crowded refl) refl refl;
  room_for_two = Clash.weighed refl ((proposal-test 2 (1 ∷ 2 ∷ [])).sound tt) (Clash.accepted opening-fights refl) refl refl;
  numbers_before_room = Clash.misnumbered refl (proposal-test 4 (2 ∷ 1 ∷ [])).whole refl refl refl;
  bad_sheet = Clash.ClashChecked.faulty (record { why = bad_letters; at = 3 }) refl refl refl refl;
  plan = Clash.worked refl (Clash.found two-plan refl) refl refl;
  empty_plan = Clash.worked refl (Clash.found lawless-plan refl) refl refl;
  nothing_to_plan = Clash.worked refl (Clash.kept peaceful-kept refl refl) refl refl;
  no_room_at_once = Clash.worked refl (Clash.more opening-at-once refl refl) refl refl;
  no_room_while_dropping = Clash.worked refl (Clash.more (Clash.dropping opening-ends) refl refl) refl refl;
  no_room_at_last = Clash.worked refl (Clash.more late-crowded refl refl) refl refl;
  bad_plan = Clash.Planned.faulty (record { why = bad_letters; at = 3 }) refl refl refl refl refl;
}
