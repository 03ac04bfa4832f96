-- Why the bytes that `write_chosen` leaves are the sheet with the chosen step rules.
--   a choice   picked_more: one more; picked-taken: marks past the last play no part
--   one rule   rule-left-out, rule_fits, rule-written
--   the loop   added_none, added_more; rule-asked: what each turn asks
--   the whole  wrote: limits and first rules copied, the chosen rules and the promises written behind them, then the header
-- Assumes nothing.
use mathlib.Core.Path.{◌≡◌, refl, sym, ◌∙◌, ap, subst}
use mathlib.Core.Option.{none}
use mathlib.Core.List.{List, [], ◌∷◌, ◌++◌, append_assoc, append-nil}
use Prim.Native.Nat.{ℕ, zero, suc, ◌+◌, ◌-◌, ◌≤◌, ◌<◌}
use native.Mathlib.Omega.{arith}
use lib.ListN.{length, take, drop, get_or, length-append, length-drop, drop_of_length-le}
use lib.Seq.{sets, take_all, take_at}
use Rattle.meaning.specs.Sheet.{a_limit, a_first, a_promise, byte, body_at, next_at, after_at, bodies, first_fault, most_bytes_of_a_sheet}
use Rattle.meaning.specs.Sheet.{letters_in, firsts_at, steps_at, promises_at, end_at}
use Rattle.meaning.proofs.Writing.{sets-append}
use Rattle.ground.proofs.Writing.{fits-written}
use Rattle.reader.specs.Header.{records_at, limits_in, firsts_in, steps_in, promises_in}
use Rattle.reader.proofs.Good.{good-header, length-body, length-bodies, after_more, steps-within, promises-within}
use Rattle.records.specs.declared.Stated.{Stated}
use Rattle.records.specs.Records.{Records, records_of, stated_in, section, joined, header, stated_of, bytes_of}
use Rattle.records.specs.Writing.{BodyAsks, RecordsWritten}
use Rattle.records.proofs.Written.{section-of, length-bytes}
use Rattle.records.proofs.Writing.{records-none, records-then, header-last}
use Rattle.clash_choice.specs.declared.Progress.{Progress}
use Rattle.clash_choice.specs.Choice.{picked, picked_in, with_chosen, Wrote}
use Rattle.clash_choice.specs.Writing.{RuleAsks, Added, marked, marked_of, RulesAsk, begun, RulesWritten}
use Rattle.clash_choice.proofs.Chosen.{picked-length-within, section-picked-within}
use Rattle.clash_choice.proofs.Places.{section-long, within-fewer, next_fits, limits-in, firsts-in, steps-in}

-- ---- a choice

-- one more, at the end
picked_more : {A : Type 0} (marks : List ℕ) (xs : List A) (x : A)
    → picked (take (suc (length xs)) marks) (xs ++ x ∷ [])
    ≡ picked (take (length xs) marks) xs ++ picked (get_or marks (length xs) 0 ∷ []) (x ∷ [])
unfolding picked
picked_more [] [] x = refl
picked_more (m ∷ marks) [] x = refl
picked_more [] (y ∷ xs) x = refl
picked_more (zero ∷ marks) (y ∷ xs) x = picked_more marks xs x
picked_more {A} (suc m ∷ marks) (y ∷ xs) x = ap (λ (l : List A). y ∷ l) (picked_more marks xs x)

-- marks past the last one play no part
picked-taken : {A : Type 0} (marks : List ℕ) (xs : List A) → picked (take (length xs) marks) xs ≡ picked marks xs
unfolding picked
picked-taken marks [] = refl
picked-taken [] (x ∷ xs) = refl
picked-taken (zero ∷ marks) (x ∷ xs) = picked-taken marks xs
picked-taken {A} (suc m ∷ marks) (x ∷ xs) = ap (λ (l : List A). x ∷ l) (picked-taken marks xs)

marked_all : (s marks : List ℕ) (count at : ℕ) → marked_of s marks count at ≡ picked marks (bodies s count at)
marked_all s marks count at =
    ap (λ (n : ℕ). picked (take n marks) (bodies s count at)) (sym (length-bodies s count at)) ∙ picked-taken marks (bodies s count at)

-- one record more, at the end
bodies-more : (s : List ℕ) (i at : ℕ) → bodies s (suc i) at ≡ bodies s i at ++ (body_at s (after_at s i at) ∷ [])
unfolding bodies after_at
bodies-more s zero at = refl
bodies-more s (suc i) at = ap (λ (l : List (List ℕ)). body_at s at ∷ l) (bodies-more s i (next_at s at))

-- one rule more, at the end: chosen if its mark says so
marked_more : (s marks : List ℕ) (i at : ℕ) → marked_of s marks (suc i) at ≡ marked_of s marks i at ++ marked s (get_or marks i 0)
    (after_at s i at)
marked_more s marks i at =
    let all = bodies s i at in
    let one = body_at s (after_at s i at) in
    ap (picked (take (suc i) marks)) (bodies-more s i at) ∙ (rw (length-bodies s i at) at (picked_more marks all one))

-- ---- one rule written or left out

pub rule-left-out : (s : List ℕ) (mark : ℕ) {old : List ℕ} {next end : ℕ} {p : Progress} → mark ≡ 0 → end ≡ next
    → Added (marked s mark p.from) next old p old (record { from = end; to = p.to; rules = p.rules })
unfolding picked
rule-left-out s mark {old} {next} {end} {p} e here =
    let q : Progress = record { from = end; to = p.to; rules = p.rules } in
    subst (λ (m : ℕ). Added (marked s m p.from) next old p old q) (sym e)
    (record { from = here; rules = omega arith; written = records-none old p.to })

-- the record's own bytes, from behind its length byte up to its end
rule-body : (s : List ℕ) (at end : ℕ) → end ≡ next_at s at → take (end - (at + 1)) (drop (at + 1) s) ≡ body_at s at
unfolding body_at next_at
rule-body s at end here =
    let start : at + 1 ≡ suc at = omega arith in
    let long : end - suc at ≡ byte s at = omega arith in
    ap (λ (n : ℕ). take (end - n) (drop n s)) start ∙ ap (λ (n : ℕ). take n (drop (suc at) s)) long

-- what writing it asks: its length fits a byte, and there is room where it goes
pub rule_fits : (s buffer : List ℕ) {end : ℕ} {p : Progress} → RuleAsks s p → byte s p.from < 256 → end ≡ next_at s p.from
    → length buffer ≡ most_bytes_of_a_sheet → BodyAsks buffer p.to (take (end - (p.from + 1)) (drop (p.from + 1) s))
unfolding next_at
rule_fits s buffer {end} {p} asks small here room =
    let size = length-body s p.from asks.fits in
    record {
      few = omega (arith, ap length (rule-body s p.from end here), size);
      within = omega (arith, room, asks.fits, asks.most, asks.behind);
    }

pub rule-written : (s : List ℕ) (mark : ℕ) {old new : List ℕ} {end to : ℕ} {p : Progress} → (mark ≡ 0 → ⊥) → end ≡ next_at s p.from
    → RecordsWritten old p.to (take (end - (p.from + 1)) (drop (p.from + 1) s) ∷ []) new to
    → Added (marked s mark p.from) (next_at s p.from) old p new (record { from = end; to = to; rules = p.rules + 1 })
unfolding picked
rule-written s zero f here w = absurd (f refl)
rule-written s (suc m) {old} {new} {end} {to} {p} f here w =
    record {
      from = here;
      rules = refl;
      written = subst (λ (b : List ℕ). RecordsWritten old p.to (b ∷ []) new to) (rule-body s p.from end here) w;
    }

-- ---- the loop over the rules

added_then : {a b : List (List ℕ)} {m n : ℕ} {old mid new : List ℕ} {p q r : Progress}
    → Added a m old p mid q → Added b n mid q new r → Added (a ++ b) n old p new r
added_then {a} {b} x y =
    record {
      from = y.from;
      rules = y.rules ∙ omega (arith, x.rules, length-append a b);
      written = records-then x.written y.written;
    }

pub added_none : (s marks old : List ℕ) (at : ℕ) → RulesWritten s marks 0 at old old (begun at)
unfolding picked bodies after_at
added_none s marks old at = record { from = refl; rules = refl; written = records-none old at }

pub added_more : (s marks : List ℕ) (i at : ℕ) {old mid new : List ℕ} {p q : Progress} → RulesWritten s marks i at old mid p
    → Added (marked s (get_or marks i 0) p.from) (next_at s p.from) mid p new q → RulesWritten s marks (i + 1) at old new q
added_more s marks i at {old} {mid} {new} {p} {q} x y =
    let there = subst (λ (n : ℕ). Added (marked s (get_or marks i 0) n) (next_at s n) mid p new q) x.from y in
    let chosen = sym (marked_more s marks i at) in
    let all : suc i ≡ i + 1 = omega arith in
    subst (λ (n : ℕ). RulesWritten s marks n at old new q) all
    (subst (λ (n : ℕ). Added (marked_of s marks (suc i) at) n old (begun at) new q) (sym (after_more s i at))
    (subst (λ (l : List (List ℕ)). Added l (next_at s (after_at s i at)) old (begun at) new q) chosen (added_then x there)))

-- what the next turn asks: no more was written than read, and there is a rule to read
pub rule-asked : (s marks : List ℕ) (count i at : ℕ) {old new : List ℕ} {p : Progress} → RulesAsk s count at → i < count → count ≤ 255
    → RulesWritten s marks i at old new p → RuleAsks s p
rule-asked s marks count i at {p = p} asks h few x =
    let all = bodies s i at in
    let long = section-long s i at (within-fewer asks.within (omega arith)) in
    record {
      fits = next_fits asks.within h x.from;
      most = asks.most;
      behind = omega (arith, x.from, x.written.next, long, section-picked-within (take i marks) all);
      few = omega (arith, x.rules, picked-length-within (take i marks) all, length-bodies s i at);
    }

-- ---- parts written into a buffer

-- three parts written one behind the other, from `start` on
record Parts (start : ℕ) (front chosen back : List ℕ) (old fronted ruled full : List ℕ) (at to n : ℕ) : Type 0 where
  at_is : at ≡ start + length front
  to_is : to ≡ at + length chosen
  n_is : n ≡ to + length back
  fronted-is : fronted ≡ sets old start front
  ruled_is : ruled ≡ sets fronted at chosen
  full_is : full ≡ sets ruled to back

-- The buffer is as if they had been written in one.
parts-one : {start : ℕ} {front chosen back old fronted ruled full : List ℕ} {at to n : ℕ}
    → Parts start front chosen back old fronted ruled full at to n
    → (n ≡ start + length (front ++ (chosen ++ back))) × (full ≡ sets old start (front ++ (chosen ++ back)))
parts-one {start} {front} {chosen} {back} {old} {fronted} {ruled} {full} {at} {to} {n} p =
    let rest = chosen ++ back in
    let long : n ≡ start + length (front ++ rest) =
    omega (arith, p.n_is, p.to_is, p.at_is, length-append front rest, length-append chosen back) in
    let written : full ≡ sets old start (front ++ rest) =
    p.full_is ∙ ap (λ (n : ℕ). sets ruled n back) p.to_is ∙ ap (λ (l : List ℕ). sets l (at + length chosen) back) p.ruled_is
    ∙ sym (sets-append fronted at chosen back) ∙ ap (λ (l : List ℕ). sets l at rest) p.fronted-is
    ∙ ap (λ (n : ℕ). sets (sets old start front) n rest) p.at_is ∙ sym (sets-append old start front rest) in
    (long, written)

-- ---- the whole sheet

-- what a header states, with another length and another count of step rules
abbrev pub restated : Stated → (size rules : ℕ) → Stated
restated own size rules = record {
  version = own.version;
  size = size;
  letters = own.letters;
  limits = own.limits;
  firsts = own.firsts;
  steps = rules;
  promises = own.promises;
}

module _ (s marks : List ℕ) (good : first_fault s ≡ none) where
  -- the limits and the first rules, which are copied in front of the step rules
  abbrev front : List ℕ
  front = section (records_of s).limits ++ section (records_of s).firsts

  front_long : steps_at s ≡ records_at + length front
  unfolding records_of firsts_at steps_at
  front_long =
      let limits = section (records_of s).limits in
      let firsts = section (records_of s).firsts in
      let first = section-long s (limits_in s) records_at (limits-in s good) in
      let then = section-long s (firsts_in s) (firsts_at s) (firsts-in s good) in
      omega (arith, first, then, length-append limits firsts)

  -- the places between which they stand
  pub front-places : {at : ℕ} → at ≡ steps_at s → (records_at ≤ at) × (at ≤ length s)
  front-places here = (omega (arith, here, front_long), omega (arith, here, steps-within s (good-header s good)))

  front-is : take (steps_at s - records_at) (drop records_at s) ≡ front
  unfolding records_of firsts_at steps_at
  front-is =
      let h = good-header s good in
      let limits = section (records_of s).limits in
      let firsts = section (records_of s).firsts in
      let limited = section-of a_limit (letters_in s) s (limits_in s) records_at h.limits_read in
      let firsted = section-of a_first (letters_in s) s (firsts_in s) (firsts_at s) h.firsts_read in
      let all = limited ∙ ap (λ (l : List ℕ). limits ++ l) firsted ∙ sym (append_assoc limits firsts (drop (steps_at s) s)) in
      ap (take (steps_at s - records_at)) all ∙ take_at front (drop (steps_at s) s) (steps_at s - records_at) (omega (arith, front_long))

  -- and the promises, which are copied behind them
  back_is : drop (promises_at s) s ≡ section (records_of s).promises
  unfolding records_of end_at
  back_is =
      let h = good-header s good in
      let promises = section (bodies s (promises_in s) (promises_at s)) in
      section-of a_promise (letters_in s) s (promises_in s) (promises_at s) h.promises_read
      ∙ ap (λ (l : List ℕ). promises ++ l) (drop_of_length-le s {i = end_at s} (omega (arith, h.whole))) ∙ append-nil promises

  abbrev records : Records
  unfolding picked_in
  records = picked_in marks (records_of s)

  -- the marked ones of the sheet's step rules
  abbrev chosen : List (List ℕ)
  chosen = marked_of s marks (steps_in s) (steps_at s)

  chosen_is : chosen ≡ records.steps
  unfolding picked_in records_of
  chosen_is = marked_all s marks (steps_in s) (steps_at s)

  -- all that stands behind the header
  copied_is : front ++ (section chosen ++ drop (promises_at s) s) ≡ joined records
  unfolding picked_in records_of joined
  copied_is =
      let limits = section (records_of s).limits in
      let firsts = section (records_of s).firsts in
      let steps = section records.steps in
      let promises = section (records_of s).promises in
      ap (λ (l : List (List ℕ)). front ++ (section l ++ drop (promises_at s) s)) chosen_is
      ∙ ap (λ (l : List ℕ). front ++ (steps ++ l)) back_is
      ∙ append_assoc limits firsts (steps ++ promises)

  stated-is : {own : Stated} {n rules : ℕ} → own ≡ stated_in s → n ≡ records_at + length (joined records) → rules ≡ length records.steps
      → restated own n rules ≡ stated_of 1 records
  unfolding stated_of stated_in picked_in records_of
  stated-is own e count =
      let h = good-header s good in
      let limits = length-bodies s (limits_in s) records_at in
      let firsts = length-bodies s (firsts_in s) (firsts_at s) in
      let promises = length-bodies s (promises_in s) (promises_at s) in
      cc (own, h.version, e, count, limits, firsts, promises)

  module _ {at : ℕ} {fronted ruled : List ℕ} {p : Progress} (here : at ≡ steps_at s)
      (x : RulesWritten s marks (steps_in s) at fronted ruled p) where
    there : Added chosen (promises_at s) fronted (begun (steps_at s)) ruled p
    unfolding promises_at
    there = subst (λ (a : ℕ). RulesWritten s marks (steps_in s) a fronted ruled p) here x

    -- the rules begin, the writing stands, the promises begin, the sheet ends
    pub order : (at ≤ p.to) × (p.to ≤ p.from) × (p.from ≤ length s)
    unfolding promises_at
    order =
        let few = section-picked-within (take (steps_in s) marks) (bodies s (steps_in s) (steps_at s)) in
        let all = section-long s (steps_in s) (steps_at s) (steps-in s good) in (
          omega (arith, here, there.written.next),
          omega (arith, there.written.next, there.from),
          omega (arith, there.from, promises-within s (good-header s good)),
        )

    rest-is : take (length s - p.from) (drop p.from s) ≡ drop (promises_at s) s
    rest-is =
        take_all (length s - p.from) (drop p.from s) (omega (arith, length-drop p.from s))
        ∙ ap (λ (a : ℕ). drop a s) there.from

    -- The front copied, the chosen rules and all from the promises on written behind it, then the header in front.
    pub wrote : {n : ℕ} (old : List ℕ) {full new : List ℕ} {own : Stated} → length old ≡ most_bytes_of_a_sheet
        → fronted ≡ sets old records_at (take (at - records_at) (drop records_at s))
        → full ≡ sets ruled p.to (take (length s - p.from) (drop p.from s))
        → n ≡ p.to + length (take (length s - p.from) (drop p.from s))
        → own ≡ stated_in s → new ≡ sets full 0 (header (restated own n p.rules))
        → Wrote s marks new n
    unfolding with_chosen bytes_of header
    wrote {n} old {full} room f g e own l =
        let back = length-drop (promises_at s) s in
        let few : n ≤ most_bytes_of_a_sheet = omega (arith, e, order, ap length rest-is, there.from, (good-header s good).most) in
        let parts : Parts records_at front (section chosen) (drop (promises_at s) s) old fronted ruled full _ p.to n =
        record {
          at_is = front_long;
          to_is = there.written.next;
          n_is = e ∙ ap (λ (b : List ℕ). p.to + length b) rest-is;
          fronted-is =
              f ∙ ap (λ (a : ℕ). sets old records_at (take (a - records_at) (drop records_at s))) here ∙ ap (sets old records_at) front-is;
          ruled_is = there.written.slice;
          full_is = g ∙ ap (sets ruled p.to) rest-is;
        } in
        let one = parts-one parts in
        let size : n ≡ records_at + length (joined records) = omega (arith, one.0, ap length copied_is) in
        let count : p.rules ≡ length records.steps = there.rules ∙ ap (λ (k : List (List ℕ)). 0 + length k) chosen_is ∙ omega arith in
        let whole = header-last old (header (stated_of 1 records)) (joined records) (one.1 ∙ ap (sets old records_at) copied_is)
        (l ∙ ap (λ (h : Stated). sets full 0 (header h)) (stated-is own size count)) in
        record {
          fits = few;
          bytes =
              ap (take n) whole ∙ ap (λ (k : ℕ). take k (sets old 0 (bytes_of records))) (size ∙ sym (length-bytes records))
              ∙ fits-written old (bytes_of records) (omega (arith, room, few, size, length-bytes records));
        }
