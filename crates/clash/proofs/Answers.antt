-- What the trials of a choice or of a plan come to: the answers of the check and of the planner. Assumes nothing.
use mathlib.Core.Path.{◌≡◌, refl, sym, ap, subst, ◌∙◌}
use mathlib.Core.Bool.{Bool, true, false}
use mathlib.Core.Option.{Option, none}
use mathlib.Core.List.{List}
use Prim.Native.Nat.{ℕ, zero, suc, ◌≤◌, ◌<◌}
use native.Mathlib.Omega.{arith}
use lib.ListN.{length, get_or, replicate}
use Rattle.meaning.specs.Sheet.{byte, first_fault}
use Rattle.meaning.specs.Promises.{Lent, zeros, cleared}
use Rattle.reader.specs.declared.Verdict.{Verdict}
use Rattle.reader.specs.Header.{steps_byte}
use Rattle.reader.proofs.Good.{good-header}
use Rattle.reader.proofs.Good as Good
use Rattle.judge_answer.proofs.Wiping.{zeros-same}
use Rattle.clash_choice.specs.Proposals.{most_rules, no_marks, first_marks, marks_of, Chosen, left_out_of, Proposal, ProposalSays}
use Rattle.clash_choice.proofs.Marks.{length-first}
use Rattle.clash_trials.specs.Trials.{lent_three, Answered, ends, drops, keeps, Dropping}
use Rattle.clash_trials.specs.Parts.{answer_for, Lengths, Trial, EachTried, more, spare, needed, EachLeftOut, end_of, Drops}
use Rattle.clash_trials.specs.declared.NoRoom.{NoRoom}
use Rattle.clash_trials.specs.declared.Finding.{Finding}
use Rattle.clash_trials.specs.declared.Finding.TheVariants.{CanBeKept, CannotBeKept}
use Rattle.clash_trials.proofs.Trials.{lengths-then, lengths-back, answered-same, answered-unique, answered-apart, answered-is}
use Rattle.clash_trials.proofs.Loops.{dropping-length}
use Rattle.clash_meaning.specs.Clash.{rules_in, Fighting, Crowded, Weighed, crowded, accepted, refused, ClashChecked, Reduced, Worked}
use Rattle.clash_meaning.specs.Clash.{Planned}
use Rattle.clash_meaning.specs.Clash as C
use Rattle.clash.specs.Parts.{refusal_number, Weighs, Finds, Works}
use Rattle.clash.specs.Parts as P
use Rattle.clash.specs.declared.slices.Refusal.{Refusal}
use Rattle.clash.specs.declared.slices.Refusal.TheVariants.{WithoutRoom, NotAccepted}
use Rattle.clash.specs.declared.slices.Refusal.TheVariants as R
use Rattle.std.specs.Prelude.{Result, Ok}

-- ---- slices

-- Three slices filled with zeros are cleared.
pub cleared-three : (t w c : List ℕ) {t' w' c' : List ℕ} → t' ≡ replicate (length t) 0 → w' ≡ replicate (length w) 0
    → c' ≡ replicate (length c) 0 → lent_three t' w' c' ≡ cleared (lent_three t w c)
unfolding cleared zeros
cleared-three t w c p q r = λ i. lent_three (p i) (q i) (r i)

-- Cleared after trials they are as those that were lent, cleared.
cleared-same : {t w c t' w' c' : List ℕ} → Lengths (lent_three t w c) (lent_three t' w' c')
    → cleared (lent_three t' w' c') ≡ cleared (lent_three t w c)
unfolding cleared
cleared-same {t} {w} {c} {t'} {w'} {c'} L =
    λ i. lent_three (zeros-same t' t L.table i) (zeros-same w' w L.words i) (zeros-same c' c L.scratch i)

-- ---- the count of rules

-- A good sheet has the byte that counts its step rules.
pub has-count : (sheet : List ℕ) → first_fault sheet ≡ none → 6 < length sheet
has-count sheet good = omega (arith, (good-header sheet good).least)

-- It says how many they are.
pub count-is : (sheet : List ℕ) → get_or sheet steps_byte 0 ≡ rules_in sheet
unfolding byte
count-is sheet = refl

-- ---- what was found, and why not

-- A trial that finds something had room.
pub found-roomy : {r : Result Finding NoRoom} {f : Finding} → r ≡ Ok f → answer_for r ≡ 11 → ⊥
found-roomy {f = CanBeKept} e x = omega (arith, ap answer_for e, x)
found-roomy {f = CannotBeKept} e x = omega (arith, ap answer_for e, x)

-- No refusal is told as 0.
pub refusal-told : (refusal : Refusal) → refusal_number refusal ≡ 0 → ⊥
refusal-told WithoutRoom e = omega arith
refusal-told R.CanBeKept e = omega arith
refusal-told NotAccepted e = omega arith

-- ---- a choice weighed

-- The pass over a choice's rules, told of the slices as they were lent.
each-later : {sheet marks : List ℕ} {x y : Lent} {n : ℕ} → Lengths x y → EachTried sheet y marks n → EachTried sheet x marks n
each-later L (more i chosen A e) = more i chosen (answered-same (lengths-back L) A) e
each-later L (spare never i chosen A e) =
    spare (λ j c B. never j c (answered-same L B)) i chosen (answered-same (lengths-back L) A) e
each-later L (needed all e) = needed (λ j c. answered-same (lengths-back L) (all j c)) e

-- If the pass does not say 11, no rule left out gives 11.
pub each-roomy : {sheet marks : List ℕ} {lent : Lent} {n : ℕ} → EachTried sheet lent marks n → (n ≡ 11 → ⊥) → (i : ℕ) → Chosen i marks
    → Answered sheet lent (left_out_of i marks) 11 → ⊥
each-roomy (more j c A e) apart i chosen B = apart e
each-roomy (spare never j c A e) apart i chosen B = never i chosen B
each-roomy (needed all e) apart i chosen B = answered-apart (all i chosen) (λ x. omega arith) B

-- If it says 11, one does; if it says 12, all give 12.
pub each-crowded : {sheet marks : List ℕ} {lent : Lent} {n : ℕ} → EachTried sheet lent marks n → n ≡ 11
    → (i : ℕ) × Chosen i marks × Answered sheet lent (left_out_of i marks) 11
each-crowded (more j c A e) is = (j, c, A)
each-crowded (spare never j c A e) is = absurd (omega arith)
each-crowded (needed all e) is = absurd (omega arith)

pub each_needed : {sheet marks : List ℕ} {lent : Lent} {n : ℕ} → EachTried sheet lent marks n → n ≡ 12 → (i : ℕ) → Chosen i marks
    → Answered sheet lent (left_out_of i marks) 12
each_needed (more j c A e) is = absurd (omega arith)
each_needed (spare never j c A e) is = absurd (omega arith)
each_needed (needed all e) is = all

-- Where all of them give 12, the pass says 12, or 11.
each-of-fight : {sheet marks : List ℕ} {lent : Lent} {n : ℕ} → EachTried sheet lent marks n → Fighting sheet lent marks → (n ≡ 11 → ⊥)
    → n ≡ 12
each-of-fight (more j c A e) F apart = absurd (apart e)
each-of-fight (spare never j c A e) F apart = absurd (answered-apart A (λ x. omega arith) (F.one_less j c))
each-of-fight (needed all e) F apart = e

-- 11 for the choice itself: 17.
pub weighed-at-once : {sheet marks : List ℕ} {lent after : Lent} {n : ℕ} → Trial sheet lent marks n after → n ≡ 11
    → Weighs sheet lent marks 17 after
weighed-at-once T e = record { weighed = crowded (C.together (answered-is e T.answered)) refl; lengths = T.lengths }

module _ {sheet marks marks' : List ℕ} {lent later after : Lent} {n k : ℕ} (T : Trial sheet lent marks n later)
    (E : EachLeftOut sheet later marks k marks' after) where
  tried : EachTried sheet lent marks k
  tried = each-later T.lengths E.tried

  weighs : {m : ℕ} → Weighed sheet lent marks m → Weighs sheet lent marks m after
  weighs W = record { weighed = W; lengths = lengths-then T.lengths E.lengths }

  -- 11 with one rule left out: 17.
  pub weighed-one-less : k ≡ 11 → Weighs sheet lent marks 17 after
  weighed-one-less e =
      let (i, chosen, A) = each-crowded tried e in
      weighs (crowded (C.one_less i chosen A) refl)

  -- 13 together and 12 with each left out: 0.
  pub weighed-fight : n ≡ 13 → k ≡ 12 → Weighs sheet lent marks 0 after
  weighed-fight e one = weighs (accepted (record { together = answered-is e T.answered; one_less = each_needed tried one }) refl)

  -- All else: 14. So where the choice itself can be kept; and where it has room, but a rule can be spared.
  weighed-else : (n ≡ 11 → ⊥) → (k ≡ 11 → ⊥) → (n ≡ 13 → k ≡ 12 → ⊥) → Weighs sheet lent marks 14 after
  weighed-else a b never = weighs (refused roomy peace refl)
    where
      roomy : Crowded sheet lent marks → ⊥
      roomy (C.together A) = answered-apart T.answered a A
      roomy (C.one_less i chosen A) = each-roomy tried b i chosen A

      peace : Fighting sheet lent marks → ⊥
      peace F = never (answered-unique T.answered F.together) (each-of-fight tried F b)

  pub weighed-kept : n ≡ 12 → (k ≡ 11 → ⊥) → Weighs sheet lent marks 14 after
  weighed-kept e roomy = weighed-else (λ x. omega arith) roomy (λ x y. omega arith)

  pub weighed-spare : (n ≡ 11 → ⊥) → k ≡ 13 → Weighs sheet lent marks 14 after
  weighed-spare roomy f = weighed-else roomy (λ x. omega arith) (λ x y. omega arith)

-- ---- the check's answers

-- A bad sheet.
pub checked-bad : {sheet : List ℕ} (numbers : List ℕ) (lent : Lent) {v : Verdict} → Good.Refusal sheet v
    → ClashChecked sheet numbers lent v.answer v.place lent
checked-bad numbers lent bad = C.faulty bad.fault bad.first bad.number bad.place refl

-- Numbers that are no proposal.
pub checked-misnumbered : {sheet numbers : List ℕ} (lent : Lent) {r : Bool} → first_fault sheet ≡ none
    → ProposalSays (get_or sheet steps_byte 0) numbers r
    → r ≡ false → ClashChecked sheet numbers lent 14 0 lent
checked-misnumbered {sheet} {numbers} lent good says e =
    C.misnumbered good (λ p. says.never e (subst (λ (k : ℕ). Proposal k numbers) (sym (count-is sheet)) p)) refl refl refl

-- A proposal weighed, and the slices cleared.
pub checked-weighed : {sheet numbers marks t w c t' w' c' : List ℕ} {n : ℕ} {after : Lent} → first_fault sheet ≡ none
    → Proposal (get_or sheet steps_byte 0) numbers → marks ≡ marks_of numbers → Weighs sheet (lent_three t w c) marks n (lent_three t' w' c')
    → after ≡ cleared (lent_three t' w' c') → ClashChecked sheet numbers (lent_three t w c) n 0 after
checked-weighed {sheet} {numbers} {t = t} {w} {c} {n = n} good proposed same W e =
    C.weighed good (subst (λ (k : ℕ). Proposal k numbers) (count-is sheet) proposed)
    (subst (λ (m : List ℕ). Weighed sheet (lent_three t w c) m n) same W.weighed) refl (e ∙ cleared-same W.lengths)

-- ---- a plan

-- Dropping, told of the slices as they were lent.
dropping-later : (sheet : List ℕ) {x y : Lent} (L : Lengths x y) (i : ℕ) (marks : List ℕ) (end : Option (List ℕ))
    → Dropping sheet y i marks end → Dropping sheet x i marks end
unfolding Dropping
dropping-later sheet L zero marks end d = d
dropping-later sheet L (suc i) marks end (ends A e) = ends (answered-same (lengths-back L) A) e
dropping-later sheet L (suc i) marks end (drops A d) =
    drops (answered-same (lengths-back L) A) (dropping-later sheet L i (left_out_of i marks) end d)
dropping-later sheet L (suc i) marks end (keeps A d) = keeps (answered-same (lengths-back L) A) (dropping-later sheet L i marks end d)

-- There are as many marks after dropping.
pub drops-long : {sheet marks marks' : List ℕ} {lent after : Lent} {count : ℕ} {r : Bool} → Drops sheet lent count marks r marks' after
    → r ≡ true → marks ≡ first_marks count → count ≤ most_rules → length marks' ≡ most_rules
drops-long {sheet} {marks} {marks'} {lent} {after} {count} D e all few =
    dropping-length sheet lent count marks marks' (subst (λ (x : Bool). Dropping sheet lent count marks (end_of x marks')) e D.dropping)
    ∙ ap length all ∙ length-first count few

-- the whole sheet tried, with no rule left out
module _ {sheet marks : List ℕ} {lent later : Lent} {n : ℕ} (all : marks ≡ first_marks (get_or sheet steps_byte 0))
    (T : Trial sheet lent marks n later) where
  whole-answered : Answered sheet lent (first_marks (rules_in sheet)) n
  whole-answered = subst (λ (m : List ℕ). Answered sheet lent m n) (all ∙ ap first_marks (count-is sheet)) T.answered

  -- 11 for the whole sheet: 17. And 12 for it: 12.
  pub works-at-once : (marks' : List ℕ) → n ≡ 11 → Works sheet lent 17 marks' later
  works-at-once marks' e = record { finds = P.more (C.at_once (answered-is e whole-answered)) refl; lengths = T.lengths }

  pub works-kept : (marks' : List ℕ) → n ≡ 12 → Works sheet lent 12 marks' later
  works-kept marks' e = record { finds = P.kept (answered-is e whole-answered) refl; lengths = T.lengths }

  -- 13 for it: dropping goes on from all rules
  module _ {marks' : List ℕ} {after : Lent} {r : Bool} (e : n ≡ 13) (D : Drops sheet later (get_or sheet steps_byte 0) marks r marks' after)
    where
      works-reduced : Reduced sheet lent (end_of r marks')
      works-reduced = record {
        whole = answered-is e whole-answered;
        dropping = subst (λ (k : ℕ). Dropping sheet lent k (first_marks k) (end_of r marks')) (count-is sheet)
            (subst (λ (m : List ℕ). Dropping sheet lent (get_or sheet steps_byte 0) m (end_of r marks')) all
            (dropping-later sheet T.lengths (get_or sheet steps_byte 0) marks (end_of r marks') D.dropping));
      }

      reduced-to : {x : Bool} → r ≡ x → Reduced sheet lent (end_of x marks')
      reduced-to e = subst (λ (x : Bool). Reduced sheet lent (end_of x marks')) e works-reduced

      -- 11 while dropping: 17.
      pub works-dropping : r ≡ false → Works sheet lent 17 marks' after
      works-dropping e =
          record { finds = P.more (C.dropping (reduced-to e)) refl; lengths = lengths-then T.lengths D.lengths }

      -- the last pass, with each rule of the choice left out
      module _ {marks'' : List ℕ} {end : Lent} {k : ℕ} (fits : r ≡ true) (E : EachLeftOut sheet after marks' k marks'' end) where
        long : Lengths lent after
        long = lengths-then T.lengths D.lengths

        -- 11 in it: 17.
        pub works-at-last : k ≡ 11 → Works sheet lent 17 marks'' end
        works-at-last eleven =
            let (i, chosen, A) = each-crowded (each-later long E.tried) eleven in
            record { finds = P.more (C.at_last marks' (reduced-to fits) i chosen A) refl; lengths = lengths-then long E.lengths }

        -- Else the choice is found.
        pub works-found : (k ≡ 11 → ⊥) → Works sheet lent 0 marks'' end
        works-found never = record {
          finds = subst (λ (m : List ℕ). Finds sheet lent 0 m) (sym E.unmoved)
              (P.found (record { reduced = reduced-to fits; roomy = each-roomy (each-later long E.tried) never }) refl);
          lengths = lengths-then long E.lengths;
        }

-- ---- the planner's answers

-- A bad sheet.
pub planned-bad : {sheet : List ℕ} (lent : Lent) {v : Verdict} → Good.Refusal sheet v → Planned sheet lent v.answer v.place no_marks lent
planned-bad lent bad = C.faulty bad.fault bad.first bad.number bad.place refl refl

-- No mark stays set on a refusal.
refuses : {sheet marks : List ℕ} {lent : Lent} {n : ℕ} → Finds sheet lent n marks → (n ≡ 0 → ⊥) → Worked sheet lent n no_marks
refuses (P.more m e) never = C.more m e refl
refuses (P.kept A e) never = C.kept A e refl
refuses (P.found p e) never = absurd (never e)

gives : {sheet marks : List ℕ} {lent : Lent} {n : ℕ} → Finds sheet lent n marks → n ≡ 0 → Worked sheet lent n marks
gives (P.more m e) is = absurd (omega arith)
gives (P.kept A e) is = absurd (omega arith)
gives (P.found p e) is = C.found p e

-- A good sheet, refused; and with a choice.
pub planned-refused : {sheet marks t w c t' w' c' : List ℕ} {n : ℕ} {after : Lent} → first_fault sheet ≡ none
    → Works sheet (lent_three t w c) n marks (lent_three t' w' c') → (n ≡ 0 → ⊥) → after ≡ cleared (lent_three t' w' c')
    → Planned sheet (lent_three t w c) n 0 no_marks after
planned-refused good W never e = C.worked good (refuses W.finds never) refl (e ∙ cleared-same W.lengths)

pub planned-found : {sheet marks t w c t' w' c' : List ℕ} {n : ℕ} {after : Lent} → first_fault sheet ≡ none
    → Works sheet (lent_three t w c) n marks (lent_three t' w' c') → n ≡ 0 → after ≡ cleared (lent_three t' w' c')
    → Planned sheet (lent_three t w c) n 0 marks after
planned-found good W is e = C.worked good (gives W.finds is) refl (e ∙ cleared-same W.lengths)
