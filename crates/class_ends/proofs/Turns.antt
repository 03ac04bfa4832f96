-- Sheets judged in turn: one outcome for every input, every input has one, no slice grows or shrinks, and each sheet's numbers stand where
-- the promise says. Assumes nothing.
use mathlib.Core.Path.{◌≡◌, refl, sym, ap, subst, ◌∙◌}
use mathlib.Core.List.{List}
use Prim.Native.Nat.{ℕ, zero, suc, ◌+◌, ◌*◌, ◌≤◌, ◌<◌}
use native.Mathlib.Decide.{dec_lt}
use native.Mathlib.Omega.{arith}
use lib.ListN.{length, get_or, set, length-set}
use lib.Seq.{get_or-set_same, get_or-set_other}
use Rattle.meaning.specs.Promises.{Lent, Outcome, Judged}
use Rattle.meaning.proofs.Promised.{judged-unique}
use Rattle.meaning.proofs.Meetable.{judged-met, AsLong, judged-as-long}
use Rattle.class_ends.specs.Class.{numbers_each, sheet_at, Desk, stored, noted, OneJudged, InTurn}

-- ---- one outcome, and there is one

-- Two desks with the same slices are the same.
pub desk-same : {x y : Desk} → x.lent ≡ y.lent → x.numbers ≡ y.numbers → x ≡ y
desk-same p q = λ i. record { lent = p i; numbers = q i }

-- One sheet's judging leaves one desk.
pub one-unique : {sheet : List ℕ} {at : ℕ} {before x y : Desk} → OneJudged sheet at before x → OneJudged sheet at before y → x ≡ y
one-unique {at = at} {before} p q =
    let same : p.got ≡ q.got = judged-unique p.promise q.promise in
    desk-same
    (p.lent_left ∙ ap (λ (o : Outcome). o.leaves) same ∙ sym q.lent_left)
    (p.numbers_left ∙ ap (λ (o : Outcome). noted at o before.numbers) same ∙ sym q.numbers_left)

-- The first i sheets, judged in turn, leave one desk.
pub in-turn-unique : (sheets ends : List ℕ) (before : Desk) (i : ℕ) {x y : Desk}
    → InTurn sheets ends before i x → InTurn sheets ends before i y → x ≡ y
unfolding InTurn
in-turn-unique sheets ends before zero p q = p ∙ sym q
in-turn-unique sheets ends before (suc i) {x} {y} (mid, p, one) (mid', q, one') =
    one-unique (subst (λ (d : Desk). OneJudged (sheet_at sheets ends i) (i * numbers_each) d x) (in-turn-unique sheets ends before i p q)
    one) one'

-- One sheet can be judged from every desk.
one-met : (sheet : List ℕ) (at : ℕ) (before : Desk) → (after : Desk) × OneJudged sheet at before after
one-met sheet at before =
    let (o, promise) = judged-met sheet before.lent in (
      record { lent = o.leaves; numbers = noted at o before.numbers },
      record {
        got = o;
        promise = promise;
        lent_left = refl;
        numbers_left = refl;
      },
    )

-- So can the first i.
pub in-turn-met : (sheets ends : List ℕ) (before : Desk) (i : ℕ) → (after : Desk) × InTurn sheets ends before i after
unfolding InTurn
in-turn-met sheets ends before zero = (before, refl)
in-turn-met sheets ends before (suc i) =
    let (mid, turn) = in-turn-met sheets ends before i in
    let (after, one) = one-met (sheet_at sheets ends i) (i * numbers_each) mid in
    (after, (mid, turn, one))

-- ---- lengths

-- Slices are as long as themselves, and as those that are as long as these.
pub as-long-same : (lent : Lent) → AsLong lent lent
as-long-same lent = record { table = refl; words = refl; scratch = refl; run = refl }

pub as-long-then : {x y z : Lent} → AsLong x y → AsLong y z → AsLong x z
as-long-then p q =
    record { table = q.table ∙ p.table; words = q.words ∙ p.words; scratch = q.scratch ∙ p.scratch; run = q.run ∙ p.run }

-- Noting numbers keeps their slice's length.
pub length-noted : (at : ℕ) (o : Outcome) (l : List ℕ) → length (noted at o l) ≡ length l
unfolding stored noted
length-noted at o l = simp length-set refl

-- two desks with slices of the same lengths
pub record SameRoom (before after : Desk) : Type 0 where
  pub lent : AsLong before.lent after.lent
  pub numbers : length after.numbers ≡ length before.numbers

-- One sheet's judging keeps every length.
pub one-room : {sheet : List ℕ} {at : ℕ} {before after : Desk} → OneJudged sheet at before after → SameRoom before after
one-room {at = at} {before} {after} p = record {
  lent = subst (AsLong before.lent) (sym p.lent_left) (judged-as-long p.promise);
  numbers = ap length p.numbers_left ∙ length-noted at p.got before.numbers;
}

-- So do the first i.
pub in-turn-room : (sheets ends : List ℕ) (before : Desk) (i : ℕ) {after : Desk} → InTurn sheets ends before i after → SameRoom before after
unfolding InTurn
in-turn-room sheets ends before zero p = subst (SameRoom before) (sym p) (record { lent = as-long-same before.lent; numbers = refl })
in-turn-room sheets ends before (suc i) (mid, p, one) =
    let early = in-turn-room sheets ends before i p in
    let late = one-room one in
    record { lent = as-long-then early.lent late.lent; numbers = late.numbers ∙ early.numbers }

-- ---- where the numbers stand

-- the four numbers of an outcome, from place `at` on
pub record Stand (numbers : List ℕ) (at : ℕ) (o : Outcome) : Type 0 where
  pub answer : get_or numbers at 0 ≡ o.answer
  pub count : get_or numbers (at + 1) 0 ≡ o.count
  pub a : get_or numbers (at + 2) 0 ≡ o.a
  pub b : get_or numbers (at + 3) 0 ≡ o.b

-- Numbers that are noted stand there.
pub noted-stand : (at : ℕ) (o : Outcome) (l : List ℕ) → at + 4 ≤ length l → Stand (noted at o l) at o
unfolding stored noted
noted-stand at o l h =
    let l₁ : List ℕ = set l at o.answer in
    let l₂ : List ℕ = set l₁ (at + 1) o.count in
    let l₃ : List ℕ = set l₂ (at + 2) o.a in
    let n₁ : length l₁ ≡ length l = length-set l at o.answer in
    let n₂ : length l₂ ≡ length l₁ = length-set l₁ (at + 1) o.count in
    let n₃ : length l₃ ≡ length l₂ = length-set l₂ (at + 2) o.a in
    record {
      answer =
          get_or-set_other l₃ (at + 3) at o.b 0 (λ e. omega arith) ∙ get_or-set_other l₂ (at + 2) at o.a 0 (λ e. omega arith)
          ∙ get_or-set_other l₁ (at + 1) at o.count 0 (λ e. omega arith) ∙ get_or-set_same l at o.answer 0 (omega arith);
      count =
          get_or-set_other l₃ (at + 3) (at + 1) o.b 0 (λ e. omega arith) ∙ get_or-set_other l₂ (at + 2) (at + 1) o.a 0 (λ e. omega arith)
          ∙ get_or-set_same l₁ (at + 1) o.count 0 (omega (arith, n₁));
      a =
          get_or-set_other l₃ (at + 3) (at + 2) o.b 0 (λ e. omega arith)
          ∙ get_or-set_same l₂ (at + 2) o.a 0 (omega (arith, n₁, n₂));
      b = get_or-set_same l₃ (at + 3) o.b 0 (omega (arith, n₁, n₂, n₃));
    }

-- Numbers at other places are as they were.
pub noted-apart : (at : ℕ) (o : Outcome) (l : List ℕ) (j : ℕ) → ((k : ℕ) → k < 4 → j ≡ at + k → ⊥) → get_or (noted at o l) j 0 ≡ get_or l j 0
unfolding stored noted
noted-apart at o l j apart =
    let l₁ : List ℕ = set l at o.answer in
    let l₂ : List ℕ = set l₁ (at + 1) o.count in
    let l₃ : List ℕ = set l₂ (at + 2) o.a in
    get_or-set_other l₃ (at + 3) j o.b 0 (apart 3 (omega arith)) ∙ get_or-set_other l₂ (at + 2) j o.a 0 (apart 2 (omega arith))
    ∙ get_or-set_other l₁ (at + 1) j o.count 0 (apart 1 (omega arith)) ∙ get_or-set_other l at j o.answer 0
    (λ e. apart 0 (omega arith) (omega arith))

-- what sheet i got: judged with slices as long as those lent, its four numbers at its places
pub record Got (sheet : List ℕ) (at : ℕ) (before after : Desk) : Type 0 where
  pub lent : Lent
  pub long : AsLong before.lent lent
  pub outcome : Outcome
  pub promise : Judged sheet lent outcome
  pub stand : Stand after.numbers at outcome

-- The numbers of every sheet stand at its places.
pub in-turn-got : (sheets ends : List ℕ) (before : Desk) (n : ℕ) {after : Desk} → InTurn sheets ends before n after
    → n * numbers_each ≤ length before.numbers → (i : ℕ) → i < n → Got (sheet_at sheets ends i) (i * numbers_each) before after
unfolding InTurn
in-turn-got sheets ends before zero p room i h = absurd (omega arith)
in-turn-got sheets ends before (suc n) {after} (mid, p, one) room i h = by (dec_lt i n) (in-turn-got sheets ends before n p (omega arith) i)
  where
    early : SameRoom before mid
    early = in-turn-room sheets ends before n p

    kept : (j : ℕ) → j < n * numbers_each → get_or after.numbers j 0 ≡ get_or mid.numbers j 0
    kept j l = ap (λ (x : List ℕ). get_or x j 0) one.numbers_left ∙ noted-apart (n * numbers_each) one.got mid.numbers j
        (λ k s e. omega arith)

    by : Dec (i < n) → (i < n → Got (sheet_at sheets ends i) (i * numbers_each) before mid) → Got (sheet_at sheets ends i)
        (i * numbers_each) before after
    by (yes l) earlier =
        let g = earlier l in
        record {
          lent = g.lent;
          long = g.long;
          outcome = g.outcome;
          promise = g.promise;
          stand = record {
            answer = kept (i * numbers_each) (omega arith) ∙ g.stand.answer;
            count = kept (i * numbers_each + 1) (omega arith) ∙ g.stand.count;
            a = kept (i * numbers_each + 2) (omega arith) ∙ g.stand.a;
            b = kept (i * numbers_each + 3) (omega arith) ∙ g.stand.b;
          };
        }
    by (no l) earlier =
        let e : n ≡ i = omega arith in
        subst (λ (k : ℕ). Got (sheet_at sheets ends k) (k * numbers_each) before after) e (record {
          lent = mid.lent;
          long = early.lent;
          outcome = one.got;
          promise = one.promise;
          stand = subst (λ (x : List ℕ). Stand x (n * numbers_each) one.got) (sym one.numbers_left)
              (noted-stand (n * numbers_each) one.got mid.numbers (omega (arith, early.numbers)));
        })

-- Places past four a sheet are as they were.
pub in-turn-past : (sheets ends : List ℕ) (before : Desk) (n : ℕ) (after : Desk) → InTurn sheets ends before n after
    → (j : ℕ) → n * numbers_each ≤ j → get_or after.numbers j 0 ≡ get_or before.numbers j 0
unfolding InTurn
in-turn-past sheets ends before zero after p j h = ap (λ (d : Desk). get_or d.numbers j 0) p
in-turn-past sheets ends before (suc n) after (mid, p, one) j h =
    ap (λ (x : List ℕ). get_or x j 0) one.numbers_left ∙ noted-apart (n * numbers_each) one.got mid.numbers j (λ k s e. omega arith)
    ∙ in-turn-past sheets ends before n mid p j (omega arith)
