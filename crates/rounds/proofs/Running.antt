-- The loop over phases, turn by turn, over a book: which phase comes next and what its word is, and that the numbers stay small.
-- Assumes nothing.
use mathlib.Core.Path.{◌≡◌, refl, sym, ap, subst, ◌∙◌}
use mathlib.Core.Logic.{◌⊎◌, inl, inr}
use mathlib.Core.Bool.{Bool, true, false, cond}
use mathlib.Core.List.{List}
use Prim.Native.Nat.{ℕ, zero, suc, ◌+◌, ◌-◌, ◌*◌, ◌/◌, ◌≤◌, ◌<◌}
use native.Mathlib.Nat.{suc-mul, zero-mul}
use native.Mathlib.Omega.{arith}
use lib.Arith.{digits_div, digits_mod}
use lib.Dec.{eqb}
use lib.ListN.{length, get_or, take}
use lib.Seq.{length-take-le, get_or-take}
use borrow.Author.Tests.{eqb-true, eqb-false}
use Rattle.ground.specs.Listed.{Rises}
use Rattle.meaning.specs.System.{System}
use Rattle.meaning.specs.Strike.{reason_of, word_of, Left}
use Rattle.rules.specs.Book.{book_system, promises_of}
use Rattle.rules.specs.Table.{LawfulTable}
use Rattle.rules.proofs.Facts.{promises-are, reached-lawful}
use Rattle.distances.specs.Far.{Unstruck}
use Rattle.watch.specs.Witness.{free_in}
use Rattle.ends_tests.specs.Phases.{Phased, Unphased}
use Rattle.rounds.specs.Marked.{Word, unstruck, Marked}
use Rattle.rounds.specs.Phases.{Strikable}
use Rattle.rounds.proofs.Marks.{Mark, Standing, place-reachable, marks-unphased, standing-more, standing-livable}

-- ---- phase numbers: phase round * (p + 1) + reason

-- the number of the phase for this reason in the round after `round` rounds
abbrev pub phase_of : System → (round reason : ℕ) → ℕ
phase_of S round reason = round * suc S.promises + reason

phase-reason : (S : System) (round reason : ℕ) → reason ≤ S.promises → reason_of S (phase_of S round reason) ≡ reason
phase-reason S round reason h = digits_mod round (omega arith)

phase-word : (S : System) (round reason : ℕ) → reason ≤ S.promises → word_of S (phase_of S round reason) ≡ 32 * suc round + reason
phase-word S round reason h =
    let a : phase_of S round reason / suc S.promises ≡ round = digits_div round (omega arith) in
    let b = phase-reason S round reason h in
    omega arith

-- ---- how many are left

-- what is unstruck is counted
unstruck-free : (words : List ℕ) (r : ℕ) → free_in words r ≡ unstruck words r
unstruck-free words zero = refl
unstruck-free words (suc r) =
    let a = unstruck-free words r in
    let b : 1 - get_or words r 0 ≡ cond (eqb (get_or words r 0) 0) 1 0 = by (eqb (get_or words r 0) 0) refl in
    omega arith
  where
    by : (t : Bool) → eqb (get_or words r 0) 0 ≡ t → 1 - get_or words r 0 ≡ cond t 1 0
    by true e = ap (λ (x : ℕ). 1 - x) (eqb-true (get_or words r 0) 0 e)
    by false e = let n = eqb-false (get_or words r 0) 0 e in omega arith

-- where every word is 0 all are unstruck
pub free_all : (words : List ℕ) (r : ℕ) → ((i : ℕ) → i < r → Unstruck words i) → free_in words r ≡ r
free_all words zero z = refl
free_all words (suc r) z =
    let a = free_all words r (λ i h. z i (omega arith)) in
    let b : 1 - get_or words r 0 ≡ 1 = ap (λ (x : ℕ). 1 - x) (z r (omega arith)) in
    omega arith

-- the next phase, what the words say before it, and what the numbers are
pub record Running (book table words₀ : List ℕ) (r : ℕ) (words : List ℕ) (left base reason quiet : ℕ) : Type 0 where
  pub round : ℕ
  pub base-is : base ≡ 32 * suc round
  pub within : reason ≤ (book_system book).promises
  pub stands : Standing (book_system book) table r words (phase_of (book_system book) round reason) quiet
  pub left_is : left ≡ free_in words r
  pub long : length words ≡ length words₀
  pub quiet_most : quiet ≤ suc (book_system book).promises
  pub early : quiet ≤ (book_system book).promises → round + left ≤ r
  pub struck_in : quiet < reason → suc round + left ≤ r

-- each turn either strikes or rests, so the measure falls
pub turn-less : (left n p quiet quiet' : ℕ) → n ≤ left → quiet ≤ p → p ≤ 16
    → ((n ≡ 0) × (quiet' ≡ suc quiet)) ⊎ ((n ≡ 0 → ⊥) × (quiet' ≡ 0)) → 32 * (left - n) + (suc p - quiet') < 32 * left + (suc p - quiet)
turn-less left n p quiet quiet' a b c (inl (e, f)) = omega arith
turn-less left n p quiet quiet' a b c (inr (e, f)) = omega arith

module _ (book table words₀ : List ℕ) (r : ℕ) (asked : Strikable book table words₀ r) where
  abbrev S : System
  S = book_system book

  few : S.promises < 32
  few = let a = promises-are book in let b = asked.shaped.few-promises in omega arith

  abbrev StandingAt : (words : List ℕ) (n quiet : ℕ) → Type 0
  StandingAt words n quiet = Standing S table r words n quiet

  -- The table's states are lawful.
  pub strikable-lawful : LawfulTable book table r
  strikable-lawful = record {
    shaped = asked.shaped;
    in_table = asked.in_table;
    few = asked.few;
    lawful = λ i h. reached-lawful book (get_or table i 0) (place-reachable S table r asked.in_table asked.lists few i h);
  }

  -- They rise.
  pub strikable-rises : Rises table r
  strikable-rises i h =
      let long : length (take r table) ≡ r = length-take-le r table asked.in_table in
      let a : i < r = omega arith in
      let low : get_or (take r table) i 0 < get_or (take r table) (suc i) 0 = asked.lists.rises i (omega arith) in
      rw (get_or-take r table i 0 a, get_or-take r table (suc i) 0 h) at low

  -- Where every word is 0, the first phase comes next.
  pub running_none : (words : List ℕ) → length words ≡ length words₀ → ((i : ℕ) → i < r → Unstruck words i)
      → Running book table words₀ r words r 32 0 0
  running_none words long z = record {
    round = 0;
    base-is = refl;
    within = omega arith;
    stands = record {
      marks =
          λ i h. inl
          (z i h, subst (λ (n : ℕ). Left S n (get_or table i 0)) start (place-reachable S table r asked.in_table asked.lists few i h));
      rest_from = phase_of S 0 0;
      rest-is = omega arith;
      at_rest = λ s l. l;
    };
    left_is = sym (free_all words r z);
    long = long;
    quiet_most = omega arith;
    early = λ h. omega arith;
    struck_in = λ h. absurd (omega arith);
  }
    where
      start : 0 ≡ phase_of S 0 0
      start = let a = zero-mul (suc S.promises) in omega arith

  module _ (words : List ℕ) (left base reason quiet : ℕ) (R : Running book table words₀ r words left base reason quiet) where
    reason-is : reason_of S (phase_of S R.round reason) ≡ reason
    reason-is = phase-reason S R.round reason R.within

    word-is : word_of S (phase_of S R.round reason) ≡ base + reason
    word-is = let a = phase-word S R.round reason R.within in let b = R.base-is in omega arith

    -- No place has the next phase's word yet.
    pub running-unphased : Unphased words r (base + reason)
    running-unphased = marks-unphased S table r asked.in_table asked.lists few (phase_of S R.round reason) words R.stands.marks
        (base + reason)
        word-is (let a = R.long in let b = asked.in_words in omega arith)

    -- The next reason is one of the sheet's,
    pub running-within : reason ≤ promises_of book
    running-within = let a = promises-are book in let b = R.within in omega arith

    -- its number is small,
    pub running-reason : reason ≤ 16
    running-reason = let a = running-within in let b = asked.shaped.few-promises in omega arith

    -- and so is its round's, while the rounds go on.
    pub running-base : (p : ℕ) → p ≡ promises_of book → quiet ≤ p → base < 1000000
    running-base p is-p h =
        let a = promises-are book in
        let b = R.early (omega arith) in
        let c = R.base-is in
        let d = asked.few in
        omega arith

    module _ (new : List ℕ) (fallen : ℕ) (phased : Phased S table r reason (base + reason) words new fallen) where
      -- No more fall than were left.
      pub running-fewer : fallen ≤ left
      running-fewer = let a = R.left_is in let b = phased.counted in omega arith

      -- One turn.
      pub running_more : (p : ℕ) → p ≡ promises_of book → quiet ≤ p → (quiet' base' reason' : ℕ)
          → ((fallen ≡ 0) × (quiet' ≡ suc quiet)) ⊎ ((fallen ≡ 0 → ⊥) × (quiet' ≡ 0))
          → ((reason < p) × (base' ≡ base)) ⊎ ((reason ≡ p) × (base' ≡ base + 32))
          → ((reason < p) × (reason' ≡ suc reason)) ⊎ ((reason ≡ p) × (reason' ≡ 0))
          → Running book table words₀ r new (left - fallen) base' reason' quiet'
      running_more p is-p h quiet' base' reason' q b c = by b c
        where
          next : StandingAt new (suc (phase_of S R.round reason)) quiet'
          next = standing-more S table r asked.in_table asked.lists few words (phase_of S R.round reason) quiet R.stands reason
              (base + reason)
              new fallen quiet' reason-is word-is phased q

          most : ((fallen ≡ 0) × (quiet' ≡ suc quiet)) ⊎ ((fallen ≡ 0 → ⊥) × (quiet' ≡ 0)) → quiet' ≤ suc S.promises
          most (inl (a, e)) = let d = promises-are book in omega arith
          most (inr (a, e)) = omega arith

          left-now : left - fallen ≡ free_in new r
          left-now = let a = R.left_is in let b = phased.counted in omega arith

          long-now : length new ≡ length words₀
          long-now = phased.long ∙ R.long

          stay-early : R.round + left ≤ r → R.round + (left - fallen) ≤ r
          stay-early a = omega arith

          -- the same round goes on
          same-struck : ((fallen ≡ 0) × (quiet' ≡ suc quiet)) ⊎ ((fallen ≡ 0 → ⊥) × (quiet' ≡ 0)) → quiet' < suc reason
              → suc R.round + (left - fallen) ≤ r
          same-struck (inl (a, e)) l = let d = R.struck_in (omega arith) in omega arith
          same-struck (inr (a, e)) l =
              let d = R.early (let f = promises-are book in omega arith) in let g = running-fewer in omega arith

          -- the next round begins
          next-early : reason ≡ p → ((fallen ≡ 0) × (quiet' ≡ suc quiet)) ⊎ ((fallen ≡ 0 → ⊥) × (quiet' ≡ 0)) → quiet' ≤ S.promises
              → suc R.round + (left - fallen) ≤ r
          next-early g (inl (a, e)) l = let f = promises-are book in let d = R.struck_in (omega arith) in omega arith
          next-early g (inr (a, e)) l = let f = promises-are book in let d = R.early (omega arith) in let k = running-fewer in omega arith

          by : ((reason < p) × (base' ≡ base)) ⊎ ((reason ≡ p) × (base' ≡ base + 32))
              → ((reason < p) × (reason' ≡ suc reason)) ⊎ ((reason ≡ p) × (reason' ≡ 0))
              → Running book table words₀ r new (left - fallen) base' reason' quiet'
          by (inl (l, e)) (inr (m, f)) = absurd (omega arith)
          by (inr (l, e)) (inl (m, f)) = absurd (omega arith)
          by (inl (l, e)) (inl (m, f)) = record {
            round = R.round;
            base-is = e ∙ R.base-is;
            within = let d = promises-are book in omega arith;
            stands = subst (λ (n : ℕ). StandingAt new n quiet') (omega arith) next;
            left_is = left-now;
            long = long-now;
            quiet_most = most q;
            early = λ _. stay-early (R.early (let d = promises-are book in omega arith));
            struck_in = λ s. same-struck q (omega arith);
          }
          by (inr (l, e)) (inr (m, f)) = record {
            round = suc R.round;
            base-is = let a = R.base-is in omega arith;
            within = omega arith;
            stands = subst (λ (n : ℕ). StandingAt new n quiet')
                (let d = promises-are book in let g = suc-mul R.round (suc S.promises) in omega arith) next;
            left_is = left-now;
            long = long-now;
            quiet_most = most q;
            early = λ s. next-early m q s;
            struck_in = λ s. absurd (omega arith);
          }

    -- After the last turn the words are the strike list's.
    pub running-marked : (p : ℕ) → p ≡ promises_of book → p < quiet → Marked S table words r left
    running-marked p is-p h = record {
      left_is = R.left_is ∙ unstruck-free words r;
      word = λ i l. by (get_or words i 0) (R.stands.marks i l);
    }
      where
        done : quiet ≡ suc S.promises
        done = let a = promises-are book in let b = R.quiet_most in omega arith

        by : {s : ℕ} (w : ℕ) → Mark S (phase_of S R.round reason) s w → Word S s w
        by {s} w (inl (z, l)) = inl (
          z,
          standing-livable S table r asked.in_table asked.lists few words (phase_of S R.round reason) quiet
              R.stands done s l,
        )
        by w (inr (m, k, x, e)) = inr (m, x, e)
