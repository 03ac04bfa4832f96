-- How the parts of the call make its promise: one sheet judged and noted, and the loop over the sheets. Assumes nothing.
use mathlib.Core.Path.{◌≡◌, refl, sym, subst}
use mathlib.Core.List.{List}
use Prim.Native.Nat.{ℕ, suc, ◌+◌, ◌-◌, ◌*◌, ◌≤◌, ◌<◌}
use native.Mathlib.Omega.{arith}
use lib.ListN.{length, get_or, take, drop}
use Rattle.meaning.specs.Promises.{Lent, Judged}
use Rattle.judge_answer.specs.Judging.{outcome_of}
use Rattle.judge_answer.specs.declared.Judgement.{Judgement}
use Rattle.class_ends.specs.Class.{numbers_each, start_of, sheet_at, Desk, stored, noted, OneJudged, InTurn}
use Rattle.class_ends.specs.Ends.{Fair}
use Rattle.class_ends.proofs.Turns.{SameRoom, in-turn-room}

-- One sheet judged, then its numbers noted.
pub judged-noted : {sheet : List ℕ} {at : ℕ} {lent leaves : Lent} {numbers numbers' : List ℕ} (r : Judgement)
    → Judged sheet lent (outcome_of r leaves) → numbers' ≡ stored at r.answer r.count r.a r.b numbers
    → OneJudged sheet at (record { lent = lent; numbers = numbers }) (record { lent = leaves; numbers = numbers' })
unfolding stored noted
judged-noted {leaves = leaves} r p n = record { got = outcome_of r leaves; promise = p; lent_left = refl; numbers_left = n }

-- the first i sheets are judged in turn, and the next starts at `start`
pub record Turning (sheets ends : List ℕ) (before : Desk) (i start : ℕ) (now : Desk) : Type 0 where
  pub inside : i ≤ length ends
  pub here : start ≡ start_of ends i
  pub turn : InTurn sheets ends before i now

-- Before the first sheet nothing is changed.
pub turning-none : (sheets ends : List ℕ) (before : Desk) → Turning sheets ends before 0 0 before
unfolding start_of InTurn
turning-none sheets ends before = record { inside = omega arith; here = refl; turn = refl }

-- One sheet more.
pub turning-more : {sheets ends : List ℕ} {before : Desk} {i start : ℕ} {now after : Desk} → Turning sheets ends before i start now
    → i < length ends → OneJudged (take (get_or ends i 0 - start) (drop start sheets)) (i * numbers_each) now after
    → Turning sheets ends before (i + 1) (get_or ends i 0) after
unfolding start_of InTurn sheet_at
turning-more {sheets} {ends} {before} {i} {start} {now} {after} T h one =
    let e : suc i ≡ i + 1 = omega arith in
    let there : OneJudged (sheet_at sheets ends i) (i * numbers_each) now after =
    subst (λ (s : ℕ). OneJudged (take (get_or ends i 0 - s) (drop s sheets)) (i * numbers_each) now after) T.here one in
    subst (λ (k : ℕ). Turning sheets ends before k (get_or ends i 0) after) e
    (record { inside = omega arith; here = refl; turn = (now, T.turn, there) })

-- The lengths on the way are those at the start.
pub turning-room : {sheets ends : List ℕ} {before : Desk} {i start : ℕ} {now : Desk} → Turning sheets ends before i start now
    → SameRoom before now
turning-room {sheets} {ends} {before} {i} T = in-turn-room sheets ends before i T.turn

-- In a fair class a sheet starts no later than it ends, and ends within the input.
pub turning-cut : {sheets ends : List ℕ} {before : Desk} {i start size room : ℕ} {now : Desk} → Turning sheets ends before i start now
    → Fair size ends room → i < length ends → (start ≤ get_or ends i 0) × (get_or ends i 0 ≤ size)
turning-cut {ends = ends} {i = i} T F h = (
  subst (λ (s : ℕ). s ≤ get_or ends i 0) (sym T.here) (F.ends-fit.rise i h),
  F.ends-fit.within i h,
)

-- When all are passed, all are judged.
pub turning-all : {sheets ends : List ℕ} {before : Desk} {i start : ℕ} {now : Desk} → Turning sheets ends before i start now
    → length ends ≤ i
    → InTurn sheets ends before (length ends) now
turning-all {sheets} {ends} {before} {i} {now = now} T all =
    let e : i ≡ length ends = omega (arith, T.inside) in
    subst (λ (k : ℕ). InTurn sheets ends before k now) e T.turn
