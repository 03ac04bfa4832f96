-- What the judge says of a sheet with a choice of its rules, judged with no room for a run: every choice has an answer, and what 12 and 13
-- mean. Assumes nothing.
use mathlib.Core.Path.{◌≡◌, refl}
use mathlib.Core.Option.{none}
use mathlib.Core.List.{List, []}
use Prim.Native.Nat.{ℕ}
use native.Mathlib.Omega.{arith}
use Rattle.meaning.specs.System.{CanBeKept}
use Rattle.meaning.specs.Sheet.{first_fault}
use Rattle.meaning.specs.Promises.{system_in, Lent}
use Rattle.meaning.proofs.Meetable.{judged-met}
use Rattle.clash_choice.specs.Choice.{with_chosen}
use Rattle.clash_trials.specs.Trials.{Answered}
use Rattle.clash_trials.proofs.Trials.{answered-apart, Verdict, is_11, is_12, is_13, verdict}

-- Every choice has an answer.
pub answered-met : (sheet : List ℕ) (lent : Lent) (marks : List ℕ) → (n : ℕ) × Answered sheet lent marks n
answered-met sheet lent marks =
    let (o, judged) = judged-met (with_chosen sheet marks) lent in
    (o.answer, record { got = o; promise = judged; number = refl })

-- What 12 and 13 mean: an endless run obeys the sheet with these rules; none does.
module _ {sheet : List ℕ} {lent : Lent} {marks : List ℕ} (good : first_fault sheet ≡ none) (no_run : lent.run ≡ []) where
  pub kept-at-12 : Answered sheet lent marks 12 → CanBeKept (system_in (with_chosen sheet marks))
  kept-at-12 p = by (verdict good no_run marks)
    where
      by : Verdict sheet lent marks → CanBeKept (system_in (with_chosen sheet marks))
      by (is_11 q) = absurd (answered-apart p (λ e. omega (arith, e)) q)
      by (is_12 q kept) = kept
      by (is_13 q never) = absurd (answered-apart p (λ e. omega (arith, e)) q)

  pub never-at-13 : Answered sheet lent marks 13 → CanBeKept (system_in (with_chosen sheet marks)) → ⊥
  never-at-13 p = by (verdict good no_run marks)
    where
      by : Verdict sheet lent marks → CanBeKept (system_in (with_chosen sheet marks)) → ⊥
      by (is_11 q) = absurd (answered-apart p (λ e. omega (arith, e)) q)
      by (is_12 q kept) = absurd (answered-apart p (λ e. omega (arith, e)) q)
      by (is_13 q never) = never
