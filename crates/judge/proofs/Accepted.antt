-- The judge's papers before the two checkers, said of every outcome that meets the judge's promise: whatever number meets the promise of
-- the strike-list checker for the list that answer 13 leaves is 0, and 0 meets it; the same for the run checker and the run that answer
-- 0 leaves; and both for the papers as bytes, as the firmware's calls take them. No premise but the answer. Assumes nothing.
use mathlib.Core.Path.{◌≡◌}
use mathlib.Core.Logic.{◌↔◌, ◌⊎◌}
use mathlib.Core.List.{List}
use Prim.Native.Nat.{ℕ, ◌≤◌}
use lib.ListN.{take}
use Rattle.meaning.specs.Bytes.{bytes_of}
use Rattle.meaning.specs.Promises.{state_bytes, word_bytes, accepted, RunChecked, StrikesChecked, RunBytesChecked, StrikesBytesChecked, Lent}
use Rattle.meaning.specs.Promises.{Judged}
use Rattle.meaning.proofs.Lasso.{run-accepted-exactly}
use Rattle.meaning.proofs.Demands.{roomy-at-0, roomy-at-13}
use Rattle.meaning.proofs.Sizes.{b-at-most}
use Rattle.meaning.proofs.Written.{run-paper-bytes, strike-paper-bytes}
use Rattle.runcheck.proofs.Exactly.{run-obeys-exactly, run-bytes-obey-exactly}
use Rattle.strikecheck.proofs.Exactly.{strikes-accepted-exactly, strikes-bytes-accepted-exactly}
use Rattle.judge_answer.specs.declared.Judgement.{Judgement}
use Rattle.judge_answer.specs.Judging.{outcome_of}
use Rattle.judge.proofs.Corollaries.{run-left-accepted, strikes-left-are-list, strikes-left-accepted}

module _ {sheet : List ℕ} {lent leaves : Lent} {r : Judgement} (judged : Judged sheet lent (outcome_of r leaves)) where
  -- With 13 the strike-list checker says 0 to the first `count` places of table and words, and nothing else.
  pub strikes-left-checked : r.answer ≡ 13 → (n : ℕ)
      → StrikesChecked sheet (take r.count leaves.table) (take r.count leaves.words) n ↔ (n ≡ 0)
  unfolding StrikesChecked
  strikes-left-checked thirteen n =
      let good = (roomy-at-13 judged thirteen).good in
      let ok = strikes-left-accepted judged thirteen in
      (λ c. (strikes-accepted-exactly sheet _ _ n c).1 (good, ok), λ zero. accepted good ok zero)

  -- With 0 the run checker says 0 to the first b places of the run slice, and nothing else.
  pub run-left-checked : r.answer ≡ 0 → (n : ℕ) → RunChecked sheet (take r.b leaves.run) r.a n ↔ (n ≡ 0)
  unfolding RunChecked
  run-left-checked kept n =
      let good = (roomy-at-0 judged kept).good in
      let ok = run-left-accepted judged kept in
      (λ c. (run-obeys-exactly sheet _ r.a n c).1 (good, (run-accepted-exactly _ _ _).0 ok), λ zero. accepted good ok zero)

  -- As bytes, four to a number: the same of the firmware's strike-list check.
  pub strikes-left-checked-as-bytes : r.answer ≡ 13 → (n : ℕ)
      → StrikesBytesChecked sheet (bytes_of state_bytes (take r.count leaves.table))
      (bytes_of word_bytes (take r.count leaves.words)) n ↔ (n ≡ 0)
  unfolding StrikesBytesChecked
  strikes-left-checked-as-bytes thirteen n =
      let good = (roomy-at-13 judged thirteen).good in
      let ok = strike-paper-bytes sheet good (strikes-left-are-list judged thirteen) (strikes-left-accepted judged thirteen) in
      (λ c. (strikes-bytes-accepted-exactly sheet _ _ n c).1 (good, ok), λ zero. accepted good ok zero)

  -- And of its run check.
  pub run-left-checked-as-bytes : r.answer ≡ 0 → (n : ℕ)
      → RunBytesChecked sheet (bytes_of state_bytes (take r.b leaves.run)) r.a n ↔ (n ≡ 0)
  unfolding RunBytesChecked
  run-left-checked-as-bytes kept n =
      let good = (roomy-at-0 judged kept).good in
      let ok = run-paper-bytes sheet good (run-left-accepted judged kept) in (
        λ c. (run-bytes-obey-exactly sheet _ r.a n c).1 (good, ok.0, (run-accepted-exactly _ _ _).0 ok.1),
        λ zero. accepted good ok zero,
      )

  -- b is never above 262,144.
  pub b-never-above : (r.answer ≡ 0) ⊎ (r.answer ≡ 12) → r.b ≤ 262144
  b-never-above = b-at-most judged
