-- What the judge's promise alone gives whoever calls it, said of the numbers that it returns and of the slices as it leaves them: demand 2
-- in both directions; that the run checker's rule accepts the run and the strike checker's the strike list; demand 3; and that the count is
-- K or R and b the length of the sample run. Each holds of every outcome that meets the promise. Assumes nothing.
use mathlib.Core.Path.{◌≡◌, sym, ap, subst, subst₂}
use mathlib.Core.Logic.{◌↔◌, ◌⊎◌}
use mathlib.Core.List.{List}
use Prim.Native.Nat.{ℕ, ◌≤◌}
use lib.ListN.{length, take}
use Rattle.meaning.specs.System.{CanBeKept, Livable, Lists, IsK, IsR}
use Rattle.meaning.specs.Strike.{StrikeList}
use Rattle.meaning.specs.Sample.{RunPaper}
use Rattle.meaning.specs.Papers.{RunAccepted, StrikesAccepted}
use Rattle.meaning.specs.Promises.{system_in, Lent, Outcome, Roomy, outcome, Judged}
use Rattle.meaning.proofs.Demands.{RunFits, KeepsInTime, kept-hands-over, kept-run-accepted, cannot-hands-over, demand-2, demand-3}
use Rattle.meaning.proofs.Demands.{short-run-leaves}
use Rattle.judge_answer.specs.declared.Judgement.{Judgement}
use Rattle.judge_answer.specs.Judging.{outcome_of}

module _ {sheet : List ℕ} {lent leaves : Lent} {r : Judgement} (judged : Judged sheet lent (outcome_of r leaves)) where
  -- Demand 2: with room for the states and the run, 0 exactly if an endless run obeys the sheet, 13 exactly if none does, and one of the
  -- two.
  pub judge-says-whether : Roomy sheet lent → RunFits sheet lent
      → ((r.answer ≡ 0) ↔ CanBeKept (system_in sheet)) × ((r.answer ≡ 13) ↔ (CanBeKept (system_in sheet) → ⊥))
      × ((r.answer ≡ 0) ⊎ (r.answer ≡ 13))
  judge-says-whether roomy fits = demand-2 judged roomy fits

  -- With 0 the run slice begins with the sample run, b states long.
  pub run-left-is-paper : r.answer ≡ 0 → RunPaper (system_in sheet) (take r.b leaves.run) r.a
  run-left-is-paper zero =
      let h = kept-hands-over judged zero in
      subst (λ states. RunPaper (system_in sheet) states r.a) (sym h.run_front) h.paper

  -- The run checker's rule accepts it.
  pub run-left-accepted : r.answer ≡ 0 → RunAccepted (system_in sheet) (take r.b leaves.run) r.a
  run-left-accepted zero =
      let h = kept-hands-over judged zero in
      subst (λ states. RunAccepted (system_in sheet) states r.a) (sym h.run_front) (kept-run-accepted h)

  -- With 13 table and words begin with the strike list.
  pub strikes-left-are-list : r.answer ≡ 13
      → StrikeList (system_in sheet) (take r.count leaves.table) (take r.count leaves.words)
  strikes-left-are-list thirteen =
      let h = cannot-hands-over judged thirteen in
      subst₂ (StrikeList (system_in sheet)) (sym h.table_front) (sym h.words-front) h.strikes

  -- The strike checker's rule accepts it.
  pub strikes-left-accepted : r.answer ≡ 13
      → StrikesAccepted (system_in sheet) (take r.count leaves.table) (take r.count leaves.words)
  strikes-left-accepted thirteen =
      let h = cannot-hands-over judged thirteen in
      subst₂ (StrikesAccepted (system_in sheet)) (sym h.table_front) (sym h.words-front) h.accepted

  -- Demand 3 of the run that is left.
  pub run-left-keeps-in-time : r.answer ≡ 0 → 1 ≤ (system_in sheet).promises
      → (paper : RunPaper (system_in sheet) (take r.b leaves.run) r.a)
      × KeepsInTime (system_in sheet) (take r.b leaves.run) r.a r.b r.count paper
  run-left-keeps-in-time zero some =
      let h = kept-hands-over judged zero in
      subst
      (λ states. (paper : RunPaper (system_in sheet) states r.a) × KeepsInTime (system_in sheet) states r.a r.b r.count paper)
      (sym h.run_front) (h.paper, demand-3 h some)

  -- With 0 the count is K, and the table begins with the K livable states.
  pub count-is-K : r.answer ≡ 0 → IsK (system_in sheet) r.count × Lists (Livable (system_in sheet)) (take r.count leaves.table)
  count-is-K zero =
      let h = kept-hands-over judged zero in
      (h.counted, subst (Lists (Livable (system_in sheet))) (sym h.table_front) h.lists)

  -- With 13 the count is R.
  pub count-is-R : r.answer ≡ 13 → IsR (system_in sheet) r.count
  count-is-R thirteen = (cannot-hands-over judged thirteen).counted

  -- With 0 b is the sample run's length.
  pub b-is-written : r.answer ≡ 0 → (states : List ℕ) × (a : ℕ) × RunPaper (system_in sheet) states a × (r.b ≡ length states)
  b-is-written zero =
      let h = kept-hands-over judged zero in
      (h.states, r.a, h.paper, h.length_is)

  -- With 12 it is so too: as many places are needed.
  pub b-is-needed : r.answer ≡ 12 → (states : List ℕ) × (a : ℕ) × RunPaper (system_in sheet) states a × (r.b ≡ length states)
  unfolding outcome
  b-is-needed twelve =
      let (states, a, paper, is) = short-run-leaves judged twelve in
      (states, a, paper, ap (λ (o : Outcome). o.b) is)
