-- The second walk. A writing: the first i states of the cut sample run stand in the run, and the rest is as it was; the moment that the
-- pair at b comes from is found on the way. Assumes nothing.
use mathlib.Core.Path.{◌≡◌, refl, sym, ap, ◌∙◌}
use mathlib.Core.Logic.{◌⊎◌, inl, inr}
use mathlib.Core.List.{List}
use Prim.Native.Nat.{ℕ, ◌+◌, ◌≤◌, ◌<◌}
use native.Mathlib.Decide.{dec_lt}
use native.Mathlib.Omega.{arith}
use lib.ListN.{length, get_or, set, length-set}
use lib.Seq.{get_or-set_same, get_or-set_other}
use Rattle.meaning.specs.System.{System}
use Rattle.rules.specs.Book.{book_system}
use Rattle.sample_step.specs.Rows.{Livables, LivableTable}
use Rattle.sample_step.specs.Step.{FirstPlace, Stepped}
use Rattle.sample_walk.specs.Walk.{LoopCut, BackFrom, RunWritten}
use Rattle.sample_step.proofs.Places.{same_place}
use Rattle.sample_walk.proofs.Trails.{AtMoment, moment-starts, moment-steps}

-- Among the first i moments a has the pair of moment b, or none has.
abbrev pub Back : (run aims : ℕ → ℕ) (b i a : ℕ) → Type 0
Back run aims b i a = ((a < i) × (run a ≡ run b) × (aims a ≡ aims b)) ⊎ ((j : ℕ) → j < i → run j ≡ run b → aims j ≡ aims b → ⊥)

-- the walk is at moment i, at that place and with that aim; the states before it are written
pub record Writing (S : System) (table : List ℕ) (b last goal : ℕ) (old new : List ℕ) (r i place aim a : ℕ) : Type 0 where
  pub cut : LoopCut S table b last goal
  pub at : AtMoment S table r cut.run cut.aims i place aim
  pub long : length new ≡ length old
  pub states : (j : ℕ) → j < i → get_or new j 0 ≡ cut.run j
  pub rest : (j : ℕ) → i ≤ j → get_or new j 0 ≡ get_or old j 0
  pub found : Back cut.run cut.aims b i a

-- The walk begins again, with nothing written.
pub writing-starts : {book table : List ℕ} {b last goal r : ℕ} (old : List ℕ) → LivableTable book table r → (p : ℕ)
    → FirstPlace book table r p
    → LoopCut (book_system book) table b last goal → Writing (book_system book) table b last goal old old r 0 p 0 0
writing-starts old t p at c = record {
  cut = c;
  at = moment-starts t c.sample p at;
  long = refl;
  states = λ j q. absurd (omega arith);
  rest = λ j q. refl;
  found = inr (λ j q. absurd (omega arith));
}

module _ {S : System} {table : List ℕ} {b last goal : ℕ} {old new : List ℕ} {r i place aim a : ℕ} (L : Livables S table r)
    (w : Writing S table b last goal old new r i place aim a) where
  -- The walk writes one more state.
  pub writing-goes : last < r → i < length new → (a' place' aim' : ℕ) → BackFrom place last aim goal i a a'
      → Stepped S table r place aim place' aim'
      → Writing S table b last goal old (set new i (get_or table place 0)) r (i + 1) place' aim' a'
  writing-goes h fits a' place' aim' kept s = record {
    cut = c;
    at = moment-steps w.at place' aim' s;
    long = length-set new i (get_or table place 0) ∙ w.long;
    states = λ j q. states j q (dec_lt j i);
    rest = λ j q. get_or-set_other new i j (get_or table place 0) 0 (λ e. omega arith) ∙ w.rest j (omega arith);
    found = found kept w.found;
  }
    where
      c : LoopCut S table b last goal
      c = w.cut

      states : (j : ℕ) → j < i + 1 → Dec (j < i) → get_or (set new i (get_or table place 0)) j 0 ≡ c.run j
      states j q (yes l) = get_or-set_other new i j (get_or table place 0) 0 (λ e. omega arith) ∙ w.states j l
      states j q (no l) = let z : j ≡ i = omega arith in
          ap (λ (y : ℕ). get_or (set new i (get_or table place 0)) y 0) z ∙ get_or-set_same new i (get_or table place 0) 0 fits
          ∙ sym w.at.here ∙ ap c.run (sym z)

      found : BackFrom place last aim goal i a a' → Back c.run c.aims b i a → Back c.run c.aims b (i + 1) a'
      found (inl v) f = inl (
        omega (arith, v.2),
        ap c.run v.2 ∙ w.at.here ∙ ap (λ (y : ℕ). get_or table y 0) v.0 ∙ sym c.here,
        ap c.aims v.2 ∙ w.at.aimed ∙ v.1 ∙ sym c.aimed,
      )
      found (inr v) (inl f) = inl (omega (arith, v.1, f.0), ap c.run v.1 ∙ f.1, ap c.aims v.1 ∙ f.2)
      found (inr v) (inr none) = inr (λ j q e d. by j q e d (dec_lt j i))
        where
          by : (j : ℕ) → j < i + 1 → c.run j ≡ c.run b → c.aims j ≡ c.aims b → Dec (j < i) → ⊥
          by j q e d (yes l) = none j l e d
          by j q e d (no l) = let z : i ≡ j = omega arith in v.0
              (same_place L place last w.at.inside h (sym w.at.here ∙ ap c.run z ∙ e ∙ c.here))
              (sym w.at.aimed ∙ ap c.aims z ∙ d ∙ c.aimed)

  -- All b states are written.
  pub writing-ends : i ≡ b → RunWritten S table b last goal old new a
  writing-ends e = record {
    cut = c;
    from = from w.found;
    long = w.long;
    states = λ j q. w.states j (omega arith);
    rest = λ j q. w.rest j (omega arith);
  }
    where
      c : LoopCut S table b last goal
      c = w.cut

      from : Back c.run c.aims b i a → a ≡ c.back
      from (inr none) = absurd (none c.back (omega (arith, c.before)) (sym c.same_state) (sym c.same-aim))
      from (inl v) = by (dec_lt a c.back) (dec_lt c.back a)
        where
          by : Dec (a < c.back) → Dec (c.back < a) → a ≡ c.back
          by (yes l) d = absurd (c.fresh a c.back l c.before (v.1 ∙ c.same_state) (v.2 ∙ c.same-aim))
          by (no l) (yes g) = absurd (c.fresh c.back a g (omega (arith, v.0)) (sym (v.1 ∙ c.same_state)) (sym (v.2 ∙ c.same-aim)))
          by (no l) (no g) = omega arith
