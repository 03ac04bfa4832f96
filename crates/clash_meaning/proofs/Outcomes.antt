-- The check and the planner leave one outcome each (`clash-checked-unique`, `planned-unique`), in the numbers, the marks and every lent
-- slice, and every input has one (`clash-checked-met`, `planned-met`). Assumes nothing.
use mathlib.Core.Path.{◌≡◌, refl, sym, ◌∙◌, ap, subst}
use mathlib.Core.Logic.{◌⊎◌, inl, inr}
use mathlib.Core.Option.{Option, none, some}
use mathlib.Core.List.{List, []}
use Prim.Native.Nat.{ℕ, zero, suc, ◌-◌, ◌≤◌, ◌<◌}
use native.Mathlib.Decide.{dec_lt, dec_le, ℕ_discrete}
use native.Mathlib.Omega.{arith}
use lib.ListN.{length, get_or}
use Rattle.meaning.specs.Sheet.{Fault, number_of, first_fault}
use Rattle.meaning.specs.Promises.{Lent, cleared}
use Rattle.meaning.proofs.Promised.{same-fault, bad-not-good}
use Rattle.meaning.proofs.Search.{all-below}
use Rattle.meaning.proofs.Tests.{below_next}
use Rattle.clash_choice.specs.Proposals.{no_marks, first_marks, marks_of, Chosen, left_out_of, Proposal}
use Rattle.clash_choice.proofs.Marks.{chosen-within}
use Rattle.clash_trials.specs.Trials.{Answered, OneTried, ends, drops, keeps, Dropping}
use Rattle.clash_meaning.specs.Clash.{rules_in, Fighting, Crowded, together, one_less, Weighed, crowded, accepted, refused}
use Rattle.clash_meaning.specs.Clash.{ClashChecked, faulty, misnumbered, weighed, Reduced, MetMore, at_once, dropping, at_last}
use Rattle.clash_meaning.specs.Clash.{Plan, Worked, more, kept, found, Planned, worked}
use Rattle.clash_trials.proofs.Trials.{answered-apart, Verdict, is_11, is_12, is_13, verdict}
use Rattle.clash_trials.proofs.Loops.{some-not-none, same_some}

-- ---- one outcome of the check

-- A choice that the check accepts has no sheet that gives 11.
pub fighting-not-crowded : {sheet : List ℕ} {lent : Lent} {marks : List ℕ} → Fighting sheet lent marks → Crowded sheet lent marks → ⊥
fighting-not-crowded f (together p) = answered-apart f.together (λ e. omega (arith, e)) p
fighting-not-crowded f (one_less i c p) = answered-apart (f.one_less i c) (λ e. omega (arith, e)) p

weighed-unique : {sheet : List ℕ} {lent : Lent} {marks : List ℕ} {m n : ℕ} → Weighed sheet lent marks m → Weighed sheet lent marks n → m ≡ n
weighed-unique (crowded c p) (crowded d q) = p ∙ sym q
weighed-unique (crowded c p) (accepted f q) = absurd (fighting-not-crowded f c)
weighed-unique (crowded c p) (refused no-crowd no_fight q) = absurd (no-crowd c)
weighed-unique (accepted f p) (crowded c q) = absurd (fighting-not-crowded f c)
weighed-unique (accepted f p) (accepted g q) = p ∙ sym q
weighed-unique (accepted f p) (refused no-crowd no_fight q) = absurd (no_fight f)
weighed-unique (refused no-crowd no_fight p) (crowded c q) = absurd (no-crowd c)
weighed-unique (refused no-crowd no_fight p) (accepted f q) = absurd (no_fight f)
weighed-unique (refused no-crowd no_fight p) (refused no-crowd' no-fight' q) = p ∙ sym q

-- The check's promise leaves one number, one place and one content of each slice.
pub clash-checked-unique : {sheet numbers : List ℕ} {before : Lent} {m p n q : ℕ} {x y : Lent}
    → ClashChecked sheet numbers before m p x → ClashChecked sheet numbers before n q y → (m ≡ n) × (p ≡ q) × (x ≡ y)
clash-checked-unique (faulty f e a b c) (faulty g e' a' b' c') = (
  a ∙ ap (λ (x : Fault). number_of x.why) (same-fault e e') ∙ sym a',
  b ∙ ap (λ (x : Fault). x.at) (same-fault e e') ∙ sym b',
  c
      ∙ sym c',
)
clash-checked-unique (faulty f e a b c) (misnumbered e' wrong a' b' c') = absurd (bad-not-good e e')
clash-checked-unique (faulty f e a b c) (weighed e' p w b' c') = absurd (bad-not-good e e')
clash-checked-unique (misnumbered e wrong a b c) (faulty g e' a' b' c') = absurd (bad-not-good e' e)
clash-checked-unique (misnumbered e wrong a b c) (misnumbered e' wrong' a' b' c') = (a ∙ sym a', b ∙ sym b', c ∙ sym c')
clash-checked-unique (misnumbered e wrong a b c) (weighed e' p w b' c') = absurd (wrong p)
clash-checked-unique (weighed e p w b c) (faulty g e' a' b' c') = absurd (bad-not-good e' e)
clash-checked-unique (weighed e p w b c) (misnumbered e' wrong a' b' c') = absurd (wrong p)
clash-checked-unique (weighed e p w b c) (weighed e' p' w' b' c') = (weighed-unique w w', b ∙ sym b', c ∙ sym c')

-- ---- one outcome of the planner

-- Dropping ends in one way.
pub dropping-unique : (sheet : List ℕ) (lent : Lent) (i : ℕ) (marks : List ℕ) {x y : Option (List ℕ)}
    → Dropping sheet lent i marks x → Dropping sheet lent i marks y → x ≡ y
unfolding Dropping
dropping-unique sheet lent zero marks p q = p ∙ sym q
dropping-unique sheet lent (suc i) marks (ends a p) (ends b q) = p ∙ sym q
dropping-unique sheet lent (suc i) marks (ends a p) (drops b q) = absurd (answered-apart a (λ e. omega (arith, e)) b)
dropping-unique sheet lent (suc i) marks (ends a p) (keeps b q) = absurd (answered-apart a (λ e. omega (arith, e)) b)
dropping-unique sheet lent (suc i) marks (drops a p) (ends b q) = absurd (answered-apart a (λ e. omega (arith, e)) b)
dropping-unique sheet lent (suc i) marks (drops a p) (drops b q) = dropping-unique sheet lent i (left_out_of i marks) p q
dropping-unique sheet lent (suc i) marks (drops a p) (keeps b q) = absurd (answered-apart a (λ e. omega (arith, e)) b)
dropping-unique sheet lent (suc i) marks (keeps a p) (ends b q) = absurd (answered-apart a (λ e. omega (arith, e)) b)
dropping-unique sheet lent (suc i) marks (keeps a p) (drops b q) = absurd (answered-apart a (λ e. omega (arith, e)) b)
dropping-unique sheet lent (suc i) marks (keeps a p) (keeps b q) = dropping-unique sheet lent i marks p q

reduced-unique : {sheet : List ℕ} {lent : Lent} {x y : Option (List ℕ)} → Reduced sheet lent x → Reduced sheet lent y → x ≡ y
reduced-unique {sheet} {lent} p q = dropping-unique sheet lent (rules_in sheet) (first_marks (rules_in sheet)) p.dropping q.dropping

-- The three ways to meet 11, to be kept and to find a choice shut each other out.
more-not-kept : {sheet : List ℕ} {lent : Lent} → MetMore sheet lent → Answered sheet lent (first_marks (rules_in sheet)) 12 → ⊥
more-not-kept (at_once p) q = answered-apart p (λ e. omega (arith, e)) q
more-not-kept (dropping r) q = answered-apart r.whole (λ e. omega (arith, e)) q
more-not-kept (at_last marks r i c p) q = answered-apart r.whole (λ e. omega (arith, e)) q

more-not-found : {sheet : List ℕ} {lent : Lent} {marks : List ℕ} → MetMore sheet lent → Plan sheet lent marks → ⊥
more-not-found (at_once p) q = answered-apart p (λ e. omega (arith, e)) q.reduced.whole
more-not-found (dropping r) q = some-not-none (reduced-unique r q.reduced)
more-not-found {sheet} {lent} {marks} (at_last marks' r i c p) q =
    let same : marks' ≡ marks = same_some (reduced-unique r q.reduced) in
    q.roomy i (subst (Chosen i) same c) (subst (λ (m : List ℕ). Answered sheet lent (left_out_of i m) 11) same p)

worked-unique : {sheet : List ℕ} {lent : Lent} {m n : ℕ} {x y : List ℕ} → Worked sheet lent m x → Worked sheet lent n y → (m ≡ n) × (x ≡ y)
worked-unique (more w p s) (more w' q t) = (p ∙ sym q, s ∙ sym t)
worked-unique (more w p s) (kept k q t) = absurd (more-not-kept w k)
worked-unique (more w p s) (found f q) = absurd (more-not-found w f)
worked-unique (kept k p s) (more w q t) = absurd (more-not-kept w k)
worked-unique (kept k p s) (kept k' q t) = (p ∙ sym q, s ∙ sym t)
worked-unique (kept k p s) (found f q) = absurd (answered-apart k (λ e. omega (arith, e)) f.reduced.whole)
worked-unique (found f p) (more w q t) = absurd (more-not-found w f)
worked-unique (found f p) (kept k q t) = absurd (answered-apart k (λ e. omega (arith, e)) f.reduced.whole)
worked-unique (found f p) (found g q) = (p ∙ sym q, same_some (reduced-unique f.reduced g.reduced))

-- The planner's promise leaves one number, one place, one row of marks and one content of each slice.
pub planned-unique : {sheet : List ℕ} {before : Lent} {m p n q : ℕ} {marks marks' : List ℕ} {x y : Lent}
    → Planned sheet before m p marks x → Planned sheet before n q marks' y → (m ≡ n) × (p ≡ q) × (marks ≡ marks') × (x ≡ y)
planned-unique (faulty f e a b s c) (faulty g e' a' b' s' c') = (
  a ∙ ap (λ (x : Fault). number_of x.why) (same-fault e e') ∙ sym a',
  b ∙ ap (λ (x : Fault). x.at) (same-fault e e') ∙ sym b',
  s ∙ sym s',
  c ∙ sym c',
)
planned-unique (faulty f e a b s c) (worked e' w b' c') = absurd (bad-not-good e e')
planned-unique (worked e w b c) (faulty g e' a' b' s' c') = absurd (bad-not-good e' e)
planned-unique (worked e w b c) (worked e' w' b' c') =
    let both = worked-unique w w' in
    (both.0, b ∙ sym b', both.1, c ∙ sym c')

-- ---- every input has an outcome

-- What is so of every chosen rule is found so, or there is one of which it is not.
each_chosen : {P Q : ℕ → Type 0} (marks : List ℕ) → ((i : ℕ) → P i ⊎ Q i)
    → ((i : ℕ) → Chosen i marks → P i) ⊎ ((i : ℕ) × Chosen i marks × Q i)
each_chosen {P} {Q} marks either = by (first_found (length marks))
  where
    Good : ℕ → Type 0
    Good i = Chosen i marks → P i

    one : (i : ℕ) → Good i ⊎ (Chosen i marks × Q i)
    one i = at (ℕ_discrete (get_or marks i 0) 0) (either i)
      where
        at : Dec (get_or marks i 0 ≡ 0) → P i ⊎ Q i → Good i ⊎ (Chosen i marks × Q i)
        at (yes unmarked) e = inl (λ c. absurd (c unmarked))
        at (no marked) (inl p) = inl (λ c. p)
        at (no marked) (inr q) = inr (marked, q)

    first_found : (n : ℕ) → ((i : ℕ) → i < n → Good i) ⊎ ((i : ℕ) × Chosen i marks × Q i)
    first_found zero = inl (λ i h. absurd (omega arith))
    first_found (suc n) = next (first_found n) (one n)
      where
        next : ((i : ℕ) → i < n → Good i) ⊎ ((i : ℕ) × Chosen i marks × Q i) → Good n ⊎ (Chosen n marks × Q n)
            → ((i : ℕ) → i < suc n → Good i) ⊎ ((i : ℕ) × Chosen i marks × Q i)
        next (inr w) o = inr w
        next (inl all) (inr w) = inr (n, w.0, w.1)
        next (inl all) (inl here) = inl (below_next Good n here all)

    by : ((i : ℕ) → i < length marks → Good i) ⊎ ((i : ℕ) × Chosen i marks × Q i)
        → ((i : ℕ) → Chosen i marks → P i) ⊎ ((i : ℕ) × Chosen i marks × Q i)
    by (inl all) = inl (λ i c. all i (chosen-within marks i c) c)
    by (inr w) = inr w

-- Whether numbers are a proposal can be told.
proposal? : (rules : ℕ) (numbers : List ℕ) → Dec (Proposal rules numbers)
proposal? rules numbers =
    by (all-below (λ j. dec_le 1 (get_or numbers j 0)) (length numbers)) (all-below (λ j. dec_le (get_or numbers j 0) rules) (length numbers))
    (all-below (λ j. dec_lt (get_or numbers j 0) (get_or numbers (suc j) 0)) (length numbers - 1))
  where
    by : Dec ((j : ℕ) → j < length numbers → 1 ≤ get_or numbers j 0) → Dec ((j : ℕ) → j < length numbers → get_or numbers j 0 ≤ rules)
        → Dec ((j : ℕ) → j < length numbers - 1 → get_or numbers j 0 < get_or numbers (suc j) 0) → Dec (Proposal rules numbers)
    by (yes a) (yes b) (yes c) = yes (record { least = a; most = b; rising = λ j h. c j (omega arith) })
    by (yes a) (yes b) (no c) = no (λ p. c (λ j h. p.rising j (omega arith)))
    by (yes a) (no b) c = no (λ p. b p.most)
    by (no a) b c = no (λ p. a p.least)

-- a good sheet, judged with three slices only
module _ (sheet : List ℕ) (lent : Lent) (good : first_fault sheet ≡ none) (no_run : lent.run ≡ []) where
  -- a choice with a rule left out gives 11 or does not
  crowds : (marks : List ℕ) (i : ℕ)
      → (Answered sheet lent (left_out_of i marks) 11 → ⊥) ⊎ Answered sheet lent (left_out_of i marks) 11
  crowds marks i = at (verdict good no_run (left_out_of i marks))
    where
      at : Verdict sheet lent (left_out_of i marks) → (Answered sheet lent (left_out_of i marks) 11 → ⊥) ⊎ Answered sheet lent (left_out_of i marks) 11
      at (is_11 p) = inr p
      at (is_12 p k) = inl (λ q. answered-apart p (λ e. omega (arith, e)) q)
      at (is_13 p never) = inl (λ q. answered-apart p (λ e. omega (arith, e)) q)

  -- Every choice of a good sheet's rules is weighed.
  weighed-met : (marks : List ℕ) → (n : ℕ) × Weighed sheet lent marks n
  weighed-met marks = by (verdict good no_run marks) (each_chosen marks (crowds marks))
    where
      Roomy : ℕ → Type 0
      Roomy i = Answered sheet lent (left_out_of i marks) 11 → ⊥

      twelves : (i : ℕ) → Answered sheet lent (left_out_of i marks) 12 ⊎ (Answered sheet lent (left_out_of i marks) 12 → ⊥)
      twelves i = at (verdict good no_run (left_out_of i marks))
        where
          at : Verdict sheet lent (left_out_of i marks) → Answered sheet lent (left_out_of i marks) 12 ⊎ (Answered sheet lent (left_out_of i marks) 12
              → ⊥)
          at (is_11 p) = inr (λ q. answered-apart p (λ e. omega (arith, e)) q)
          at (is_12 p k) = inl p
          at (is_13 p never) = inr (λ q. answered-apart p (λ e. omega (arith, e)) q)

      no-crowd : (Answered sheet lent marks 11 → ⊥) → ((i : ℕ) → Chosen i marks → Roomy i) → Crowded sheet lent marks → ⊥
      no-crowd all each (together p) = all p
      no-crowd all each (one_less i c p) = each i c p

      fight : Answered sheet lent marks 13 → ((i : ℕ) → Chosen i marks → Roomy i)
          → ((i : ℕ) → Chosen i marks → Answered sheet lent (left_out_of i marks) 12)
          ⊎ ((i : ℕ) × Chosen i marks × (Answered sheet lent (left_out_of i marks) 12 → ⊥))
          → (n : ℕ) × Weighed sheet lent marks n
      fight p roomy (inl all) = (0, accepted (record { together = p; one_less = all }) refl)
      fight p roomy (inr w) =
          (14, refused (no-crowd (λ q. answered-apart p (λ e. omega (arith, e)) q) roomy) (λ f. w.2 (f.one_less w.0 w.1)) refl)

      by : Verdict sheet lent marks → ((i : ℕ) → Chosen i marks → Roomy i)
          ⊎ ((i : ℕ) × Chosen i marks × Answered sheet lent (left_out_of i marks) 11)
          → (n : ℕ) × Weighed sheet lent marks n
      by v (inr w) = (17, crowded (one_less w.0 w.1 w.2) refl)
      by (is_11 p) (inl roomy) = (17, crowded (together p) refl)
      by (is_12 p k) (inl roomy) = (
        14,
        refused (no-crowd (λ q. answered-apart p (λ e. omega (arith, e)) q) roomy)
            (λ f. answered-apart p (λ e. omega (arith, e)) f.together) refl,
      )
      by (is_13 p never) (inl roomy) = fight p roomy (each_chosen marks twelves)

  -- Dropping ends.
  pub dropping-met : (i : ℕ) (marks : List ℕ)
      → (end : Option (List ℕ)) × Dropping sheet lent i marks end
  unfolding Dropping
  dropping-met zero marks = (some marks, refl)
  dropping-met (suc i) marks =
      by (verdict good no_run (left_out_of i marks)) (dropping-met i (left_out_of i marks))
      (dropping-met i marks)
    where
      by : Verdict sheet lent (left_out_of i marks) → (end : Option (List ℕ)) × Dropping sheet lent i (left_out_of i marks) end
          → (end : Option (List ℕ)) × Dropping sheet lent i marks end
          → (end : Option (List ℕ)) × OneTried sheet lent i marks (λ (next : List ℕ). Dropping sheet lent i next end) end
      by (is_11 p) d stays = (none, ends p refl)
      by (is_12 p k) d stays = (stays.0, keeps p stays.1)
      by (is_13 p never) d stays = (d.0, drops p d.1)

  -- The planner comes to an end.
  worked-met : (n : ℕ) × (marks : List ℕ) × Worked sheet lent n marks
  worked-met = by (verdict good no_run (first_marks (rules_in sheet)))
    where
      last : (marks : List ℕ) → Reduced sheet lent (some marks)
          → ((i : ℕ) → Chosen i marks → Answered sheet lent (left_out_of i marks) 11 → ⊥)
          ⊎ ((i : ℕ) × Chosen i marks × Answered sheet lent (left_out_of i marks) 11)
          → (n : ℕ) × (marks : List ℕ) × Worked sheet lent n marks
      last marks r (inl roomy) = (0, marks, found (record { reduced = r; roomy = roomy }) refl)
      last marks r (inr w) = (17, no_marks, more (at_last marks r w.0 w.1 w.2) refl refl)

      ended : (end : Option (List ℕ)) → Reduced sheet lent end → (n : ℕ) × (marks : List ℕ) × Worked sheet lent n marks
      ended none r = (17, no_marks, more (dropping r) refl refl)
      ended (some marks) r = last marks r (each_chosen marks (crowds marks))

      by : Verdict sheet lent (first_marks (rules_in sheet)) → (n : ℕ) × (marks : List ℕ) × Worked sheet lent n marks
      by (is_11 p) = (17, no_marks, more (at_once p) refl refl)
      by (is_12 p k) = (12, no_marks, kept p refl refl)
      by (is_13 p never) =
          let (end, d) = dropping-met (rules_in sheet) (first_marks (rules_in sheet)) in
          ended end (record { whole = p; dropping = d })

-- Every input of the check has an outcome.
pub clash-checked-met : (sheet numbers : List ℕ) (before : Lent) → before.run ≡ []
    → (n : ℕ) × (place : ℕ) × (after : Lent) × ClashChecked sheet numbers before n place after
clash-checked-met sheet numbers before no_run = by (first_fault sheet) refl (proposal? (rules_in sheet) numbers)
  where
    by : (o : Option Fault) → first_fault sheet ≡ o → Dec (Proposal (rules_in sheet) numbers)
        → (n : ℕ) × (place : ℕ) × (after : Lent) × ClashChecked sheet numbers before n place after
    by (some f) e d = (number_of f.why, f.at, before, faulty f e refl refl refl)
    by none e (no wrong) = (14, 0, before, misnumbered e wrong refl refl refl)
    by none e (yes p) =
        let (n, w) = weighed-met sheet before e no_run (marks_of numbers) in
        (n, 0, cleared before, weighed e p w refl refl)

-- Every input of the planner has an outcome.
pub planned-met : (sheet : List ℕ) (before : Lent) → before.run ≡ []
    → (n : ℕ) × (place : ℕ) × (marks : List ℕ) × (after : Lent) × Planned sheet before n place marks after
planned-met sheet before no_run = by (first_fault sheet) refl
  where
    by : (o : Option Fault) → first_fault sheet ≡ o
        → (n : ℕ) × (place : ℕ) × (marks : List ℕ) × (after : Lent) × Planned sheet before n place marks after
    by (some f) e = (number_of f.why, f.at, no_marks, before, faulty f e refl refl refl refl)
    by none e =
        let (n, marks, w) = worked-met sheet before e no_run in
        (n, 0, marks, cleared before, worked e w refl refl)
