-- Which choice the planner hands over, by the meaning alone: of all choices of the sheet's step rules that cannot be kept, the least from
-- the last rule down. Wherever it has a rule that another such choice has not, the other has a later rule that it has not (`least-choice`),
-- so there is one such choice and the slices that were lent play no part in it (`one-least-choice`, `choice-by-the-sheet`). That is what
-- dropping "from the last to the first" comes to. Assumes nothing.
use mathlib.Core.Path.{◌≡◌, sym, ◌∙◌, subst}
use mathlib.Core.Logic.{◌↔◌}
use mathlib.Core.Option.{none, some}
use mathlib.Core.List.{List, []}
use Prim.Native.Nat.{ℕ, zero, suc, ◌+◌, ◌-◌, ◌≤◌, ◌<◌}
use native.Mathlib.Decide.{dec_lt, ℕ_discrete}
use native.Mathlib.Omega.{arith}
use lib.ListN.{length, get_or}
use lib.Seq.{ext_get_or, get_or-set_other}
use Rattle.meaning.specs.System.{CanBeKept}
use Rattle.meaning.specs.Sheet.{first_fault, decode}
use Rattle.meaning.specs.Rules.{system_of}
use Rattle.meaning.specs.Promises.{system_in, Lent}
use Rattle.meaning.proofs.Search.{any_below}
use Rattle.clash_choice.specs.Choice.{with_chosen, only_chosen}
use Rattle.clash_choice.proofs.Fewer.{Among, among-kept}
use Rattle.clash_choice.proofs.Marks.{chosen-within}
use Rattle.clash_choice.specs.Proposals.{most_rules, first_marks, Chosen, left_out_of}
use Rattle.clash_trials.specs.Trials.{ends, drops, keeps, Dropping}
use Rattle.clash_trials.proofs.Loops.{some-not-none}
use Rattle.clash_meaning.specs.Clash.{rules_in, Planned}
use Rattle.clash_meaning.proofs.Verdicts.{kept-at-12}
use Rattle.clash_meaning.proofs.Dropped.{left-out-0, first-marked, dropping-above}
use Rattle.clash_meaning.proofs.Theorems.{meant, handed, plan-within, plan-is-a-clash}
use Rattle.clash_meaning.proofs.Exactly.{marks-are-255, marks-0-or-1}

-- ---- dropping leaves the least

-- rule j + 1 is in `other` and not in `mine`
abbrev Later : (mine other : List ℕ) (j : ℕ) → Type 0
Later mine other j = Chosen j other × (get_or mine j 0 ≡ 0)

-- Whether it is can be told, and so whether there is such a rule past rule i + 1.
later? : (mine other : List ℕ) (j : ℕ) → Dec (Later mine other j)
later? mine other j = by (ℕ_discrete (get_or other j 0) 0) (ℕ_discrete (get_or mine j 0) 0)
  where
    by : Dec (get_or other j 0 ≡ 0) → Dec (get_or mine j 0 ≡ 0) → Dec (Later mine other j)
    by (yes z) d = no (λ w. w.0 z)
    by (no c) (yes z) = yes (c, z)
    by (no c) (no d) = no (λ w. d w.1)

module _ (sheet : List ℕ) (lent : Lent) (good : first_fault sheet ≡ none) (no_run : lent.run ≡ []) where
  -- Dropping with rules i, i - 1, .. 1 to try keeps rule j + 1. If every rule of another choice past it is one of the choice kept, then the
  -- other choice without it was among what gave 12 when the rule was tried.
  kept-beside : (i : ℕ) (marks mine other : List ℕ) → Dropping sheet lent i marks (some mine)
      → ((k : ℕ) → k < i → Chosen k marks) → (j : ℕ) → j < i → Chosen j mine → get_or other j 0 ≡ 0
      → ((k : ℕ) → j < k → get_or mine k 0 ≡ 0 → get_or other k 0 ≡ 0) → CanBeKept (system_in (with_chosen sheet other))
  unfolding Dropping
  kept-beside zero marks mine other e all j h c gone beside = absurd (omega arith)
  kept-beside (suc i) marks mine other (ends p e) all j h c gone beside = absurd (some-not-none (sym e))
  kept-beside (suc i) marks mine other (drops p next) all j h c gone beside =
      by (ℕ_discrete j i) (kept-beside i (left_out_of i marks) mine other next below j)
    where
      below : (k : ℕ) → k < i → Chosen k (left_out_of i marks)
      below k l z = all k (omega (arith, l)) (sym (get_or-set_other marks i k 0 0 (λ e. omega (arith, e, l))) ∙ z)

      by : Dec (j ≡ i) → (j < i → Chosen j mine → get_or other j 0 ≡ 0
          → ((k : ℕ) → j < k → get_or mine k 0 ≡ 0 → get_or other k 0 ≡ 0) → CanBeKept (system_in (with_chosen sheet other)))
          → CanBeKept (system_in (with_chosen sheet other))
      by (yes same) earlier =
          let out : get_or mine i 0 ≡ 0 = dropping-above sheet lent i (left_out_of i marks) mine next i (omega arith) ∙ left-out-0 marks i in
          absurd (c (subst (λ (k : ℕ). get_or mine k 0 ≡ 0) (sym same) out))
      by (no apart) earlier = earlier (omega (arith, h, apart)) c gone beside
  kept-beside (suc i) marks mine other (keeps p next) all j h c gone beside =
      by (ℕ_discrete j i) (kept-beside i marks mine other next (λ k l. all k (omega (arith, l))) j)
    where
      among : j ≡ i → Among other (left_out_of i marks)
      among same k z = at (dec_lt k i) (ℕ_discrete k i)
        where
          at : Dec (k < i) → Dec (k ≡ i) → get_or other k 0 ≡ 0
          at (yes l) d = absurd (all k (omega (arith, l)) (sym (get_or-set_other marks i k 0 0 (λ e. omega (arith, e, l))) ∙ z))
          at (no l) (yes e) = subst (λ (m : ℕ). get_or other m 0 ≡ 0) (same ∙ sym e) gone
          at (no l) (no e) =
              beside k (omega (arith, same, l, e))
              (dropping-above sheet lent i marks mine next k (omega (arith, l)) ∙ sym (get_or-set_other marks i k 0 0 e) ∙ z)

      by : Dec (j ≡ i) → (j < i → Chosen j mine → get_or other j 0 ≡ 0
          → ((k : ℕ) → j < k → get_or mine k 0 ≡ 0 → get_or other k 0 ≡ 0) → CanBeKept (system_in (with_chosen sheet other)))
          → CanBeKept (system_in (with_chosen sheet other))
      by (yes same) earlier = among-kept sheet other (left_out_of i marks) (among same) (kept-at-12 good no_run p)
      by (no apart) earlier = earlier (omega (arith, h, apart)) c gone beside

-- ---- the least choice

-- The planner's choice beside any other choice that cannot be kept: for each rule that it has and the other has not, the other has a later
-- one that it has not. So of all such choices its last rule is the earliest, of those with that rule its last but one, and so on.
pub least-choice : {sheet : List ℕ} {before after : Lent} {place : ℕ} {mine : List ℕ} → before.run ≡ []
    → Planned sheet before 0 place mine after
    → (other : List ℕ) → (CanBeKept (system_of (only_chosen other (decode sheet))) → ⊥)
    → (i : ℕ) → (get_or mine i 0 ≡ 0 → ⊥) → get_or other i 0 ≡ 0
    → (j : ℕ) × (i < j) × (get_or other j 0 ≡ 0 → ⊥) × (get_or mine j 0 ≡ 0)
least-choice {sheet} {before} {mine = mine} no_run p other never i has gone = by (any_below past? (length other))
  where
    Past : ℕ → Type 0
    Past j = (i < j) × Chosen j other × (get_or mine j 0 ≡ 0)

    past? : (j : ℕ) → Dec (Past j)
    past? j = at (dec_lt i j) (later? mine other j)
      where
        at : Dec (i < j) → Dec (Later mine other j) → Dec (Past j)
        at (no l) d = no (λ w. l w.0)
        at (yes l) (no d) = no (λ w. d (w.1, w.2))
        at (yes l) (yes d) = yes (l, d.0, d.1)

    all : (k : ℕ) → k < rules_in sheet → Chosen k (first_marks (rules_in sheet))
    all k l z = omega (arith, first-marked (rules_in sheet) (most_rules - rules_in sheet) k l, z)

    by : Dec ((j : ℕ) × (j < length other) × Past j) → (j : ℕ) × (i < j) × Chosen j other × (get_or mine j 0 ≡ 0)
    by (yes w) = (w.0, w.2.0, w.2.1, w.2.2)
    by (no none-past) =
        let (good, plan) = handed p in
        let beside : (k : ℕ) → i < k → get_or mine k 0 ≡ 0 → get_or other k 0 ≡ 0 =
        λ k l z. shut k l z (ℕ_discrete (get_or other k 0) 0) in
        absurd (never (subst (λ T. T) (meant sheet other)
        (kept-beside sheet before good no_run (rules_in sheet) (first_marks (rules_in sheet)) mine other plan.reduced.dropping all i
        (plan-within plan i has) has gone beside)))
      where
        shut : (k : ℕ) → i < k → get_or mine k 0 ≡ 0 → Dec (get_or other k 0 ≡ 0) → get_or other k 0 ≡ 0
        shut k l z (yes e) = e
        shut k l z (no c) = absurd (none-past (k, chosen-within other k c, (l, c, z)))

-- ---- there is one

-- compared from the last rule down, `mine` is the less
abbrev pub Beside : (mine other : List ℕ) → Type 0
Beside mine other =
    (i : ℕ) → (get_or mine i 0 ≡ 0 → ⊥) → get_or other i 0 ≡ 0
    → (j : ℕ) × (i < j) × (get_or other j 0 ≡ 0 → ⊥) × (get_or mine j 0 ≡ 0)

-- If each is the less, a rule that one alone has calls for a later one, and that for a later one still: there is none.
climbs : (mine other : List ℕ) → Beside mine other → Beside other mine
    → (fuel i : ℕ) → length mine ≤ i + fuel → Chosen i mine → get_or other i 0 ≡ 0 → ⊥
climbs mine other least least' zero i h c z = omega (arith, h, chosen-within mine i c)
climbs mine other least least' (suc fuel) i h c z =
    let (j, up, d, z') = least i c z in
    let (k, up', c', z'') = least' j d z' in
    climbs mine other least least' fuel k (omega (arith, h, up, up')) c' z''

-- So they have the same rules.
pub one-least-choice : (mine other : List ℕ) → Beside mine other → Beside other mine → (i : ℕ)
    → (get_or mine i 0 ≡ 0) ↔ (get_or other i 0 ≡ 0)
one-least-choice mine other least least' i = (
  λ z. shut (ℕ_discrete (get_or other i 0) 0) (λ c. climbs other mine least' least (length other) i (omega arith) c z),
  λ z. shut (ℕ_discrete (get_or mine i 0) 0) (λ c. climbs mine other least least' (length mine) i (omega arith) c z),
)
  where
    shut : {P : Type 0} → Dec P → ((P → ⊥) → ⊥) → P
    shut (yes p) never = p
    shut (no p) never = absurd (never p)

-- The choice is told by the sheet alone: whatever is lent, where the planner hands one over it is this. (Byte 6 is at most 255 in every
-- sheet that can be handed in.)
pub choice-by-the-sheet : {sheet : List ℕ} {before before' after after' : Lent} {place place' : ℕ} {mine other : List ℕ}
    → get_or sheet 6 0 ≤ 255 → before.run ≡ [] → before'.run ≡ [] → Planned sheet before 0 place mine after
    → Planned sheet before' 0 place' other after' → mine ≡ other
choice-by-the-sheet {sheet} {mine = mine} {other} few no_run no-run' p q =
    ext_get_or 0 mine other (marks-are-255 few p ∙ sym (marks-are-255 few q)) (λ i h. at i (ℕ_discrete (get_or mine i 0) 0))
  where
    same : (i : ℕ) → (get_or mine i 0 ≡ 0) ↔ (get_or other i 0 ≡ 0)
    same =
        one-least-choice mine other (least-choice no_run p other (plan-is-a-clash no-run' q).none_obeys)
        (least-choice no-run' q mine (plan-is-a-clash no_run p).none_obeys)

    at : (i : ℕ) → Dec (get_or mine i 0 ≡ 0) → get_or mine i 0 ≡ get_or other i 0
    at i (yes z) = z ∙ sym ((same i).0 z)
    at i (no c) =
        let d : get_or other i 0 ≡ 0 → ⊥ = λ z. c ((same i).1 z) in
        omega (arith, c, d, marks-0-or-1 p i, marks-0-or-1 q i)
