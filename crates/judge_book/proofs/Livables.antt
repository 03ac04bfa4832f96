-- What the words say once striking is over and some word is 0: the states kept in front are the livable ones. Assumes nothing.
use mathlib.Core.Path.{◌≡◌, refl, sym, ap, subst, ◌∙◌}
use mathlib.Core.Bool.{Bool, true, false, cond}
use mathlib.Core.Logic.{⊎_elim}
use mathlib.Core.List.{List}
use Prim.Native.Nat.{ℕ, zero, suc, ◌≤◌, ◌<◌}
use native.Mathlib.Decide.{ℕ_discrete}
use native.Mathlib.Omega.{arith}
use borrow.Author.Tests.{eq-eqb, ne_eqb}
use lib.Dec.{eqb}
use lib.ListN.{length, get_or, take}
use lib.Seq.{length-take-le}
use Rattle.meaning.specs.System.{System, Reachable, Livable, Lists}
use Rattle.meaning.specs.Strike.{word_of}
use Rattle.meaning.proofs.Lists.{lists-same}
use Rattle.meaning.proofs.Decide.{livable-reachable}
use Rattle.meaning.proofs.Rounds.{struck-not-livable}
use Rattle.rounds.specs.Marked.{Marked, unstruck}
use Rattle.table_order.specs.Arranged.{Unstruck, InFront}
use Rattle.table_order.proofs.Fronts.{front-sound, front-whole}

-- where some are unstruck one word is 0.
some-zero : (words : List ℕ) (r : ℕ) → (unstruck words r ≡ 0 → ⊥) → (j : ℕ) × (j < r) × (get_or words j 0 ≡ 0)
some-zero words zero some = absurd (some refl)
some-zero words (suc r) some = by (ℕ_discrete (get_or words r 0) 0) (λ h. some-zero words r h)
  where
    by : Dec (get_or words r 0 ≡ 0) → ((unstruck words r ≡ 0 → ⊥) → (j : ℕ) × (j < r) × (get_or words j 0 ≡ 0))
        → (j : ℕ) × (j < suc r) × (get_or words j 0 ≡ 0)
    by (yes z) f = (r, omega arith, z)
    by (no z) f =
        let (j, h, e) = f (λ none. some (omega (arith, ap (λ t. cond {A = ℕ} t 1 0) (ne_eqb (get_or words r 0) 0 z)))) in
        (j, omega arith, e)

-- At most all are unstruck,
unstruck-few : (words : List ℕ) (r : ℕ) → unstruck words r ≤ r
unstruck-few words zero = omega arith
unstruck-few words (suc r) = let less = unstruck-few words r in let one = cond-few (eqb (get_or words r 0) 0) in omega arith
  where
    cond-few : (b : Bool) → cond {A = ℕ} b 1 0 ≤ 1
    cond-few true = omega arith
    cond-few false = omega arith

-- and where all are unstruck every word is 0.
all-zero : (words : List ℕ) (r : ℕ) → unstruck words r ≡ r → (j : ℕ) → j < r → get_or words j 0 ≡ 0
all-zero words zero e j h = absurd (omega arith)
all-zero words (suc r) e j h = by (ℕ_discrete (get_or words r 0) 0) (ℕ_discrete j r) (λ all l. all-zero words r all j l)
  where
    by : Dec (get_or words r 0 ≡ 0) → Dec (j ≡ r) → (unstruck words r ≡ r → j < r → get_or words j 0 ≡ 0) → get_or words j 0 ≡ 0
    by (yes z) (yes q) f = ap (λ (n : ℕ). get_or words n 0) q ∙ z
    by (yes z) (no q) f = f (omega (arith, ap (λ t. cond {A = ℕ} t 1 0) (eq-eqb (get_or words r 0) 0 z))) (omega arith)
    by (no z) q f = absurd (omega (arith, unstruck-few words r, ap (λ t. cond {A = ℕ} t 1 0) (ne_eqb (get_or words r 0) 0 z)))

-- a phase's word is not 0.
word-not-0 : (S : System) (n : ℕ) → word_of S n ≡ 0 → ⊥
word-not-0 S n e = omega arith

-- the states whose word is 0 are the livable ones.
unstruck-livable : {S : System} (table words : List ℕ) (r left : ℕ) → r ≤ length table → Lists (Reachable S) (take r table)
    → Marked S table words r left → (s : ℕ) → (Unstruck table words r s → Livable S s) × (Livable S s → Unstruck table words r s)
unstruck-livable {S} table words r left in_table lists marked s = (there, back)
  where
    there : Unstruck table words r s → Livable S s
    there (i, h, state, z) =
        ⊎_elim (λ v. subst (Livable S) state v.1) (λ t. absurd (word-not-0 S t.0 (sym t.2 ∙ z))) (marked.word i h)

    back : Livable S s → Unstruck table words r s
    back v =
        let (j, h, state) = front-whole table r in_table lists s (livable-reachable v) in
        ⊎_elim (λ z. (j, h, state, z.0))
        (λ t. absurd (struck-not-livable t.0 t.1 (subst (Livable S) (sym state) v))) (marked.word j h)

-- So the states kept in front are the livable ones.
pub livables-listed : {S : System} (table words table' : List ℕ) (r left k : ℕ) → r ≤ length table → Lists (Reachable S) (take r table)
    → Marked S table words r left → InFront table words r table' k → Lists (Livable S) (take k table')
livables-listed table words table' r left k in_table lists marked front =
    lists-same (unstruck-livable table words r left in_table lists marked) front.front

-- Where none was struck all stand in front as they are.
pub all-in-front : (S : System) (table words : List ℕ) (r : ℕ) → r ≤ length table → Lists (Reachable S) (take r table)
    → unstruck words r ≡ r
    → InFront table words r table r
all-in-front S table words r in_table lists all = record {
  long = refl;
  few = omega arith;
  front = lists-same (λ s. (there s, back s)) lists;
}
  where
    there : (s : ℕ) → Reachable S s → Unstruck table words r s
    there s reached = let (j, h, state) = front-whole table r in_table lists s reached in (j, h, state, all-zero words r all j h)

    back : (s : ℕ) → Unstruck table words r s → Reachable S s
    back s (i, h, state, z) = subst (Reachable S) state (front-sound table r in_table lists i h)

-- If some are left, one is kept.
pub some-kept : {S : System} (table words table' : List ℕ) (r left k : ℕ) → r ≤ length table → Marked S table words r left → (left ≡ 0 → ⊥)
    → InFront table words r table' k → 1 ≤ k
some-kept table words table' r left k in_table marked some front =
    let (j, h, z) = some-zero words r (λ e. some (marked.left_is ∙ e)) in
    let (i, inside, there) = front.front.whole (get_or table j 0) (j, h, refl, z) in
    let long : length (take k table') ≡ k = length-take-le k table' (omega (arith, front.long, front.few)) in
    omega arith
