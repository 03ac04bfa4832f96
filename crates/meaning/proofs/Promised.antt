-- Each public call's promise leaves one outcome: of two outcomes that meet it for one input, the numbers and every lent slice are the same.
-- One theorem a call; the four checker calls rest on one. Assumes nothing.
use mathlib.Core.Path.{◌≡◌, refl, sym, ◌∙◌, ap}
use mathlib.Core.Option.{Option, none, some}
use mathlib.Core.List.{List, [], ◌∷◌}
use Prim.Native.Nat.{ℕ, ◌≤◌, ◌<◌}
use native.Mathlib.Omega.{arith}
use lib.ListN.{length}
use Rattle.meaning.specs.System.{System}
use Rattle.meaning.specs.Sample.{RunPaper}
use Rattle.meaning.specs.Sheet.{Fault, number_of}
use Rattle.meaning.specs.Promises.{
  ReadSays,
  Placed,
  ReadPlaced,
  ReadOut,
  Checked,
  faulty,
  accepted,
  refused,
  RunChecked,
  StrikesChecked,
  RunPlaced,
  StrikesPlaced,
  RunBytesChecked,
  StrikesBytesChecked,
  Lent,
  Outcome,
  Finding,
  bad,
  crowded,
  short,
  can,
  cannot,
  Roomy,
  Found,
  outcome,
  Judged,
  JudgedOut,
}
use Rattle.meaning.proofs.Lists.{lists-unique, number-unique}
use Rattle.meaning.proofs.Unique.{run-paper-unique}
use Rattle.meaning.proofs.Strikes.{strike-list-unique}

-- ---- the reader

-- The reader's promise leaves one number.
pub read-unique : (sheet : List ℕ) {m n : ℕ} → ReadSays sheet m → ReadSays sheet n → m ≡ n
unfolding ReadSays
read-unique sheet p q = p ∙ sym q

-- A place beside a number that is settled is settled too: the sheet's first fault says it.
pub placed-unique : {sheet : List ℕ} {Says : ℕ → Type 0} {m p n q : ℕ} → ((m n : ℕ) → Says m → Says n → m ≡ n)
    → Placed sheet Says m p → Placed sheet Says n q → (m ≡ n) × (p ≡ q)
placed-unique one x y = (one _ _ x.number y.number, x.where_met ∙ sym y.where_met)

-- The reader's promise leaves one number and one place.
pub read-placed-unique : (sheet : List ℕ) {m p n q : ℕ} → ReadPlaced sheet m p → ReadPlaced sheet n q → (m ≡ n) × (p ≡ q)
unfolding ReadPlaced
read-placed-unique sheet x y = placed-unique (λ i j. read-unique sheet) x y

-- So does naxxurbi_read_place's: the two numbers in `out`.
pub read-out-unique : {sheet out out' : List ℕ} → ReadOut sheet out → ReadOut sheet out' → out ≡ out'
read-out-unique {sheet} x y =
    let same = read-placed-unique sheet x.promise y.promise in
    x.written ∙ ap (λ (n : ℕ). n ∷ x.place ∷ []) same.0 ∙ ap (λ (q : ℕ). y.number ∷ q ∷ []) same.1 ∙ sym y.written

-- ---- the checkers

-- A sheet has one first fault.
pub same-fault : {o : Option Fault} {f g : Fault} → o ≡ some f → o ≡ some g → f ≡ g
same-fault p q = cc

-- A sheet with a fault is not good.
pub bad-not-good : {o : Option Fault} {f : Fault} → o ≡ some f → o ≡ none → ⊥
bad-not-good p q = let z : ◌≡◌ {A = ℕ} 0 1 = cc in omega arith

-- A checker's promise leaves one number, whatever the paper and the rule by which it is accepted.
pub checked-unique : {sheet : List ℕ} {Ok : System → Type 0} {m n : ℕ} → Checked sheet Ok m → Checked sheet Ok n → m ≡ n
checked-unique (faulty f e p) (faulty g e' q) = p ∙ ap (λ (x : Fault). number_of x.why) (same-fault e e') ∙ sym q
checked-unique (faulty f e p) (accepted e' ok q) = absurd (bad-not-good e e')
checked-unique (faulty f e p) (refused e' never q) = absurd (bad-not-good e e')
checked-unique (accepted e ok p) (faulty g e' q) = absurd (bad-not-good e' e)
checked-unique (accepted e ok p) (accepted e' ok' q) = p ∙ sym q
checked-unique (accepted e ok p) (refused e' never q) = absurd (never ok)
checked-unique (refused e never p) (faulty g e' q) = absurd (bad-not-good e' e)
checked-unique (refused e never p) (accepted e' ok q) = absurd (never ok)
checked-unique (refused e never p) (refused e' never' q) = p ∙ sym q

-- The run checker's promise leaves one number.
pub run-checked-unique : (sheet states : List ℕ) (a : ℕ) {m n : ℕ} → RunChecked sheet states a m → RunChecked sheet states a n → m ≡ n
unfolding RunChecked
run-checked-unique sheet states a p q = checked-unique p q

-- The strike-list checker's promise leaves one number.
pub strikes-checked-unique : (sheet states words : List ℕ) {m n : ℕ}
    → StrikesChecked sheet states words m → StrikesChecked sheet states words n → m ≡ n
unfolding StrikesChecked
strikes-checked-unique sheet states words p q = checked-unique p q

-- Each leaves one place beside it.
pub run-placed-unique : (sheet states : List ℕ) (a : ℕ) {m p n q : ℕ}
    → RunPlaced sheet states a m p → RunPlaced sheet states a n q → (m ≡ n) × (p ≡ q)
unfolding RunPlaced
run-placed-unique sheet states a x y = placed-unique (λ i j. run-checked-unique sheet states a) x y

pub strikes-placed-unique : (sheet states words : List ℕ) {m p n q : ℕ}
    → StrikesPlaced sheet states words m p → StrikesPlaced sheet states words n q → (m ≡ n) × (p ≡ q)
unfolding StrikesPlaced
strikes-placed-unique sheet states words x y = placed-unique (λ i j. strikes-checked-unique sheet states words) x y

-- The firmware's run check, on bytes, leaves one number.
pub run-bytes-checked-unique : (sheet states : List ℕ) (a : ℕ) {m n : ℕ}
    → RunBytesChecked sheet states a m → RunBytesChecked sheet states a n → m ≡ n
unfolding RunBytesChecked
run-bytes-checked-unique sheet states a p q = checked-unique p q

-- The firmware's strike-list check, on bytes, leaves one number.
pub strikes-bytes-checked-unique : (sheet states words : List ℕ) {m n : ℕ}
    → StrikesBytesChecked sheet states words m → StrikesBytesChecked sheet states words n → m ≡ n
unfolding StrikesBytesChecked
strikes-bytes-checked-unique sheet states words p q = checked-unique p q

-- ---- the judge

-- R has room or it has none.
pub roomy-not-crowded : {sheet : List ℕ} {lent : Lent} → Roomy sheet lent → Found sheet lent crowded → ⊥
roomy-not-crowded roomy crowd = omega (arith, roomy.room, crowd.1.2, number-unique roomy.number crowd.1.1)

-- Two sample runs of one system are as long.
pub same-run-length : {S : System} {states states' : List ℕ} {a a' : ℕ}
    → RunPaper S states a → RunPaper S states' a' → length states ≡ length states'
same-run-length p q = ap length (run-paper-unique p q).0

-- The sample run of a system fits into n places or it doesn't.
pub short-not-fits : {S : System} {states : List ℕ} {a b n : ℕ}
    → ((states : List ℕ) × (a : ℕ) × RunPaper S states a × (length states ≡ b)) → n < b → RunPaper S states a → length states ≤ n → ⊥
short-not-fits (states', a', paper', long) above paper fits = omega (arith, long, same-run-length paper paper')

-- Two true findings of one input have one outcome.
pub found-unique : (sheet : List ℕ) (lent : Lent) (x y : Finding) → Found sheet lent x → Found sheet lent y
    → outcome lent x ≡ outcome lent y
found-unique sheet lent (bad f) (bad g) p q = ap (λ (x : Fault). outcome lent (bad x)) (same-fault p q)
found-unique sheet lent (bad f) crowded p q = absurd (bad-not-good p q.0)
found-unique sheet lent (bad f) (short b) p q = absurd (bad-not-good p q.0.good)
found-unique sheet lent (bad f) (can l s a) p q = absurd (bad-not-good p q.0.good)
found-unique sheet lent (bad f) (cannot s w) p q = absurd (bad-not-good p q.0.good)
found-unique sheet lent crowded (bad g) p q = absurd (bad-not-good q p.0)
found-unique sheet lent crowded crowded p q = refl
found-unique sheet lent crowded (short b) p q = absurd (roomy-not-crowded q.0 p)
found-unique sheet lent crowded (can l s a) p q = absurd (roomy-not-crowded q.0 p)
found-unique sheet lent crowded (cannot s w) p q = absurd (roomy-not-crowded q.0 p)
found-unique sheet lent (short b) (bad g) p q = absurd (bad-not-good q p.0.good)
found-unique sheet lent (short b) crowded p q = absurd (roomy-not-crowded p.0 q)
found-unique sheet lent (short b) (short c) p q =
    ap (λ (n : ℕ). outcome lent (short n)) (sym p.2.3 ∙ same-run-length p.2.2 q.2.2 ∙ q.2.3)
found-unique sheet lent (short b) (can l s a) p q = absurd (short-not-fits p.2 p.3 q.3 q.4)
found-unique sheet lent (short b) (cannot s w) p q = absurd (q.1 p.1)
found-unique sheet lent (can l s a) (bad g) p q = absurd (bad-not-good q p.0.good)
found-unique sheet lent (can l s a) crowded p q = absurd (roomy-not-crowded p.0 q)
found-unique sheet lent (can l s a) (short b) p q = absurd (short-not-fits q.2 q.3 p.3 p.4)
found-unique sheet lent (can l s a) (can l' s' a') p q =
    let (states, back) = run-paper-unique p.3 q.3 in
    cc (lists-unique p.2 q.2, states, back)
found-unique sheet lent (can l s a) (cannot s' w) p q = absurd (q.1 p.1)
found-unique sheet lent (cannot s w) (bad g) p q = absurd (bad-not-good q p.0.good)
found-unique sheet lent (cannot s w) crowded p q = absurd (roomy-not-crowded p.0 q)
found-unique sheet lent (cannot s w) (short b) p q = absurd (p.1 q.1)
found-unique sheet lent (cannot s w) (can l s' a) p q = absurd (p.1 q.1)
found-unique sheet lent (cannot s w) (cannot s' w') p q =
    let (states, words) = strike-list-unique p.2 q.2 in
    cc (states, words)

-- The judge's promise leaves one outcome: the five numbers and the four slices.
pub judged-unique : {sheet : List ℕ} {lent : Lent} {o o' : Outcome} → Judged sheet lent o → Judged sheet lent o' → o ≡ o'
judged-unique {sheet} {lent} p q = p.returned ∙ found-unique sheet lent _ _ p.found q.found ∙ sym q.returned

-- So does naxxurbi_judge's: the five numbers in `out` and what the slices then hold.
pub judged-out-unique : {sheet : List ℕ} {lent : Lent} {out out' : List ℕ} {after after' : Lent}
    → JudgedOut sheet lent out after → JudgedOut sheet lent out' after' → (out ≡ out') × (after ≡ after')
judged-out-unique p q =
    let same : p.judged ≡ q.judged = judged-unique p.promise q.promise in
    let numbers : Outcome → List ℕ = λ o. o.answer ∷ o.count ∷ o.a ∷ o.b ∷ o.place ∷ [] in
    (p.written ∙ ap numbers same ∙ sym q.written, p.left ∙ ap (λ (o : Outcome). o.leaves) same ∙ sym q.left)
