-- How large the numbers of the judge's papers get, on every sheet: a lawful state is below 2^24, a word of a strike list below 2^32, so
-- that both fit in four bytes; C is the largest number that fits four times over; b is at most 262,144. Assumes nothing.
use mathlib.Core.Path.{◌≡◌, sym, ap, subst}
use mathlib.Core.Logic.{◌↔◌, ◌⊎◌, inl, inr}
use mathlib.Core.Option.{none}
use mathlib.Core.List.{List}
use Prim.Native.Nat.{ℕ, suc, ◌+◌, ◌*◌, ◌/◌, ◌^◌, ◌≤◌, ◌<◌}
use native.Mathlib.Decide.{dec_lt, ℕ_discrete}
use native.Mathlib.Nat.{div-lt_iff_lt-mul, mul-le-mul}
use native.Mathlib.Omega.{arith}
use lib.ListN.{length, get_or}
use lib.Pow.{pow_mono}
use Rattle.meaning.specs.System.{System, Livable, Number, Finite}
use Rattle.meaning.specs.Strike.{Struck, word_of, StrikeList}
use Rattle.meaning.specs.Sample.{RunPaper}
use Rattle.meaning.specs.Papers.{RunAccepted, StrikesAccepted}
use Rattle.meaning.specs.Sheet.{first_fault, decode, most_letters}
use Rattle.meaning.specs.Promises.{system_in, Lent, Outcome, capacity, Roomy, outcome, Judged}
use Rattle.meaning.proofs.Parts.{lawful-below, move-parts}
use Rattle.meaning.proofs.Lists.{number-mono}
use Rattle.meaning.proofs.Rounds.{Quiet, left-earlier, reason-at-most, quiet-stays}
use Rattle.meaning.proofs.Decide.{livable-reachable, quiet-within}
use Rattle.meaning.proofs.Judging.{livable-list, lists-number}
use Rattle.meaning.proofs.Bounds.{run-within-kp, run-within-k}
use Rattle.meaning.proofs.SheetSystem.{finite-in, bound-in, few-letters, few-promises}
use Rattle.meaning.proofs.Demands.{kept-hands-over, short-run-leaves, roomy-at-0, roomy-at-12}

-- ---- states

-- The states of a good sheet are below 2^24.
pub lawful-small : (sheet : List ℕ) → first_fault sheet ≡ none → (s : ℕ) → (system_in sheet).Lawful s → s < 2 ^ most_letters
unfolding system_in
lawful-small sheet good s lawful =
    let below : s < 2 ^ (decode sheet).letters = lawful-below (decode sheet) s lawful in
    let most : 2 ^ (decode sheet).letters ≤ 2 ^ most_letters = pow_mono (few-letters sheet good) in
    omega arith

-- ---- words

-- What is struck is struck within as many rounds as the bound on states.
struck-early : {S : System} (F : Finite S) (n s : ℕ) → Struck S n s → n / suc S.promises < F.bound
struck-early {S} F n s k = by (quiet-within F)
  where
    by : (q : ℕ) × (q ≤ F.bound * suc S.promises) × Quiet S q → n / suc S.promises < F.bound
    by (q, within, quiet) = at (dec_lt n q)
      where
        at : Dec (n < q) → n / suc S.promises < F.bound
        at (yes h) = (div-lt_iff_lt-mul {k = suc S.promises} {x = n} {y = F.bound} (omega arith)).1 (omega arith)
        at (no h) = absurd (k.1 (quiet-stays S q (suc n) quiet (omega arith) s (left-earlier S q n s (omega arith) k.0)).1)

-- The word of what is struck is 32 times the bound on states, and a reason, at most.
struck-word : {S : System} (F : Finite S) (n s : ℕ) → Struck S n s → word_of S n ≤ 32 * F.bound + S.promises
struck-word {S} F n s k = omega (arith, struck-early F n s k, reason-at-most S n)

-- The words of a good sheet's strike list are below 2^32.
pub words_small : (sheet : List ℕ) {states words : List ℕ} → first_fault sheet ≡ none → StrikeList (system_in sheet) states words
    → (i : ℕ) → i < length words → get_or words i 0 < 2 ^ 32
words_small sheet {states} {words} good L i h =
    let k = L.struck i (omega (arith, h, L.as_many)) in
    let bound : (finite-in sheet).bound ≤ 2 ^ most_letters
    = subst (λ (n : ℕ). n ≤ 2 ^ most_letters) (sym (bound-in sheet)) (pow_mono (few-letters sheet good)) in
    let high : word_of (system_in sheet) k.0 ≤ 32 * (finite-in sheet).bound + (system_in sheet).promises
    = struck-word (finite-in sheet) k.0 _ k.1 in
    let few = few-promises sheet good in
    subst (λ (w : ℕ). w < 2 ^ 32) (sym k.2) (omega (arith, bound, high, few))

-- The states of a good sheet's strike list are lawful, and so below 2^24.
pub struck-states-small : (sheet : List ℕ) {states words : List ℕ} → first_fault sheet ≡ none → StrikesAccepted (system_in sheet) states words
    → (i : ℕ) → i < length states → get_or states i 0 < 2 ^ most_letters
struck-states-small sheet good ok i h = lawful-small sheet good _ (ok.lawful i h)

-- A move goes from a lawful state.
leaves-lawful : (sheet : List ℕ) (s t : ℕ) → (system_in sheet).Move s t → (system_in sheet).Lawful s
unfolding system_in
leaves-lawful sheet s t move = ((move-parts (decode sheet) s t).0 move).0

-- So are the states of a run that is accepted: each makes a move.
pub run-states-small : (sheet : List ℕ) {states : List ℕ} {a : ℕ} → first_fault sheet ≡ none → RunAccepted (system_in sheet) states a
    → (i : ℕ) → i < length states → get_or states i 0 < 2 ^ most_letters
run-states-small sheet {states} {a} good ok i h = by (dec_lt (suc i) (length states))
  where
    by : Dec (suc i < length states) → get_or states i 0 < 2 ^ most_letters
    by (yes q) = lawful-small sheet good _ (leaves-lawful sheet _ _ (ok.moves i q))
    by (no q) = lawful-small sheet good _ (leaves-lawful sheet _ _ (ok.closes i (omega arith)))

-- ---- C and b

-- "C is the least of the table's length, the words' length, half the scratch length rounded down, and 16,384": c states have room exactly
-- if there are c places in the table, c in the words and twice c in the scratch, and c is at most 16,384.
pub capacity-exactly : (lent : Lent) (c : ℕ) → (c ≤ capacity lent)
    ↔ ((c ≤ length lent.table) × (c ≤ length lent.words) × (2 * c ≤ length lent.scratch) × (c ≤ 16384))
unfolding capacity
capacity-exactly lent c = (λ h. (omega arith, omega arith, omega arith, omega arith), λ (t, w, s, most). omega arith)

-- b is at most 16 times C, whatever the sheet.
run-within : (sheet : List ℕ) (lent : Lent) {states : List ℕ} {a : ℕ} → Roomy sheet lent → RunPaper (system_in sheet) states a
    → length states ≤ 262144
run-within sheet lent {states} roomy paper = by (ℕ_discrete (system_in sheet).promises 0)
  where
    K : ℕ
    K = length (livable-list (finite-in sheet)).0

    number : Number (Livable (system_in sheet)) K
    number = lists-number (livable-list (finite-in sheet)).1

    few : K ≤ 16384
    few = omega (
      arith,
      number-mono (λ s. livable-reachable) number roomy.number,
      ((capacity-exactly lent roomy.reached).0
          roomy.room).3,
    )

    by : Dec ((system_in sheet).promises ≡ 0) → length states ≤ 262144
    by (yes none-asked) = omega (arith, run-within-k paper number none-asked, few)
    by (no some-asked) =
        omega (arith, run-within-kp paper number (omega arith), mul-le-mul few (few-promises sheet roomy.good))

-- "b is never above 262,144": 16,384 states times 16 promises.
pub b-at-most : {sheet : List ℕ} {lent : Lent} {o : Outcome} → Judged sheet lent o → (o.answer ≡ 0) ⊎ (o.answer ≡ 12) → o.b ≤ 262144
unfolding outcome
b-at-most {sheet} {lent} j (inl kept) =
    let h = kept-hands-over j kept in
    subst (λ (n : ℕ). n ≤ 262144) (sym h.length_is) (run-within sheet lent (roomy-at-0 j kept) h.paper)
b-at-most {sheet} {lent} j (inr twelve) =
    let (states, a, paper, is) = short-run-leaves j twelve in
    subst (λ (n : ℕ). n ≤ 262144) (sym (ap (λ (o : Outcome). o.b) is)) (run-within sheet lent (roomy-at-12 j twelve) paper)
