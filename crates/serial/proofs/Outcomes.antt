-- Each promise of a lead leaves one outcome, and every state, buffer and piece has one: taking a piece, closing, and their C forms.
-- Then what a closed lead does ever after, and that an empty piece changes nothing. Assumes nothing.
use mathlib.Core.Path.{◌≡◌, refl, sym, ◌∙◌, ap}
use mathlib.Core.List.{List, [], ◌∷◌}
use Prim.Native.Nat.{ℕ, ◌+◌, ◌≤◌, ◌<◌, min, max}
use native.Mathlib.Omega.{arith}
use native.Mathlib.Decide.{ℕ_discrete, dec_le}
use lib.ListN.{length, take}
use lib.Seq.{sets}
use Rattle.meaning.specs.Sheet.{most_bytes_of_a_sheet}
use Rattle.meaning.specs.Promises.{ReadPlaced}
use Rattle.meaning.proofs.Promised.{read-placed-unique}
use Rattle.meaning.proofs.Meetable.{read-placed-met}
use Rattle.serial.specs.declared.Lead.{Lead}
use Rattle.serial.specs.Serial.{
  Open,
  Shut,
  counted,
  grown,
  ended,
  Takes,
  added,
  late,
  Answers,
  read,
  over,
  Closes,
  ends,
  again,
  lead_in,
  state_of,
  TakesState,
  ClosesState,
}

-- ---- one outcome

-- Taking a piece leaves one answer, one lead and one buffer.
pub takes-unique : {lead : Lead} {sheet piece : List ℕ} {m n : ℕ} {p q : Lead} {l r : List ℕ}
    → Takes lead sheet piece m p l → Takes lead sheet piece n q r → (m ≡ n) × (p ≡ q) × (l ≡ r)
takes-unique (added o a b c) (added o' a' b' c') = (a ∙ sym a', b ∙ sym b', c ∙ sym c')
takes-unique (added o a b c) (late s a' b' c') = absurd (s o)
takes-unique (late s a b c) (added o a' b' c') = absurd (s o)
takes-unique (late s a b c) (late s' a' b' c') = (a ∙ sym a', b ∙ sym b', c ∙ sym c')

-- The answer for what came is settled.
pub answers-unique : {taken : ℕ} {sheet : List ℕ} {m p n q : ℕ}
    → Answers taken sheet m p → Answers taken sheet n q → (m ≡ n) × (p ≡ q)
answers-unique {taken} {sheet} (read h x) (read h' y) = read-placed-unique (take taken sheet) x y
answers-unique (read h x) (over h' e f) = absurd (omega arith)
answers-unique (over h e f) (read h' y) = absurd (omega arith)
answers-unique (over h e f) (over h' e' f') = (e ∙ sym e', f ∙ sym f')

-- Closing leaves one answer, one place and one lead.
pub closes-unique : {lead : Lead} {sheet : List ℕ} {m p n q : ℕ} {x y : Lead}
    → Closes lead sheet m p x → Closes lead sheet n q y → (m ≡ n) × (p ≡ q) × (x ≡ y)
closes-unique (ends o a b) (ends o' a' b') = let same = answers-unique a a' in (same.0, same.1, b ∙ sym b')
closes-unique (ends o a b) (again s a' b' c') = absurd (s o)
closes-unique (again s a b c) (ends o a' b') = absurd (s o)
closes-unique (again s a b c) (again s' a' b' c') = (a ∙ sym a', b ∙ sym b', c ∙ sym c')

-- So do the C forms: one answer, one state, one buffer; one state and one `out`.
pub takes-state-unique : {state sheet piece : List ℕ} {m n : ℕ} {s t l r : List ℕ}
    → TakesState state sheet piece m s l → TakesState state sheet piece n t r → (m ≡ n) × (s ≡ t) × (l ≡ r)
takes-state-unique x y =
    let same = takes-unique x.promise y.promise in
    (same.0, x.written ∙ ap state_of same.1 ∙ sym y.written, same.2)

pub closes-state-unique : {state sheet out out' s t : List ℕ} → ClosesState state sheet out s → ClosesState state sheet out' t
    → (out ≡ out') × (s ≡ t)
closes-state-unique x y =
    let same = closes-unique x.promise y.promise in (
      x.told ∙ ap (λ (n : ℕ). n ∷ x.place ∷ []) same.0 ∙ ap (λ (q : ℕ). y.answer ∷ q ∷ []) same.1 ∙ sym y.told,
      x.written ∙ ap state_of same.2 ∙ sym y.written,
    )

-- ---- every input has one

-- Any piece can be taken, whatever the state; what is told of any buffer is settled; any lead can be closed.
pub takes-met : (lead : Lead) (sheet piece : List ℕ) → (n : ℕ) × (after : Lead) × (left : List ℕ) × Takes lead sheet piece n after left
takes-met lead sheet piece = by (ℕ_discrete lead.closed 0)
  where
    by : Dec (lead.closed ≡ 0) → (n : ℕ) × (after : Lead) × (left : List ℕ) × Takes lead sheet piece n after left
    by (yes o) = (0, grown lead (length piece), sets sheet lead.taken piece, added o refl refl refl)
    by (no s) = (18, lead, sheet, late s refl refl refl)

pub answers-met : (taken : ℕ) (sheet : List ℕ) → (n : ℕ) × (place : ℕ) × Answers taken sheet n place
answers-met taken sheet = by (dec_le taken most_bytes_of_a_sheet)
  where
    by : Dec (taken ≤ most_bytes_of_a_sheet) → (n : ℕ) × (place : ℕ) × Answers taken sheet n place
    by (yes h) = let some = read-placed-met (take taken sheet) in (some.0, some.1, read h some.2)
    by (no h) = (1, 0, over (omega arith) refl refl)

pub closes-met : (lead : Lead) (sheet : List ℕ) → (n : ℕ) × (place : ℕ) × (after : Lead) × Closes lead sheet n place after
closes-met lead sheet = by (ℕ_discrete lead.closed 0)
  where
    by : Dec (lead.closed ≡ 0) → (n : ℕ) × (place : ℕ) × (after : Lead) × Closes lead sheet n place after
    by (yes o) = let told = answers-met lead.taken sheet in (told.0, told.1, ended lead, ends o told.2 refl)
    by (no s) = (18, 0, lead, again s refl refl refl)

-- So have the C forms.
pub takes-state-met : (state sheet piece : List ℕ)
    → (n : ℕ) × (after : List ℕ) × (left : List ℕ) × TakesState state sheet piece n after left
takes-state-met state sheet piece =
    let some = takes-met (lead_in state) sheet piece in
    (some.0, state_of some.1, some.2, record { after = some.1; promise = some.3; written = refl })

pub closes-state-met : (state sheet : List ℕ) → (out : List ℕ) × (after : List ℕ) × ClosesState state sheet out after
closes-state-met state sheet =
    let some = closes-met (lead_in state) sheet in (
      some.0 ∷ some.1 ∷ [],
      state_of some.2,
      record { answer = some.0; place = some.1; after = some.2; promise = some.3; written = refl; told = refl },
    )

-- ---- after closing

-- A closed lead takes nothing: 18, and nothing is changed.
pub shut-takes : {lead : Lead} {sheet piece : List ℕ} {n : ℕ} {after : Lead} {left : List ℕ}
    → Shut lead → Takes lead sheet piece n after left → (n ≡ 18) × (after ≡ lead) × (left ≡ sheet)
shut-takes s t = takes-unique t (late s refl refl refl)

-- It is not closed again: 18, place 0, and nothing is changed.
pub shut-closes : {lead : Lead} {sheet : List ℕ} {n place : ℕ} {after : Lead}
    → Shut lead → Closes lead sheet n place after → (n ≡ 18) × (place ≡ 0) × (after ≡ lead)
shut-closes s c = closes-unique c (again s refl refl refl)

-- Whatever the sheet and whatever the state, a lead is closed after closing.
pub closed_after : {lead : Lead} {sheet : List ℕ} {n place : ℕ} {after : Lead} → Closes lead sheet n place after → Shut after
closed_after (ends o a b) e = omega (arith, ap (λ (l : Lead). l.closed) b)
closed_after (again s a b c) e = s (sym (ap (λ (l : Lead). l.closed) c) ∙ e)

-- The same in C, where a state is two numbers: they stay as they were.
two-numbers : (state : List ℕ) → length state ≡ 2 → state_of (lead_in state) ≡ state
two-numbers [] e = absurd (omega (arith, e))
two-numbers (a ∷ []) e = absurd (omega (arith, e))
two-numbers (a ∷ b ∷ []) e = refl
two-numbers (a ∷ b ∷ c ∷ l) e = absurd (omega (arith, e))

pub shut-takes-state : {state sheet piece state' left : List ℕ} {n : ℕ} → length state ≡ 2 → Shut (lead_in state)
    → TakesState state sheet piece n state' left → (n ≡ 18) × (state' ≡ state) × (left ≡ sheet)
shut-takes-state {state} long s t =
    let same = shut-takes s t.promise in
    (same.0, t.written ∙ ap state_of same.1 ∙ two-numbers state long, same.2)

pub shut-closes-state : {state sheet out state' : List ℕ} → length state ≡ 2 → Shut (lead_in state)
    → ClosesState state sheet out state' → (out ≡ 18 ∷ 0 ∷ []) × (state' ≡ state)
shut-closes-state {state} long s c =
    let same = shut-closes s c.promise in (
      c.told ∙ ap (λ (n : ℕ). n ∷ c.place ∷ []) same.0 ∙ ap (λ (q : ℕ). 18 ∷ q ∷ []) same.1,
      c.written ∙ ap state_of same.2 ∙ two-numbers state long,
    )

-- ---- an empty piece

-- An empty piece changes nothing, whatever the state: an open lead stays open.
pub empty-changes-nothing : {lead : Lead} {sheet : List ℕ} {n : ℕ} {after : Lead} {left : List ℕ}
    → Takes lead sheet [] n after left → (after ≡ lead) × (left ≡ sheet)
empty-changes-nothing {lead} (added o a b c) =
    let same : counted lead.taken 0 ≡ lead.taken = omega arith in
    (b ∙ ap (λ (n : ℕ). record { taken = n; closed = lead.closed }) same, c)
empty-changes-nothing (late s a b c) = (b, c)
