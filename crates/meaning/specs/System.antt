-- Runs over any system of states: what a run is, when it obeys, which states are reachable and which are livable.
-- Document 01, "States and obedience"; source document 000, section 2.2 (a model is an endless sequence of states) and section 2.3
-- (the normal form: `start ⇒ ..` at moment 0, `.. ⇒ ○ ..` at every moment, `true ⇒ ◇ m` at every moment, that is □◇m; next, always and
-- sometime as in source document 001). Nothing here knows a sheet, a byte or a number of letters. Assumes nothing.
use Rattle.std.specs.Prelude.{◌≡◌, List, ℕ, zero, suc, ◌≤◌, ◌<◌, length, get_or}

-- Lawful states, first states, moves, how many promises there are, and at which states promise k is kept. Promises are counted from 0 here,
-- so `Kept k` is the document's promise k + 1; it is asked only for k below their number.
pub record System : Type 1 where
  pub Lawful : ℕ → Type 0
  pub First : ℕ → Type 0
  pub Move : ℕ → ℕ → Type 0
  pub promises : ℕ
  pub Kept : ℕ → ℕ → Type 0

-- "A run is an endless sequence of states that starts in a first state and makes a move each time."
pub record Run (S : System) (f : ℕ → ℕ) : Type 0 where
  pub starts : S.First (f 0)
  pub goes : (i : ℕ) → S.Move (f i) (f (suc i))

-- "It obeys when, for each promise, the literal is true at infinitely many moments": whatever the moment i, at i or later.
pub record Obeys (S : System) (f : ℕ → ℕ) : Type 0 where
  pub run : Run S f
  pub keeps : (k : ℕ) → k < S.promises → (i : ℕ) → (j : ℕ) × (i ≤ j) × S.Kept k (f j)

-- "An endless run obeying the sheet exists" (demand 2).
abbrev pub CanBeKept : System → Type 0
CanBeKept S = (f : ℕ → ℕ) × Obeys S f

-- "States that occur in some obeying run; call those livable."
pub record Livable (S : System) (s : ℕ) : Type 0 where
  pub run : ℕ → ℕ
  pub obeys : Obeys S run
  pub moment : ℕ
  pub there : run moment ≡ s

-- n moves lead from a first state to s
abbrev pub ReachedIn : System → ℕ → ℕ → Type 0
ReachedIn S zero s = S.First s
ReachedIn S (suc n) s = (r : ℕ) × ReachedIn S n r × S.Move r s

-- "Reachable by moves from first states, first states included."
abbrev pub Reachable : System → ℕ → Type 0
Reachable S s = (n : ℕ) × ReachedIn S n s

-- the list l holds x, at some place
abbrev pub In : List ℕ → ℕ → Type 0
In l x = (i : ℕ) × (i < length l) × (get_or l i 0 ≡ x)

-- l lists exactly the states of P, ascending
pub record Lists (P : ℕ → Type 0) (l : List ℕ) : Type 0 where
  pub rises : (i : ℕ) → suc i < length l → get_or l i 0 < get_or l (suc i) 0
  pub sound : (i : ℕ) → i < length l → P (get_or l i 0)
  pub whole : (s : ℕ) → P s → In l s

-- the number of states of P is n
pub record Number (P : ℕ → Type 0) (n : ℕ) : Type 0 where
  pub list : List ℕ
  pub lists : Lists P list
  pub counted : length list ≡ n

-- "R is the number of states reachable by moves from first states"; "K is the number of states that occur in some obeying run"
abbrev pub IsR : System → ℕ → Type 0
IsR S r = Number (Reachable S) r

abbrev pub IsK : System → ℕ → Type 0
IsK S k = Number (Livable S) k

-- ---- used by theorems only

-- A system whose states lie below a bound and whose tests can be made. The theorems that something exists ask for it; every sheet's
-- system is one.
pub record Finite (S : System) : Type 0 where
  pub bound : ℕ
  pub first_below : (s : ℕ) → S.First s → s < bound
  pub move-below : (s t : ℕ) → S.Move s t → t < bound
  pub lawful? : (s : ℕ) → Dec (S.Lawful s)
  pub first? : (s : ℕ) → Dec (S.First s)
  pub move? : (s t : ℕ) → Dec (S.Move s t)
  pub kept? : (k s : ℕ) → Dec (S.Kept k s)
