-- Over a finite system, what the meaning speaks of can be decided: reachable states, ways, what is left before a phase, what a phase
-- strikes; and there is a phase from which a whole round strikes nothing. Ways are decided by the law of Settle: ways of at most n moves
-- form a rising chain. Reachability is the way back: a way in the reversed system. Assumes nothing.
use mathlib.Core.Path.{subst}
use mathlib.Core.Logic.Dec
use mathlib.Core.Logic.{◌⊎◌, inl, inr}
use Prim.Native.Nat.{ℕ, zero, suc, ◌+◌, ◌*◌, ◌≤◌, ◌<◌}
use native.Mathlib.Decide.{map_dec, dec_lt}
use native.Mathlib.Omega.{arith}
use Rattle.meaning.specs.System.{System, Run, Livable, ReachedIn, Reachable, Finite}
use Rattle.meaning.specs.Strike.{Way, SavedBy, reason_of, Left, Struck}
use Rattle.meaning.proofs.Search.{either?, any_below}
use Rattle.meaning.proofs.Rounds.{left-reachable}
use Rattle.meaning.proofs.Settle.{settles-next, settles-falling}

-- Reachable states lie below the bound.
pub reachable-below : {S : System} (F : Finite S) {s : ℕ} → Reachable S s → s < F.bound
reachable-below F {s} (zero, first) = F.first_below s first
reachable-below F {s} (suc n, (r, before, move)) = F.move-below r s move

-- Every moment of a run is reachable.
pub run-reachable : {S : System} {f : ℕ → ℕ} → Run S f → (i : ℕ) → ReachedIn S i (f i)
run-reachable r zero = r.starts
run-reachable {S} {f} r (suc i) = (f i, run-reachable r i, r.goes i)

-- Livable states are reachable.
pub livable-reachable : {S : System} {s : ℕ} → Livable S s → Reachable S s
livable-reachable {S} L = (L.moment, subst (ReachedIn S L.moment) L.there (run-reachable L.obeys.run L.moment))

-- Whether s has a move into P, if such moves lie below N.
pub move-into? : (S : System) → ((s t : ℕ) → Dec (S.Move s t)) → {P : ℕ → Type 0} → ((t : ℕ) → Dec (P t))
    → (N : ℕ) (s : ℕ) → ((t : ℕ) → S.Move s t → P t → t < N) → Dec ((t : ℕ) × S.Move s t × P t)
move-into? S move? P? N s within = map_dec (λ (t, l, (m, p)). (t, m, p)) (λ (t, m, p). (t, within t m p, (m, p)))
    (any_below (λ t. Dec.and (move? s t) (P? t)) N)

-- Ways in a system whose moves into U lie below N.
module _ (S : System) (move? : (s t : ℕ) → Dec (S.Move s t)) {U G : ℕ → Type 0} (U? : (s : ℕ) → Dec (U s)) (G? : (s : ℕ) → Dec (G s))
    (N : ℕ) (within : (s t : ℕ) → S.Move s t → U t → t < N) where
  -- a way of at most n moves
  abbrev Upto : ℕ → ℕ → Type 0
  Upto zero s = U s × G s
  Upto (suc n) s = U s × (G s ⊎ ((t : ℕ) × S.Move s t × Upto n t))

  upto-through : (n s : ℕ) → Upto n s → U s
  upto-through zero s w = w.0
  upto-through (suc n) s w = w.0

  upto-rises : (n s : ℕ) → Upto n s → Upto (suc n) s
  upto-rises zero s (u, g) = (u, inl g)
  upto-rises (suc n) s (u, inl g) = (u, inl g)
  upto-rises (suc n) s (u, inr (t, m, w)) = (u, inr (t, m, upto-rises n t w))

  upto? : (n s : ℕ) → Dec (Upto n s)
  upto? zero s = Dec.and (U? s) (G? s)
  upto? (suc n) s = Dec.and (U? s) (either? (G? s) (move-into? S move? (upto? n) N s (λ t m w. within s t m (upto-through n t w))))

  upto-way : (n s : ℕ) → Upto n s → (m : ℕ) × Way S U G m s
  upto-way zero s w = (0, w)
  upto-way (suc n) s (u, inl g) = (0, (u, g))
  upto-way (suc n) s (u, inr (t, m, w)) = let r = upto-way n t w in (suc r.0, (u, (t, m, r.1)))

  way-upto : (n : ℕ) → ((t : ℕ) → t < N → Upto (suc n) t → Upto n t) → (m s : ℕ) → Way S U G m s → Upto (suc n) s
  way-upto n rest zero s (u, g) = (u, inl g)
  way-upto n rest (suc m) s (u, (t, v, w)) = let r = way-upto n rest m t w in
      (u, inr (t, v, rest t (within s t v (upto-through (suc n) t r)) r))

  -- Whether some way leads from s through U to G.
  pub way-below? : (s : ℕ) → Dec ((n : ℕ) × Way S U G n s)
  way-below? s =
      let r = settles-next upto-rises upto? N in
      map_dec (upto-way (suc r.0) s) (λ (m, w). way-upto r.0 r.2 m s w) (upto? (suc r.0) s)

-- Whether some way leads from s through U to G.
pub way? : {S : System} → Finite S → {U G : ℕ → Type 0} → ((s : ℕ) → Dec (U s)) → ((s : ℕ) → Dec (G s)) → (s : ℕ)
    → Dec ((n : ℕ) × Way S U G n s)
way? {S} F U? G? s = way-below? S F.move? U? G? F.bound (λ s t m u. F.move-below s t m) s

-- the moves read backwards
abbrev reverse : System → System
reverse S = record { Lawful = S.Lawful; First = S.First; Move = λ s t. S.Move t s; promises = S.promises; Kept = S.Kept }

reached-way : {S : System} (F : Finite S) (n s : ℕ) → ReachedIn S n s → Way (reverse S) (λ r. r < F.bound) S.First n s
reached-way F zero s first = (F.first_below s first, first)
reached-way F (suc n) s (r, before, move) = (F.move-below r s move, (r, move, reached-way F n r before))

way-reached : {S : System} (F : Finite S) (n s : ℕ) → Way (reverse S) (λ r. r < F.bound) S.First n s → ReachedIn S n s
way-reached F zero s w = w.1
way-reached F (suc n) s (u, (r, move, w)) = (r, way-reached F n r w, move)

-- Whether s is reachable.
pub reachable? : {S : System} → Finite S → (s : ℕ) → Dec (Reachable S s)
reachable? {S} F s = map_dec (λ (n, w). (n, way-reached F n s w)) (λ (n, r). (n, reached-way F n s r))
    (way-below? (reverse S) (λ s t. F.move? t s) (λ r. dec_lt r F.bound) F.first? F.bound (λ s t m u. u) s)

-- Whether a state is saved from a reason.
pub saved? : {S : System} → Finite S → {U : ℕ → Type 0} → ((s : ℕ) → Dec (U s)) → (reason s : ℕ) → Dec (SavedBy S U reason s)
saved? {S} F U? zero s = move-into? S F.move? U? F.bound s (λ t m u. F.move-below s t m)
saved? F U? (suc k) s = way? F U? (F.kept? k) s

-- Whether a state is left before phase n.
pub left? : {S : System} → Finite S → (n s : ℕ) → Dec (Left S n s)
left? F zero s = reachable? F s
left? {S} F (suc n) s = Dec.and (left? F n s) (saved? F (left? F n) (reason_of S n) s)

-- Whether a state is struck in phase n.
pub struck? : {S : System} → Finite S → (n s : ℕ) → Dec (Struck S n s)
struck? {S} F n s = Dec.and (left? F n s) (Dec.not (saved? F (left? F n) (reason_of S n) s))

-- Before some phase n, at most p + 1 for each number below the bound, no state that is left is struck in the next p + 1 phases.
pub quiet-within : {S : System} (F : Finite S)
    → (n : ℕ) × (n ≤ F.bound * suc S.promises) × ((s : ℕ) → Left S n s → Left S (suc S.promises + n) s)
quiet-within {S} F =
    let r = settles-falling {P = Left S} (λ n s l. l.0) (left? F) F.bound (suc S.promises) in
    (r.0, r.1, λ s l. r.2 s (reachable-below F (left-reachable S r.0 l)) l)

-- So there is a quiet phase.
pub quiet-exists : {S : System} → Finite S → (n : ℕ) × ((s : ℕ) → Left S n s → Left S (suc S.promises + n) s)
quiet-exists F = let (n, within, quiet) = quiet-within F in (n, quiet)

-- A reachable state is struck in some phase before n, or still left before phase n.
pub struck-or-left : {S : System} → Finite S → (n : ℕ) {s : ℕ} → Reachable S s → ((m : ℕ) × (m < n) × Struck S m s) ⊎ Left S n s
struck-or-left F zero r = inr r
struck-or-left {S} F (suc n) {s} r = by (struck-or-left F n r)
  where
    next : Left S n s → Dec (SavedBy S (Left S n) (reason_of S n) s) → ((m : ℕ) × (m < suc n) × Struck S m s) ⊎ Left S (suc n) s
    next l (yes v) = inr (l, v)
    next l (no v) = inl (n, omega arith, (l, v))

    by : ((m : ℕ) × (m < n) × Struck S m s) ⊎ Left S n s → ((m : ℕ) × (m < suc n) × Struck S m s) ⊎ Left S (suc n) s
    by (inl (m, h, k)) = inl (m, omega arith, k)
    by (inr l) = next l (saved? F (left? F n) (reason_of S n) s)
