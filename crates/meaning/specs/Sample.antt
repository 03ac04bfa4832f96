-- The sample run, over any system. Document 01, "The judge's two papers", first paragraph. Assumes nothing.
use Rattle.std.specs.Prelude.{◌≡◌, cond, ◌⊎◌, List, ℕ, suc, ◌≤◌, ◌<◌, ltb, length, get_or}
use Rattle.meaning.specs.System.{System, Livable}
use Rattle.meaning.specs.Strike.{Way}

-- The aimed promise's literal is true at s. With no promises the aim asks nothing: every state meets it, so every distance is 0 and the
-- rules below move "to the least livable next state".
abbrev pub Met : System → ℕ → ℕ → Type 0
Met S k s = (S.promises ≡ 0) ⊎ S.Kept k s

-- "Distance is the fewest moves, through livable states only, to a livable state where that literal is true, 0 if it is true already."
pub record Distance (S : System) (k d s : ℕ) : Type 0 where
  pub way : Way S (Livable S) (Met S k) d s
  pub fewest : (n : ℕ) → Way S (Livable S) (Met S k) n s → d ≤ n

-- "to the next promise, after the last to the first"
abbrev pub next_aim : System → ℕ → ℕ
next_aim S k = cond (ltb (suc k) S.promises) (suc k) 0

-- "If the aimed promise's literal is true, the aim passes once to the next promise": from aim k, at state s, to aim k'.
abbrev pub Passes : System → ℕ → ℕ → ℕ → Type 0
Passes S k s k' = (Met S k s × (k' ≡ next_aim S k)) ⊎ ((Met S k s → ⊥) × (k' ≡ k))

-- "Then it moves to a livable next state whose distance to the aimed promise is least, the least state among equals."
pub record Best (S : System) (k s t : ℕ) : Type 0 where
  pub move : S.Move s t
  pub livable : Livable S t
  pub far : ℕ
  pub distance : Distance S k far t
  pub nearest : (u d : ℕ) → S.Move s u → Livable S u → Distance S k d u → (far < d) ⊎ ((far ≡ d) × (t ≤ u))

-- The sample run f before it is cut; `aim i` is the aim on arriving at moment i, before it passes there.
pub record Sample (S : System) (f aim : ℕ → ℕ) : Type 0 where
  -- "It starts in the least livable first state, aiming at promise 1."
  pub first : S.First (f 0)
  pub livable : Livable S (f 0)
  pub least : (s : ℕ) → S.First s → Livable S s → f 0 ≤ s
  pub aims_first : aim 0 ≡ 0
  -- "At each moment: .. the aim passes once .. Then it moves .."
  pub passes : (i : ℕ) → Passes S (aim i) (f i) (aim (suc i))
  pub best : (i : ℕ) → Best S (aim (suc i)) (f i) (f (suc i))

-- "It is cut at the first moment b whose state and aim on arrival equal those of an earlier moment a. The paper is the b states from
-- moment 0": b is the list's length.
pub record RunPaper (S : System) (states : List ℕ) (a : ℕ) : Type 0 where
  pub run : ℕ → ℕ
  pub aim : ℕ → ℕ
  pub sample : Sample S run aim
  pub written : (i : ℕ) → i < length states → get_or states i 0 ≡ run i
  pub back : a < length states
  pub same_state : run (length states) ≡ run a
  pub same-aim : aim (length states) ≡ aim a
  pub no_earlier : (i j : ℕ) → i < j → j < length states → run i ≡ run j → aim i ≡ aim j → ⊥
