-- Rounds and phases of striking over any system. Document 01, "The judge's two papers", second paragraph, and "Every 'cannot be kept'
-- paper of the judge is accepted". What is proved, by theme:
--     left-reachable, left-earlier, livable-left, struck-not-livable, struck-once    what a phase leaves and strikes
--     left-livable, quiet-left-is-livable, quiet-stays    after a quiet round what is left is exactly what is livable
--     phase-word-rises, word-reason-is, strike-list-accepted, strike-list-no-run    the strike list and its words
-- Assumes nothing.
use mathlib.Core.Path.{◌≡◌, refl, sym, ◌∙◌, ap, subst}
use mathlib.Core.Logic.{◌↔◌, ◌⊎◌, inl, inr, ⊎_elim}
use mathlib.Core.List.{List}
use Prim.Native.Nat.{ℕ, zero, suc, ◌+◌, ◌-◌, ◌*◌, ◌/◌, ◌%◌, ◌≤◌, ◌<◌, zero-le}
use native.Mathlib.Nat.{mod-lt, div-add-mod', div-mul-le_self, div-lt_iff_lt-mul, suc-mul, mul-add-mod_self_left, mod-eq_of_lt, le_of_eq}
use native.Mathlib.Nat.{le_of_lt}
use native.Mathlib.Decide.{dec_lt, dec_le, le_ind, ℕ_discrete}
use native.Mathlib.Omega.{arith}
use lib.Arith.{digits_mod}
use lib.ListN.{get_or}
use Rattle.meaning.specs.System.{System, Run, Obeys, CanBeKept, Livable, ReachedIn, Reachable, In}
use Rattle.meaning.specs.Strike.{Way, SavedBy, reason_of, round_of, Left, Struck, word_of, StrikeList}
use Rattle.meaning.specs.Papers.{StrikesAccepted, Listed, EntryRight}

-- No state unstruck before phase n is struck in the next p + 1 phases, one for each reason.
abbrev pub Quiet : System → ℕ → Type 0
Quiet S n = (s : ℕ) → Left S n s → Left S (suc S.promises + n) s

-- What is left is reachable.
pub left-reachable : (S : System) (n : ℕ) {s : ℕ} → Left S n s → Reachable S s
left-reachable S zero l = l
left-reachable S (suc n) l = left-reachable S n l.0

-- What is left was left earlier.
pub left-earlier : (S : System) (m n s : ℕ) → m ≤ n → Left S n s → Left S m s
left-earlier S m n s h = le_ind (λ k. Left S k s → Left S m s) (λ l. l) (λ k _ earlier l. earlier l.0) n h

-- The reason of a phase is at most the number of promises.
pub reason-at-most : (S : System) (n : ℕ) → reason_of S n ≤ S.promises
reason-at-most S n = let h : n % suc S.promises < suc S.promises = mod-lt n (omega arith) in omega arith

-- each state of a run is reachable
run-reached : {S : System} {f : ℕ → ℕ} → Run S f → (i : ℕ) → ReachedIn S i (f i)
run-reached r zero = r.starts
run-reached {f = f} r (suc i) = (f i, run-reached r i, r.goes i)

-- a path whose states are in U and whose moment j meets G is a way from each earlier moment
way-along : {S : System} {f : ℕ → ℕ} → Run S f → (U G : ℕ → Type 0) → ((i : ℕ) → U (f i))
    → (d i j : ℕ) → i + d ≡ j → G (f j) → Way S U G d (f i)
way-along {f = f} r U G u zero i j e g = let q : j ≡ i = omega arith in (u i, subst (λ (x : ℕ). G (f x)) q g)
way-along {f = f} r U G u (suc d) i j e g = (u i, (f (suc i), r.goes i, way-along r U G u d (suc i) j (omega arith) g))

-- what an obeying run goes through is saved from every reason
run-saved : {S : System} {f : ℕ → ℕ} → Obeys S f → (U : ℕ → Type 0) → ((i : ℕ) → U (f i))
    → (r : ℕ) → r ≤ S.promises → (i : ℕ) → SavedBy S U r (f i)
run-saved {f = f} o U u zero h i = (f (suc i), o.run.goes i, u (suc i))
run-saved {S} o U u (suc k) h i =
    let m = o.keeps k h i in
    (m.0 - i, way-along o.run U (S.Kept k) u (m.0 - i) i m.0 (omega arith) m.2)

-- no phase strikes a state of an obeying run
run-left : {S : System} {f : ℕ → ℕ} → Obeys S f → (n i : ℕ) → Left S n (f i)
run-left o zero i = (i, run-reached o.run i)
run-left {S} o (suc n) i = (run-left o n i, run-saved o (Left S n) (run-left o n) (reason_of S n) (reason-at-most S n) i)

-- No phase strikes a livable state.
pub livable-left : {S : System} (n : ℕ) {s : ℕ} → Livable S s → Left S n s
livable-left {S} n l = subst (Left S n) l.there (run-left l.obeys n l.moment)

-- A struck state is not livable.
pub struck-not-livable : {S : System} (n : ℕ) {s : ℕ} → Struck S n s → Livable S s → ⊥
struck-not-livable n k l = k.1 (livable-left (suc n) l).1

-- what phase m strikes is not there in a later phase
struck-then-gone : (S : System) (m n s : ℕ) → Struck S m s → m < n → Left S n s → ⊥
struck-then-gone S m n s k h l = k.1 (left-earlier S (suc m) n s h l).1

-- A state is struck in one phase only.
pub struck-once : (S : System) (m n s : ℕ) → Struck S m s → Struck S n s → m ≡ n
struck-once S m n s j k = by (dec_lt m n) (dec_lt n m)
  where
    by : Dec (m < n) → Dec (n < m) → m ≡ n
    by (yes h) d = absurd (struck-then-gone S m n s j h k.0)
    by (no g) (yes h) = absurd (struck-then-gone S n m s k h j.0)
    by (no g) (no h) = omega arith

-- A way within U is a way within whatever holds U.
pub way-map : (S : System) (U W G : ℕ → Type 0) → ((s : ℕ) → U s → W s) → (n s : ℕ) → Way S U G n s → Way S W G n s
way-map S U W G f zero s w = (f s w.0, w.1)
way-map S U W G f (suc n) s w = (f s w.0, (w.1.0, w.1.1, way-map S U W G f n w.1.0 w.1.2))

-- What U saves is saved by whatever holds U.
pub saved-map : (S : System) (U W : ℕ → Type 0) → ((s : ℕ) → U s → W s) → (r s : ℕ) → SavedBy S U r s → SavedBy S W r s
saved-map S U W f zero s v = (v.0, v.1, f v.0 v.2)
saved-map S U W f (suc k) s v = (v.0, way-map S U W (S.Kept k) f v.0 s v.1)

-- every reason r has its phase among the p + 1 phases from n on
phase-of-reason : (p n r : ℕ) → r ≤ p → (m : ℕ) × (n ≤ m) × (m ≤ p + n) × (m % suc p ≡ r)
phase-of-reason p n r h = by (dec_le (n % suc p) r) (div-add-mod' n (suc p)) (mod-lt n (omega arith))
  where
    by : Dec (n % suc p ≤ r) → n / suc p * suc p + n % suc p ≡ n → n % suc p < suc p → (m : ℕ) × (n ≤ m) × (m ≤ p + n) × (m % suc p ≡ r)
    by (yes q) whole part = (n / suc p * suc p + r, omega arith, omega arith, digits_mod (n / suc p) (omega arith))
    by (no q) whole part =
        let more : suc (n / suc p) * suc p ≡ n / suc p * suc p + suc p = suc-mul (n / suc p) (suc p) in
        (suc (n / suc p) * suc p + r, omega arith, omega arith, digits_mod (suc (n / suc p)) (omega arith))

-- after a quiet round each state left is saved from every reason by states left
quiet-saves : (S : System) (n : ℕ) → Quiet S n → (r : ℕ) → r ≤ S.promises → (s : ℕ) → Left S n s → SavedBy S (Left S n) r s
quiet-saves S n q r h s l =
    let m = phase-of-reason S.promises n r h in
    let v : SavedBy S (Left S m.0) (reason_of S m.0) s
    = (left-earlier S (suc m.0) (suc S.promises + n) s (omega arith) (q s l)).1 in
    saved-map S (Left S m.0) (Left S n) (λ t. left-earlier S n m.0 t m.1) r s
    (subst (λ (x : ℕ). SavedBy S (Left S m.0) x s) m.3 v)

-- A path that moves for ever from s, keeps every promise again and again and meets t.
record FairPath (S : System) (s t : ℕ) : Type 0 where
  path : ℕ → ℕ
  begins : path 0 ≡ s
  goes : (i : ℕ) → S.Move (path i) (path (suc i))
  keeps : (k : ℕ) → k < S.promises → (i : ℕ) → (j : ℕ) × (i ≤ j) × S.Kept k (path j)
  moment : ℕ
  there : path moment ≡ t

-- the path f with r before it
abbrev before : ℕ → (ℕ → ℕ) → ℕ → ℕ
before r f zero = r
before r f (suc i) = f i

-- a move into a fair path makes a fair path
fair-before : {S : System} {r s t : ℕ} → S.Move r s → FairPath S s t → FairPath S r t
fair-before {S} {r} m w = record {
  path = before r w.path;
  begins = refl;
  goes = goes;
  keeps = keeps;
  moment = suc w.moment;
  there = w.there;
}
  where
    goes : (i : ℕ) → S.Move (before r w.path i) (before r w.path (suc i))
    goes zero = rw w.begins m
    goes (suc i) = w.goes i

    keeps : (k : ℕ) → k < S.promises → (i : ℕ) → (j : ℕ) × (i ≤ j) × S.Kept k (before r w.path j)
    keeps k h zero = let j = w.keeps k h 0 in (suc j.0, omega arith, j.2)
    keeps k h (suc i) = let j = w.keeps k h i in (suc j.0, omega arith, j.2)

-- what a fair path from a reachable state meets is livable
fair-livable : {S : System} {t : ℕ} (n s : ℕ) → ReachedIn S n s → FairPath S s t → Livable S t
fair-livable {S} zero s r w = record {
  run = w.path;
  moment = w.moment;
  there = w.there;
  obeys = record { run = record { starts = subst S.First (sym w.begins) r; goes = w.goes }; keeps = w.keeps };
}
fair-livable (suc n) s r w = fair-livable n r.0 r.1 (fair-before r.2 w)

-- What aim r asks of a state: aim 0 nothing, aim k + 1 that promise k is kept.
abbrev Goal : System → ℕ → ℕ → Type 0
Goal S zero s = Unit {0}
Goal S (suc k) s = S.Kept k s

-- A walker within U: where it stands, the aim it walks to, and the way it has left.
record Walker (S : System) (U : ℕ → Type 0) : Type 0 where
  state : ℕ
  aim : ℕ
  bounded : aim ≤ S.promises
  far : ℕ
  way : Way S U (Goal S aim) far state

module _ (S : System) (U : ℕ → Type 0) (saved : (r : ℕ) → r ≤ S.promises → (s : ℕ) → U s → SavedBy S U r s) where
  -- within U a way leads from each state to every goal
  way-to : (r : ℕ) → r ≤ S.promises → (s : ℕ) → U s → (n : ℕ) × Way S U (Goal S r) n s
  way-to zero h s u = (0, (u, tt))
  way-to (suc k) h s u = saved (suc k) h s u

  -- the walker that takes aim r
  taking : (r : ℕ) → r ≤ S.promises → (s : ℕ) → U s → Walker S U
  taking r h s u = let w = way-to r h s u in record { state = s; aim = r; bounded = h; far = w.0; way = w.1 }

  -- a move within U, after which aim r is taken
  afresh : (r : ℕ) → r ≤ S.promises → (s : ℕ) → U s → Walker S U
  afresh r h s u = let t = saved 0 zero-le s u in taking r h t.0 t.2

  -- one move: along the way, and at its end towards the next lower aim, after aim 0 towards the highest
  onward : (s r n : ℕ) → r ≤ S.promises → Way S U (Goal S r) n s → Walker S U
  onward s r (suc n) h w = record { state = w.1.0; aim = r; bounded = h; far = n; way = w.1.2 }
  onward s zero zero h w = afresh S.promises (omega arith) s w.0
  onward s (suc r) zero h w = afresh r (omega arith) s w.0

  onward-moves : (s r n : ℕ) (h : r ≤ S.promises) (w : Way S U (Goal S r) n s) → S.Move s (onward s r n h w).state
  unfolding onward afresh taking
  onward-moves s r (suc n) h w = w.1.1
  onward-moves s zero zero h w = (saved 0 zero-le s w.0).1
  onward-moves s (suc r) zero h w = (saved 0 zero-le s w.0).1

  step : Walker S U → Walker S U
  step x = onward x.state x.aim x.far x.bounded x.way

  walked : Walker S U → ℕ → Walker S U
  walked x zero = x
  walked x (suc i) = walked (step x) i

  walk-goes : (i : ℕ) (x : Walker S U) → S.Move (walked x i).state (walked x (suc i)).state
  unfolding walked step
  walk-goes zero x = onward-moves x.state x.aim x.far x.bounded x.way
  walk-goes (suc i) x = walk-goes i (step x)

  -- the walk from x some time meets P
  abbrev Meets : (ℕ → Type 0) → Walker S U → Type 0
  Meets P x = (i : ℕ) × P (walked x i).state

  -- what the walk meets after the next move it meets
  meets-later : (P : ℕ → Type 0) (x : Walker S U) → Meets P (step x) → Meets P x
  unfolding walked
  meets-later P x m = (suc m.0, m.1)

  -- whatever every walker that has come to aim r meets, every walker with aim r meets
  meets-through : (P : ℕ → Type 0) (r : ℕ) (h : r ≤ S.promises)
      → ((s : ℕ) (w : Way S U (Goal S r) 0 s) → Meets P (record { state = s; aim = r; bounded = h; far = 0; way = w }))
      → (n s : ℕ) (w : Way S U (Goal S r) n s) → Meets P (record { state = s; aim = r; bounded = h; far = n; way = w })
  unfolding step onward
  meets-through P r h come zero s w = come s w
  meets-through P r h come (suc n) s w = meets-later P _ (meets-through P r h come n w.1.0 w.1.2)

  -- walking down from an aim that is d above q, the walk comes to aim q
  meets-down : (P : ℕ → Type 0) (q : ℕ)
      → ((h : q ≤ S.promises) (s : ℕ) (w : Way S U (Goal S q) 0 s)
      → Meets P (record { state = s; aim = q; bounded = h; far = 0; way = w }))
      → (d r : ℕ) → d + q ≡ r → (h : r ≤ S.promises) (n s : ℕ) (w : Way S U (Goal S r) n s)
      → Meets P (record { state = s; aim = r; bounded = h; far = n; way = w })
  unfolding step onward afresh taking
  meets-down P q come zero r e h =
      let z : q ≡ r = omega arith in
      subst (λ (a : ℕ). (h : a ≤ S.promises) (n s : ℕ) (w : Way S U (Goal S a) n s)
      → Meets P (record { state = s; aim = a; bounded = h; far = n; way = w })) z (λ g. meets-through P q g (come g)) h
  meets-down P q come (suc d) zero e h = absurd (omega arith)
  meets-down P q come (suc d) (suc r) e h =
      meets-through P (suc r) h (λ s w. meets-later P _ (meets-down P q come d r (omega arith) _ _ _ _))

  -- the walk from any walker meets every goal
  meets-goal : (q : ℕ) → q ≤ S.promises → (x : Walker S U) → Meets (Goal S q) x
  unfolding step onward afresh taking walked
  meets-goal q h x = by (dec_le q x.aim)
    where
      come : (g : q ≤ S.promises) (s : ℕ) (w : Way S U (Goal S q) 0 s)
          → Meets (Goal S q) (record { state = s; aim = q; bounded = g; far = 0; way = w })
      come g s w = (0, w.1)

      by : Dec (q ≤ x.aim) → Meets (Goal S q) x
      by (yes l) = meets-down (Goal S q) q come (x.aim - q) x.aim (omega arith) _ _ _ _
      by (no l) = meets-down (Goal S q) 0
          (λ g s w. meets-later (Goal S q) _ (meets-down (Goal S q) q come (S.promises - q) S.promises (omega arith) _ _ _ _))
          x.aim x.aim (omega arith) _ _ _ _

  -- and meets it again and again
  walk-keeps : (k : ℕ) → k < S.promises → (i : ℕ) (x : Walker S U) → (j : ℕ) × (i ≤ j) × S.Kept k (walked x j).state
  unfolding walked
  walk-keeps k h zero x = let m = meets-goal (suc k) h x in (m.0, zero-le, m.1)
  walk-keeps k h (suc i) x = let m = walk-keeps k h i (step x) in (suc m.0, omega arith, m.2)

  -- a fair path within U leads from each state of U
  walk-fair : (s : ℕ) → U s → FairPath S s s
  unfolding walked taking
  walk-fair s u =
      let x : Walker S U = taking 0 zero-le s u in
      record {
        path = λ i. (walked x i).state;
        begins = refl;
        moment = 0;
        there = refl;
        goes = λ i. walk-goes i x;
        keeps = λ k h i. walk-keeps k h i x;
      }

-- Where U saves each of its states from every reason, an obeying run goes through each reachable state of U.
pub saved-livable : (S : System) (U : ℕ → Type 0) → ((r : ℕ) → r ≤ S.promises → (s : ℕ) → U s → SavedBy S U r s)
    → (s : ℕ) → Reachable S s → U s → Livable S s
saved-livable S U saved s r u = fair-livable r.0 s r.1 (walk-fair S U saved s u)

-- After a quiet round an obeying run goes through each state left.
pub left-livable : {S : System} (n : ℕ) → Quiet S n → {s : ℕ} → Left S n s → Livable S s
left-livable {S} n q {s} l = saved-livable S (Left S n) (quiet-saves S n q) s (left-reachable S n l) l

-- After a quiet round the states left are exactly the livable ones.
pub quiet-left-is-livable : {S : System} (n : ℕ) → Quiet S n → (s : ℕ) → Left S n s ↔ Livable S s
quiet-left-is-livable n q s = (left-livable n q, livable-left n)

-- After a quiet round nothing is struck ever again.
pub quiet-stays : (S : System) (n m : ℕ) → Quiet S n → n ≤ m → (s : ℕ) → Left S n s → Left S m s
quiet-stays S n m q h s l = livable-left m (left-livable {S = S} n q l)

-- Numbers in order have their quotients, then their remainders in order.
pub parts-rise : (c : ℕ) {a b : ℕ} → zero < c → a < b → (a / c < b / c) ⊎ ((a / c ≡ b / c) × (a % c < b % c))
parts-rise c {a} {b} pos h = by (dec_lt (a / c) (b / c)) (ℕ_discrete (a / c) (b / c))
  where
    by : Dec (a / c < b / c) → Dec (a / c ≡ b / c) → (a / c < b / c) ⊎ ((a / c ≡ b / c) × (a % c < b % c))
    by (yes q) d = inl q
    by (no q) (yes e) = inr (e, omega (arith, div-add-mod' a c, div-add-mod' b c, ap (λ (k : ℕ). k * c) e))
    by (no q) (no e) = absurd (omega (arith, (div-lt_iff_lt-mul {k = c} {x = b} {y = a / c} pos).0 (omega arith), div-mul-le_self a c))

-- Words ascend as phases do.
pub phase-word-rises : (S : System) → S.promises < 32 → (m n : ℕ) → m < n → word_of S m < word_of S n
phase-word-rises S h m n l = by (parts-rise (suc S.promises) (omega arith) l)
  where
    by : (m / suc S.promises < n / suc S.promises)
        ⊎ ((m / suc S.promises ≡ n / suc S.promises) × (m % suc S.promises < n % suc S.promises)) → word_of S m < word_of S n
    by (inl q) = omega (arith, reason-at-most S m)
    by (inr q) = omega arith

-- and never fall
phase-word-keeps : (S : System) → S.promises < 32 → (m n : ℕ) → m ≤ n → word_of S m ≤ word_of S n
phase-word-keeps S h m n l = by (dec_lt m n)
  where
    by : Dec (m < n) → word_of S m ≤ word_of S n
    by (yes q) = let r : word_of S m < word_of S n = phase-word-rises S h m n q in omega arith
    by (no q) = let e : m ≡ n = omega arith in le_of_eq (ap (word_of S) e)

-- A word's remainder by 32 is its phase's reason.
pub word-reason-is : (S : System) → S.promises < 32 → (n : ℕ) → word_of S n % 32 ≡ reason_of S n
word-reason-is S h n =
    let r : reason_of S n ≤ S.promises = reason-at-most S n in
    mul-add-mod_self_left 32 (round_of S n) (reason_of S n) ∙ mod-eq_of_lt (omega arith)

-- A next state of a reachable state is reachable.
pub reachable-on : (S : System) {s t : ℕ} → Reachable S s → S.Move s t → Reachable S t
reachable-on S {s = s} r m = (suc r.0, (s, r.1, m))

module _ (S : System) (states words : List ℕ) (small : S.promises < 32) (L : StrikeList S states words) where
  -- a next state that is not left before phase b is listed with the word of a phase before b
  next-listed : (n b s t : ℕ) → Left S n s → S.Move s t → (Left S b t → ⊥) → (i : ℕ) × (i < b)
      × Listed states words (λ w. w ≡ word_of S i) t
  next-listed n b s t l m gone = by (L.whole t (reachable-on S (left-reachable S n l) m))
    where
      by : In states t → (i : ℕ) × (i < b) × Listed states words (λ w. w ≡ word_of S i) t
      by j = at (L.struck j.0 j.1) (dec_lt (L.struck j.0 j.1).0 b)
        where
          at : (k : (i : ℕ) × Struck S i (get_or states j.0 0) × (get_or words j.0 0 ≡ word_of S i)) → Dec (k.0 < b)
              → (i : ℕ) × (i < b) × Listed states words (λ w. w ≡ word_of S i) t
          at k (yes h) = (k.0, h, (j.0, j.1, j.2, k.2))
          at k (no h) = absurd (gone (left-earlier S b k.0 t (omega arith) (subst (Left S k.0) j.2 k.1.0)))

  -- an entry struck in phase n for reason r shows what it must
  entry-right : (n s : ℕ) → Left S n s → (r : ℕ) → reason_of S n ≡ r → (SavedBy S (Left S n) r s → ⊥) → EntryRight S states words r
      (word_of S n) s
  entry-right n s l zero e none = λ t m.
      let k = next-listed n n s t l m (λ u. none (t, m, u)) in
      (k.2.0, k.2.1, k.2.2, rw k.2.3 (phase-word-rises S small k.0 n k.1))
  entry-right n s l (suc i) e none = (
    (λ kept. none (0, (l, kept))),
    (λ t m.
        let k = next-listed n (suc n) s t l m
        (λ u. let v : SavedBy S (Left S n) (suc i) t = rw e at u.1 in none (suc v.0, (l, (t, m, v.1)))) in
        (k.2.0, k.2.1, k.2.2, rw k.2.3 (phase-word-keeps S small k.0 n (omega arith)))),
  )

-- The judge's strike list is accepted, where reachable states are lawful and the reason fits into a word.
pub strike-list-accepted : {S : System} {states words : List ℕ} → ((s : ℕ) → Reachable S s → S.Lawful s) → S.promises < 32
    → StrikeList S states words → StrikesAccepted S states words
strike-list-accepted {S} {states} {words} lawful small L = record {
  as_many = L.as_many;
  rising = λ i h. ⊎_elim (λ g. le_of_lt g) (λ g. le_of_eq g.0) (L.ordered i h);
  lawful = λ i h. let k = L.struck i h in lawful (get_or states i 0) (left-reachable S k.0 k.1.0);
  reasons = λ i h. let k = L.struck i h in rw (k.2, word-reason-is S small k.0) (reason-at-most S k.0);
  firsts = λ s f. L.whole s (0, f);
  entries = λ i h. let k = L.struck i h in rw (k.2, word-reason-is S small k.0)
      (entry-right S states words small L k.0 (get_or states i 0) k.1.0 (reason_of S k.0) refl k.1.1);
}

-- Where the strike list lists all reachable states, the sheet cannot be kept.
pub strike-list-no-run : {S : System} {states words : List ℕ} → StrikeList S states words → CanBeKept S → ⊥
strike-list-no-run L r =
    let j = L.whole (r.0 0) (0, r.1.run.starts) in
    let k = L.struck j.0 j.1 in
    struck-not-livable k.0 k.1 (record { run = r.0; obeys = r.1; moment = 0; there = sym j.2 })
