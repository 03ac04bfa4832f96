-- The strike list: there is at most one, over a finite system with fewer than 32 promises there is one as soon as nothing is left, and it
-- has as many entries as there are reachable states. Two lists in strict order of (word, state) with the same entries are equal; the
-- list is made from the struck pairs' keys, phase * N + state, which ascend as the entries do. Assumes nothing.
use mathlib.Core.Path.{◌≡◌, refl, sym, ap, subst, subst₂, ◌∙◌}
use mathlib.Core.Logic.{◌⊎◌, inl, inr}
use mathlib.Core.List.{List, [], ◌∷◌, map}
use Prim.Native.Nat.{ℕ, zero, suc, ◌+◌, ◌*◌, ◌/◌, ◌%◌, ◌<◌}
use native.Mathlib.Decide.{dec_lt}
use native.Mathlib.Nat.{div-lt_iff_lt-mul}
use native.Mathlib.Omega.{arith}
use lib.Arith.{digits_div, digits_mod}
use lib.ListN.{length, get_or, length-map}
use lib.Seq.{ext_get_or}
use Rattle.meaning.specs.System.{System, Reachable, In, Lists, Number, Finite}
use Rattle.meaning.specs.Strike.{word_of, Left, Struck, StrikeList}
use Rattle.meaning.proofs.Lists.{Inside, rising-apart, rising-shorter, rising-same, distinct-number, number_same, lists-exist}
use Rattle.meaning.proofs.Decide.{reachable-below, struck?, struck-or-left}
use Rattle.meaning.proofs.Rounds.{left-reachable, left-earlier, struck-once, parts-rise, phase-word-rises}

-- the order of entries: by word, then by state
abbrev Before : ℕ × ℕ → ℕ × ℕ → Type 0
Before a b = (a.0 < b.0) ⊎ ((a.0 ≡ b.0) × (a.1 < b.1))

before-through : (a b c : ℕ × ℕ) → Before a b → Before b c → Before a c
before-through a b c (inl p) (inl q) = inl (omega arith)
before-through a b c (inl p) (inr (q, r)) = inl (omega arith)
before-through a b c (inr (p, r)) (inl q) = inl (omega arith)
before-through a b c (inr (p, r)) (inr (q, t)) = inr (omega arith, omega arith)

before-strict : (a : ℕ × ℕ) → Before a a → ⊥
before-strict a (inl p) = omega arith
before-strict a (inr (p, q)) = omega arith

abbrev entry : List ℕ → List ℕ → ℕ → ℕ × ℕ
entry states words i = (get_or words i 0, get_or states i 0)

-- A state has the same word wherever it is listed, in this strike list or another.
pub one-word-per-state : {S : System} {states words states' words' : List ℕ} → StrikeList S states words → StrikeList S states' words'
    → (i j : ℕ) → i < length states → j < length states' → get_or states i 0 ≡ get_or states' j 0 → get_or words i 0 ≡ get_or words' j 0
one-word-per-state {S} {states} {words} {states'} {words'} L M i j h k e = by (L.struck i h) (M.struck j k)
  where
    by : (n : ℕ) × Struck S n (get_or states i 0) × (get_or words i 0 ≡ word_of S n)
        → (n : ℕ) × Struck S n (get_or states' j 0) × (get_or words' j 0 ≡ word_of S n) → get_or words i 0 ≡ get_or words' j 0
    by (m, a, u) (n, b, v) = u ∙ ap (word_of S) (struck-once S m n (get_or states' j 0) (subst (Struck S m) e a) b) ∙ sym v

-- The listed states are reachable.
pub strike-list-reachable : {S : System} {states words : List ℕ} → StrikeList S states words → (i : ℕ) → i < length states
    → Reachable S (get_or states i 0)
strike-list-reachable {S} L i h = let k = L.struck i h in left-reachable S k.0 k.1.0

strike-list-inside : {S : System} {states words states' words' : List ℕ} → StrikeList S states words → StrikeList S states' words'
    → Inside (entry states words) (length states) (entry states' words') (length states')
strike-list-inside {states} {words} {states'} {words'} L M i h = by (M.whole (get_or states i 0) (strike-list-reachable L i h))
  where
    by : In states' (get_or states i 0) → (j : ℕ) × (j < length states') × (entry states' words' j ≡ entry states words i)
    by (j, k, e) = (j, k, λ d. (one-word-per-state M L j i k h e d, e d))

-- There is at most one strike list.
pub strike-list-unique : {S : System} {states words states' words' : List ℕ} → StrikeList S states words → StrikeList S states' words'
    → (states ≡ states') × (words ≡ words')
strike-list-unique {states} {words} {states'} {words'} L M = (
  ext_get_or 0 states states' long (λ i h. ap (λ (e : ℕ × ℕ). e.1) (same i h)),
  ext_get_or 0 words words' (L.as_many ∙ long ∙ sym M.as_many) (λ i h. ap (λ (e : ℕ × ℕ). e.0) (same i (omega (arith, L.as_many)))),
)
  where
    there : Inside (entry states words) (length states) (entry states' words') (length states')
    there = strike-list-inside L M

    back : Inside (entry states' words') (length states') (entry states words) (length states)
    back = strike-list-inside M L

    long : length states ≡ length states'
    long = omega (
      arith,
      rising-shorter Before before-through before-strict {f = entry states words} {g = entry states' words'} L.ordered
          M.ordered there,
      rising-shorter Before before-through before-strict {f = entry states' words'} {g = entry states words} M.ordered L.ordered back,
    )

    same : (i : ℕ) → i < length states → entry states words i ≡ entry states' words' i
    same = rising-same Before before-through before-strict {f = entry states words} {g = entry states' words'} L.ordered
        M.ordered there back

-- A strike list has as many entries as there are reachable states.
pub strike-list-number : {S : System} {states words : List ℕ} → StrikeList S states words → Number (Reachable S) (length states)
strike-list-number {S} {states} {words} L = number_same (λ s. (there s, L.whole s)) (distinct-number states apart)
  where
    there : (s : ℕ) → In states s → Reachable S s
    there s (i, h, e) = subst (Reachable S) e (strike-list-reachable L i h)

    clash : (i j : ℕ) → get_or words i 0 ≡ get_or words j 0 → get_or states i 0 ≡ get_or states j 0 → Before (entry states words i)
        (entry states words j) → ⊥
    clash i j e h (inl b) = omega arith
    clash i j e h (inr (b, c)) = omega arith

    apart : (i j : ℕ) → i < j → j < length states → get_or states i 0 ≡ get_or states j 0 → ⊥
    apart i j h k e = clash i j (one-word-per-state L L i j (omega arith) k e) e
        (rising-apart Before before-through before-strict {f = entry states words} {n = length states} L.ordered i j h k)

-- get_or of a mapped list, within it
get_or-map-within : (f : ℕ → ℕ) (l : List ℕ) (i : ℕ) → i < length l → get_or (map f l) i 0 ≡ f (get_or l i 0)
get_or-map-within f [] i h = absurd (omega arith)
get_or-map-within f (x ∷ l) zero h = refl
get_or-map-within f (x ∷ l) (suc i) h = get_or-map-within f l i (omega arith)

-- the pair of a phase and a state struck in it, as one number
abbrev Key : System → ℕ → ℕ → Type 0
Key S N k = Struck S (k / N) (k % N)

-- the list of all keys, read as states and words, is the strike list
keys-strike-list : (S : System) (N : ℕ) (keys : List ℕ) → zero < N → S.promises < 32 → Lists (Key S N) keys
    → ((s : ℕ) → Reachable S s → (m : ℕ) × (s < N) × Struck S m s) → StrikeList S (map (λ k. k % N) keys) (map (λ k. word_of S (k / N)) keys)
keys-strike-list S N keys pos few L strikes = record {
  as_many = length-map keys word ∙ sym long;
  ordered = order;
  struck = hit;
  whole = found;
}
  where
    state : ℕ → ℕ
    state k = k % N

    word : ℕ → ℕ
    word k = word_of S (k / N)

    long : length (map state keys) ≡ length keys
    long = length-map keys state

    state-at : (i : ℕ) → i < length keys → get_or (map state keys) i 0 ≡ state (get_or keys i 0)
    state-at i h = get_or-map-within state keys i h

    word_at : (i : ℕ) → i < length keys → get_or (map word keys) i 0 ≡ word (get_or keys i 0)
    word_at i h = get_or-map-within word keys i h

    in_order : (a b : ℕ) → (a / N < b / N) ⊎ ((a / N ≡ b / N) × (a % N < b % N)) → Before (word a, state a) (word b, state b)
    in_order a b (inl h) = inl (phase-word-rises S few (a / N) (b / N) h)
    in_order a b (inr (e, h)) = inr (ap (word_of S) e, h)

    order : (i : ℕ) → suc i < length (map state keys) → Before (entry (map state keys) (map word keys) i)
        (entry (map state keys) (map word keys) (suc i))
    order i h =
        let here : i < length keys = omega (arith, long) in
        let next : suc i < length keys = omega (arith, long) in
        rw (word_at i here, word_at (suc i) next, state-at i here, state-at (suc i) next)
        (in_order (get_or keys i 0) (get_or keys (suc i) 0) (parts-rise N pos (L.rises i next)))

    hit : (i : ℕ) → i < length (map state keys) → (m : ℕ) × Struck S m (get_or (map state keys) i 0) × (get_or (map word keys) i 0 ≡ word_of S m)
    hit i h =
        let here : i < length keys = omega (arith, long) in
        (get_or keys i 0 / N, subst (Struck S (get_or keys i 0 / N)) (sym (state-at i here)) (L.sound i here), word_at i here)

    read : (s m : ℕ) → s < N → In keys (m * N + s) → In (map state keys) s
    read s m h (i, here, e) = (i, omega (arith, long), state-at i here ∙ ap state e ∙ digits_mod m h)

    found : (s : ℕ) → Reachable S s → In (map state keys) s
    found s r = by (strikes s r)
      where
        by : (m : ℕ) × (s < N) × Struck S m s → In (map state keys) s
        by (m, h, k) = read s m h (L.whole (m * N + s) (subst₂ (Struck S) (sym (digits_div m h)) (sym (digits_mod m h)) k))

-- Over a finite system with fewer than 32 promises, if nothing is left before some phase, the strike list exists.
pub strike-list-exists : {S : System} → Finite S → S.promises < 32 → (n : ℕ) → ((s : ℕ) → Left S n s → ⊥)
    → (states : List ℕ) × (words : List ℕ) × StrikeList S states words
strike-list-exists {S} F few n none = (
  map (λ k. k % N) all.0,
  map (λ k. word_of S (k / N)) all.0,
  keys-strike-list S N all.0 (omega arith) few all.1 (λ s r. strikes s r (struck-or-left F n r)),
)
  where
    N : ℕ
    N = suc F.bound

    early : (k : ℕ) → Key S N k → Dec (k / N < n) → k / N < n
    early k s (yes h) = h
    early k s (no h) = absurd (none (k % N) (left-earlier S n (k / N) (k % N) (omega arith) s.0))

    all : (l : List ℕ) × Lists (Key S N) l
    all = lists-exist (λ k. struck? F (k / N) (k % N)) (n * N)
        (λ k s. (div-lt_iff_lt-mul {k = N} {x = k} {y = n} (omega arith)).0 (early k s (dec_lt (k / N) n)))

    strikes : (s : ℕ) → Reachable S s → ((m : ℕ) × (m < n) × Struck S m s) ⊎ Left S n s → (m : ℕ) × (s < N) × Struck S m s
    strikes s r (inl (m, h, k)) = (m, (let small = reachable-below F r in omega arith), k)
    strikes s r (inr l) = absurd (none s l)
