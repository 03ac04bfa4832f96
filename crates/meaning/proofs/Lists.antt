-- Laws of lists of numbers: rising lists, and the records `Lists` and `Number` of the meaning.
-- Proved: a decidable predicate below a bound is listed by exactly one list and has exactly one number; a rising list of its members,
-- and any list of distinct ones, is no longer than that number. `rising-place` carries every comparison of two rising lists, over any
-- strict order: a rising list inside another has its i-th element at place i or later. Lists are made by inserting one number after
-- the other. Assumes nothing.
use mathlib.Core.Path.{◌≡◌, refl, sym, ap, subst, ◌∙◌}
use mathlib.Core.Logic.{◌↔◌, ◌⊎◌, inl, inr}
use mathlib.Core.List.{List, [], ◌∷◌}
use Prim.Native.Nat.{ℕ, zero, suc, ◌≤◌, ◌<◌}
use native.Mathlib.Decide.{dec_lt, ℕ_discrete}
use native.Mathlib.Omega.{arith}
use lib.ListN.{length, get_or}
use lib.Seq.{ext_get_or}
use Rattle.meaning.specs.System.{In, Lists, Number}
use Rattle.meaning.proofs.Search.{any_below}

-- Whether a list holds x.
pub in? : (l : List ℕ) (x : ℕ) → Dec (In l x)
in? l x = any_below {P = λ i. get_or l i 0 ≡ x} (λ i. ℕ_discrete (get_or l i 0) x) (length l)

-- the first n of f rise by R
abbrev pub Rising : {A : Type 0} → (A → A → Type 0) → (ℕ → A) → ℕ → Type 0
Rising R f n = (i : ℕ) → suc i < n → R (f i) (f (suc i))

-- the first n of f are all among the first m of g
abbrev pub Inside : {A : Type 0} → (ℕ → A) → ℕ → (ℕ → A) → ℕ → Type 0
Inside f n g m = (i : ℕ) → i < n → (j : ℕ) × (j < m) × (g j ≡ f i)

-- Rising sequences over any strict order: two of them are compared place by place.
module _ {A : Type 0} (R : A → A → Type 0) (through : (a b c : A) → R a b → R b c → R a c) (strict : (a : A) → R a a → ⊥) where
  -- An earlier place stands below a later one.
  pub rising-apart : {f : ℕ → A} {n : ℕ} → Rising R f n → (i j : ℕ) → i < j → j < n → R (f i) (f j)
  rising-apart r i zero l m = absurd (omega arith)
  rising-apart {f} {n} r i (suc j) l m = by (ℕ_discrete i j) (λ q. rising-apart {f = f} {n = n} r i j q (omega arith))
    where
      by : Dec (i ≡ j) → (i < j → R (f i) (f j)) → R (f i) (f (suc j))
      by (yes e) g = subst (λ k. R (f k) (f (suc j))) (sym e) (r j m)
      by (no e) g = through (f i) (f j) (f (suc j)) (g (omega arith)) (r j m)

  -- Entries in order stand at places in order.
  pub rising-reflects : {f : ℕ → A} {n : ℕ} → Rising R f n → (i j : ℕ) → i < n → R (f i) (f j) → i < j
  rising-reflects {f} r i j l e = by (dec_lt i j) (ℕ_discrete i j)
    where
      by : Dec (i < j) → Dec (i ≡ j) → i < j
      by (yes q) d = q
      by (no q) (yes p) = absurd (strict (f j) (subst (λ k. R (f k) (f j)) p e))
      by (no q) (no p) = absurd (strict (f i) (through (f i) (f j) (f i) e (rising-apart {f = f} r j i (omega arith) l)))

  -- A rising sequence inside another has its i-th element at place i or later.
  pub rising-place : {f g : ℕ → A} {n m : ℕ} → Rising R f n → Rising R g m → Inside f n g m
      → (i : ℕ) → i < n → (j : ℕ) × (i ≤ j) × (j < m) × (g j ≡ f i)
  rising-place r q inside zero l = ((inside 0 l).0, omega arith, (inside 0 l).1, (inside 0 l).2)
  rising-place {f} {g} {n} {m} r q inside (suc i) l = by (rising-place {f = f} {g = g} r q inside i (omega arith)) (inside (suc i) l)
    where
      by : (j : ℕ) × (i ≤ j) × (j < m) × (g j ≡ f i) → (j : ℕ) × (j < m) × (g j ≡ f (suc i))
          → (j : ℕ) × (suc i ≤ j) × (j < m) × (g j ≡ f (suc i))
      by (j, a, b, e) (k, c, h) =
          let after : j < k = rising-reflects {f = g} q j k b (subst (λ x. R x (g k)) (sym e) (subst (λ x. R (f i) x) (sym h) (r i l))) in
          (k, omega arith, c, h)

  -- A rising sequence inside another is no longer.
  pub rising-shorter : {f g : ℕ → A} {n m : ℕ} → Rising R f n → Rising R g m → Inside f n g m → n ≤ m
  rising-shorter {n = zero} r q inside = omega arith
  rising-shorter {f} {g} {n = suc n} r q inside =
      let last = rising-place {f = f} {g = g} r q inside n (omega arith) in
      let a = last.1 in
      let b = last.2 in
      omega arith

  -- Two rising sequences inside one another agree at every place.
  pub rising-same : {f g : ℕ → A} {n m : ℕ} → Rising R f n → Rising R g m → Inside f n g m → Inside g m f n → (i : ℕ) → i < n → f i ≡ g i
  rising-same {f} {g} {n} {m} r q there back i l = by (rising-place {f = f} {g = g} r q there i l)
    where
      both : (j k : ℕ) → j < m → k < n → i ≤ j → i ≤ k → g j ≡ f i → f k ≡ g i → Dec (i ≡ j) → Dec (i ≡ k) → f i ≡ g i
      both j k _ _ _ _ e h (yes p) d = subst (λ x. f i ≡ g x) (sym p) (sym e)
      both j k _ _ _ _ e h (no p) (yes d) = subst (λ x. f x ≡ g i) (sym d) h
      both j k a b c o e h (no p) (no d) = absurd (strict (f i) (through (f i) (f k) (f i) up
          (subst (λ x. R x (f i)) (sym h) (subst (λ x. R (g i) x) e down))))
        where
          up : R (f i) (f k)
          up = rising-apart {f = f} r i k (omega arith) b

          down : R (g i) (g j)
          down = rising-apart {f = g} q i j (omega arith) a

      by : (j : ℕ) × (i ≤ j) × (j < m) × (g j ≡ f i) → f i ≡ g i
      by (j, a, b, e) =
          let other = rising-place {f = g} {g = f} q r back i (omega arith) in
          both j other.0 b other.2 a other.1 e other.3 (ℕ_discrete i j) (ℕ_discrete i other.0)

-- the order of numbers is one
lt-through : (a b c : ℕ) → a < b → b < c → a < c
lt-through a b c p q = omega arith

lt_strict : (a : ℕ) → a < a → ⊥
lt_strict a p = omega arith

-- a complete list of P has what any list of members of P has
lists-hold : {P : ℕ → Type 0} {m : List ℕ} (l : List ℕ) → ((i : ℕ) → i < length l → P (get_or l i 0)) → Lists P m
    → Inside (λ i. get_or l i 0) (length l) (λ i. get_or m i 0) (length m)
lists-hold l inside L i h = L.whole (get_or l i 0) (inside i h)

-- A strictly rising list of members of P is no longer than a list of all.
pub rising-within-list : {P : ℕ → Type 0} {m : List ℕ} (l : List ℕ) → ((i : ℕ) → suc i < length l → get_or l i 0 < get_or l (suc i) 0)
    → ((i : ℕ) → i < length l → P (get_or l i 0)) → Lists P m → length l ≤ length m
rising-within-list {m} l rises inside L =
    rising-shorter ◌<◌ lt-through lt_strict {f = λ i. get_or l i 0} {g = λ i. get_or m i 0} rises L.rises (lists-hold l inside L)

-- Lists of two predicates that agree are equal.
pub lists_agree : {P Q : ℕ → Type 0} {l m : List ℕ} → ((x : ℕ) → P x ↔ Q x) → Lists P l → Lists Q m → l ≡ m
lists_agree {P} {Q} {l} {m} same L M = ext_get_or 0 l m long
    (rising-same ◌<◌ lt-through lt_strict {f = λ i. get_or l i 0} {g = λ i. get_or m i 0} L.rises M.rises (lists-hold l there M)
    (lists-hold m back L))
  where
    there : (i : ℕ) → i < length l → Q (get_or l i 0)
    there i h = (same (get_or l i 0)).0 (L.sound i h)

    back : (i : ℕ) → i < length m → P (get_or m i 0)
    back i h = (same (get_or m i 0)).1 (M.sound i h)

    long : length l ≡ length m
    long = omega (arith, rising-within-list l L.rises there M, rising-within-list m M.rises back L)

-- A predicate has at most one list.
pub lists-unique : {P : ℕ → Type 0} {l m : List ℕ} → Lists P l → Lists P m → l ≡ m
lists-unique L M = lists_agree (λ x. (λ p. p, λ p. p)) L M

-- A predicate has at most one number.
pub number-unique : {P : ℕ → Type 0} {m n : ℕ} → Number P m → Number P n → m ≡ n
number-unique M N = sym M.counted ∙ ap length (lists-unique M.lists N.lists) ∙ N.counted

-- A strictly rising list of members of P is no longer than their number.
pub rising-within-number : {P : ℕ → Type 0} {n : ℕ} (l : List ℕ) → ((i : ℕ) → suc i < length l → get_or l i 0 < get_or l (suc i) 0)
    → ((i : ℕ) → i < length l → P (get_or l i 0)) → Number P n → length l ≤ n
rising-within-number l rises inside N = subst (λ k. length l ≤ k) N.counted (rising-within-list l rises inside N.lists)

-- The larger predicate has the larger number.
pub number-mono : {P Q : ℕ → Type 0} {m n : ℕ} → ((x : ℕ) → P x → Q x) → Number P m → Number Q n → m ≤ n
number-mono {n} inside M N = subst (λ k. k ≤ n) M.counted
    (rising-within-number M.list M.lists.rises (λ i h. inside (get_or M.list i 0) (M.lists.sound i h)) N)

-- What lists P lists every predicate that agrees with it.
pub lists-same : {P Q : ℕ → Type 0} {l : List ℕ} → ((x : ℕ) → P x ↔ Q x) → Lists P l → Lists Q l
lists-same {l} same L = record {
  rises = L.rises;
  sound = λ i h. (same (get_or l i 0)).0 (L.sound i h);
  whole = λ x q. L.whole x ((same x).1 q);
}

-- Predicates that agree have the same number.
pub number_same : {P Q : ℕ → Type 0} {n : ℕ} → ((x : ℕ) → P x ↔ Q x) → Number P n → Number Q n
number_same same N = record { list = N.list; lists = lists-same same N.lists; counted = N.counted }

-- the empty list lists what holds of nothing
lists-none : {P : ℕ → Type 0} → ((x : ℕ) → P x → ⊥) → Lists P []
lists-none none = record { rises = λ i h. absurd (omega arith); sound = λ i h. absurd (omega arith); whole = λ x p. absurd (none x p) }

-- a number below all of Q, put in front
lists-cons : {Q : ℕ → Type 0} {l : List ℕ} {x : ℕ} → ((y : ℕ) → Q y → x < y) → Lists Q l → Lists (λ y. (x ≡ y) ⊎ Q y) (x ∷ l)
lists-cons {Q} {l} {x} below L = record { rises = rise; sound = member; whole = found }
  where
    rise : (i : ℕ) → suc i < length (x ∷ l) → get_or (x ∷ l) i 0 < get_or l i 0
    rise zero h = below (get_or l 0 0) (L.sound 0 (omega arith))
    rise (suc i) h = L.rises i (omega arith)

    member : (i : ℕ) → i < length (x ∷ l) → (x ≡ get_or (x ∷ l) i 0) ⊎ Q (get_or (x ∷ l) i 0)
    member zero h = inl refl
    member (suc i) h = inr (L.sound i (omega arith))

    later : (y : ℕ) → In l y → In (x ∷ l) y
    later y (i, h, e) = (suc i, omega arith, e)

    found : (y : ℕ) → (x ≡ y) ⊎ Q y → In (x ∷ l) y
    found y (inl e) = (0, omega arith, e)
    found y (inr q) = later y (L.whole y q)

-- without its head, a list lists what lies above the head
lists-tail : {P : ℕ → Type 0} {l : List ℕ} {x : ℕ} → Lists P (x ∷ l) → Lists (λ y. P y × x < y) l
lists-tail {P} {l} {x} L = record {
  rises = λ i h. L.rises (suc i) (omega arith);
  sound = λ i h. (L.sound (suc i) (omega arith), above i h);
  whole = λ y p. later y p.1 (L.whole y p.0);
}
  where
    above : (i : ℕ) → i < length l → x < get_or l i 0
    above i h = rising-apart ◌<◌ lt-through lt_strict {f = λ j. get_or (x ∷ l) j 0} {n = length (x ∷ l)} L.rises 0 (suc i) (omega arith)
        (omega arith)

    later : (y : ℕ) → x < y → In (x ∷ l) y → In l y
    later y a (zero, h, e) = absurd (omega arith)
    later y a (suc i, h, e) = (i, omega arith, e)

-- the head is a member, and every member is the head or above it
lists-head : {P : ℕ → Type 0} {l : List ℕ} {x : ℕ} → Lists P (x ∷ l) → (y : ℕ) → P y → (x ≡ y) ⊎ (P y × x < y)
lists-head {P} {l} {x} L y p = by (L.whole y p)
  where
    by : In (x ∷ l) y → (x ≡ y) ⊎ (P y × x < y)
    by (zero, h, e) = inl e
    by (suc i, h, e) = inr (p, subst (λ z. x < z) e ((lists-tail L).sound i (omega arith)).1)

-- One more number goes into a list at its place.
pub lists-insert : {P : ℕ → Type 0} (l : List ℕ) (x : ℕ) → Lists P l → (P x → ⊥)
    → (m : List ℕ) × Lists (λ y. (x ≡ y) ⊎ P y) m × (length m ≡ suc (length l))
lists-insert {P} [] x L out = (x ∷ [], lists-cons (λ y p. let z = (L.whole y p).1 in omega arith) L, refl)
lists-insert {P} (z ∷ l) x L out = by (dec_lt x z) (ℕ_discrete x z) (lists-insert l x (lists-tail L) (λ p. out p.0))
  where
    above : x < z → (y : ℕ) → (z ≡ y) ⊎ (P y × z < y) → x < y
    above h y (inl e) = omega arith
    above h y (inr p) = let q = p.1 in omega arith

    further : z < x → (y : ℕ) → (x ≡ y) ⊎ (P y × z < y) → z < y
    further h y (inl e) = omega arith
    further h y (inr p) = p.1

    there : (y : ℕ) → (z ≡ y) ⊎ ((x ≡ y) ⊎ (P y × z < y)) → (x ≡ y) ⊎ P y
    there y (inl e) = inr (subst P e (L.sound 0 (omega arith)))
    there y (inr (inl e)) = inl e
    there y (inr (inr p)) = inr p.0

    old : (y : ℕ) → (z ≡ y) ⊎ (P y × z < y) → (z ≡ y) ⊎ ((x ≡ y) ⊎ (P y × z < y))
    old y (inl e) = inl e
    old y (inr p) = inr (inr p)

    back : (y : ℕ) → (x ≡ y) ⊎ P y → (z ≡ y) ⊎ ((x ≡ y) ⊎ (P y × z < y))
    back y (inl e) = inr (inl e)
    back y (inr p) = old y (lists-head L y p)

    by : Dec (x < z) → Dec (x ≡ z) → (m : List ℕ) × Lists (λ y. (x ≡ y) ⊎ (P y × z < y)) m × (length m ≡ suc (length l))
        → (m : List ℕ) × Lists (λ y. (x ≡ y) ⊎ P y) m × (length m ≡ suc (suc (length l)))
    by (yes h) d rest = (x ∷ z ∷ l, lists-cons (λ y p. above h y (lists-head L y p)) L, refl)
    by (no h) (yes e) rest = absurd (out (subst P (sym e) (L.sound 0 (omega arith))))
    by (no h) (no e) (m, M, c) = (z ∷ m, lists-same (λ y. (there y, back y)) (lists-cons (further (omega arith)) M), ap suc c)

-- One more member makes the number one larger.
pub number-insert : {P : ℕ → Type 0} {n : ℕ} (x : ℕ) → Number P n → (P x → ⊥) → Number (λ y. (x ≡ y) ⊎ P y) (suc n)
number-insert x N out =
    let more = lists-insert N.list x N.lists out in
    record { list = more.0; lists = more.1; counted = more.2 ∙ ap suc N.counted }

-- A larger predicate with a member more has a larger number.
pub number-grows : {P Q : ℕ → Type 0} {m n : ℕ} (x : ℕ) → ((y : ℕ) → P y → Q y) → (P x → ⊥) → Q x → Number P m → Number Q n → m < n
number-grows {P} {Q} x inside out new M N = number-mono into (number-insert x M out) N
  where
    into : (y : ℕ) → (x ≡ y) ⊎ P y → Q y
    into y (inl e) = subst Q e new
    into y (inr p) = inside y p

-- A list of distinct numbers is as long as they are many.
pub distinct-number : (l : List ℕ) → ((i j : ℕ) → i < j → j < length l → get_or l i 0 ≡ get_or l j 0 → ⊥) → Number (In l) (length l)
distinct-number [] apart = record { list = []; lists = lists-none (λ x p. let h = p.1 in omega arith); counted = refl }
distinct-number (x ∷ l) apart = number_same (λ y. (there y, back y)) (number-insert x
    (distinct-number l (λ i j h k e. apart (suc i) (suc j) (omega arith) (omega arith) e))
    (λ p. apart 0 (suc p.0) (omega arith) (let h = p.1 in omega arith) (sym p.2)))
  where
    there : (y : ℕ) → (x ≡ y) ⊎ In l y → In (x ∷ l) y
    there y (inl e) = (0, omega arith, e)
    there y (inr (i, h, e)) = (suc i, omega arith, e)

    back : (y : ℕ) → In (x ∷ l) y → (x ≡ y) ⊎ In l y
    back y (zero, h, e) = inl e
    back y (suc i, h, e) = inr (i, omega arith, e)

-- A list of distinct members of P is no longer than their number.
pub distinct-within-number : {P : ℕ → Type 0} {n : ℕ} (l : List ℕ) → ((i j : ℕ) → i < j → j < length l → get_or l i 0 ≡ get_or l j 0 → ⊥)
    → ((i : ℕ) → i < length l → P (get_or l i 0)) → Number P n → length l ≤ n
distinct-within-number {P} l apart inside N = number-mono (λ x p. subst P p.2 (inside p.0 p.1)) (distinct-number l apart) N

-- The numbers below n are n.
pub number-below : (n : ℕ) → Number (λ x. x < n) n
number-below zero = record { list = []; lists = lists-none (λ x p. omega arith); counted = refl }
number-below (suc n) = number_same (λ y. (there y, λ h. back y (ℕ_discrete n y) h)) (number-insert n (number-below n) (lt_strict n))
  where
    there : (y : ℕ) → (n ≡ y) ⊎ (y < n) → y < suc n
    there y (inl e) = omega arith
    there y (inr h) = omega arith

    back : (y : ℕ) → Dec (n ≡ y) → y < suc n → (n ≡ y) ⊎ (y < n)
    back y (yes e) h = inl e
    back y (no e) h = inr (omega arith)

-- the list of what has P below n
list-below : {P : ℕ → Type 0} → ((x : ℕ) → Dec (P x)) → (n : ℕ) → (l : List ℕ) × Lists (λ x. P x × x < n) l
list-below d zero = ([], lists-none (λ x p. let h = p.1 in omega arith))
list-below {P} d (suc n) = by (d n) (list-below d n)
  where
    by : Dec (P n) → (l : List ℕ) × Lists (λ x. P x × x < n) l → (l : List ℕ) × Lists (λ x. P x × x < suc n) l
    by (yes p) (l, L) =
        let more = lists-insert l n L (λ q. lt_strict n q.1) in
        (more.0, lists-same (λ y. (there y, λ q. back y (ℕ_discrete n y) q)) more.1)
      where
        there : (y : ℕ) → (n ≡ y) ⊎ (P y × y < n) → P y × y < suc n
        there y (inl e) = (subst P e p, omega arith)
        there y (inr (q, h)) = (q, omega arith)

        back : (y : ℕ) → Dec (n ≡ y) → P y × y < suc n → (n ≡ y) ⊎ (P y × y < n)
        back y (yes e) q = inl e
        back y (no e) (q, h) = inr (q, omega arith)
    by (no p) (l, L) = (l, lists-same (λ y. (λ q. (q.0, (let h = q.1 in omega arith)), λ q. back y (ℕ_discrete n y) q)) L)
      where
        back : (y : ℕ) → Dec (n ≡ y) → P y × y < suc n → P y × y < n
        back y (yes e) q = absurd (p (subst P (sym e) q.0))
        back y (no e) (q, h) = (q, omega arith)

-- A decidable predicate below a bound has a list.
pub lists-exist : {P : ℕ → Type 0} → ((x : ℕ) → Dec (P x)) → (n : ℕ) → ((x : ℕ) → P x → x < n) → (l : List ℕ) × Lists P l
lists-exist d n below =
    let found = list-below d n in
    (found.0, lists-same (λ x. (λ q. q.0, λ p. (p, below x p))) found.1)

-- A decidable predicate below a bound has a number.
pub number-exists : {P : ℕ → Type 0} → ((x : ℕ) → Dec (P x)) → (n : ℕ) → ((x : ℕ) → P x → x < n) → (m : ℕ) × Number P m
number-exists d n below =
    let found = lists-exist d n below in
    (length found.0, record { list = found.0; lists = found.1; counted = refl })
