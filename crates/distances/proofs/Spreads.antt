-- How places begin, and one spread: for which reason, and that it reaches one place more. Assumes nothing.
use mathlib.Core.Path.{◌≡◌, refl, sym, ap, subst, ◌∙◌}
use mathlib.Core.Logic.{◌⊎◌, inl, inr}
use mathlib.Core.List.{List}
use Prim.Native.Nat.{ℕ, ◌+◌, ◌-◌, ◌<◌}
use native.Mathlib.Decide.{ℕ_discrete}
use native.Mathlib.Omega.{arith}
use lib.ListN.{length, get_or, set, length-set}
use lib.Seq.{get_or-set_same, get_or-set_other}
use Rattle.meaning.specs.Strike.{Way}
use Rattle.rules.specs.Book.{book_system}
use Rattle.rules.proofs.Facts.{kept-is, kept-true}
use Rattle.distances.specs.Far.{Unstruck, UnstruckIn, far, gone}
use Rattle.distances.specs.Values.{Begun, out, there, waits, fars, Reaches, as_was, reached, Spread, Opening, kept_in}
use Rattle.distances.proofs.Totals.{total-set}

-- ---- one spread

-- A spread that reaches nothing changes nothing, if its reason holds nowhere yet.
pub spread_none : (P : ℕ → Type 0) (d r : ℕ) (near : List ℕ) → ((m : ℕ) → P m → ⊥) → Spread P d r near near 0
spread_none P d r near never = record {
  long = refl;
  each = λ m h. as_was refl (λ o p. never m p);
  rest = λ m h. refl;
  counted = omega arith;
}

module _ (P Q : ℕ → Type 0) (d r : ℕ) (old near : List ℕ) (got : ℕ) (s : Spread P d r old near got) where
  -- A spread for one reason is one for another, if both hold at the same places that are not reached.
  pub spread_same : ((m : ℕ) → P m → Q m) → ((m : ℕ) → m < r → get_or near m 0 ≡ far → Q m → P m) → Spread Q d r old near got
  spread_same to from = record { long = s.long; rest = s.rest; counted = s.counted; each = λ m h. by m h (s.each m h) }
    where
      by : (m : ℕ) → m < r → Reaches (P m) d (get_or old m 0) (get_or near m 0) → Reaches (Q m) d (get_or old m 0) (get_or near m 0)
      by m h (as_was e f) = as_was e (λ o q. f o (from m h (e ∙ o) q))
      by m h (reached o p n) = reached o (to m p) n

  module _ (x : ℕ) (place : x < r) (inside : x < length near) (isfar : get_or near x 0 ≡ far) where
    -- what is not reached now was not before
    pub spread-was : get_or old x 0 ≡ far
    spread-was = by (s.each x place)
      where
        by : Reaches (P x) d (get_or old x 0) (get_or near x 0) → get_or old x 0 ≡ far
        by (as_was e f) = sym e ∙ isfar
        by (reached o p n) = o

    -- A place that is reached is counted as far no more.
    pub far-counts : d < gone → fars (set near x d) r + 1 ≡ fars near r
    far-counts small =
        let a = total-set (λ y. y - gone) near x d r place inside in
        let b : get_or near x 0 - gone ≡ 1 = ap (λ (y : ℕ). y - gone) isfar in
        let c : d - gone ≡ 0 = omega arith in
        omega arith

    -- A spread that reaches one place more.
    pub spread-one : d < gone → Q x → ((m : ℕ) → P m → Q m) → ((m : ℕ) → (m ≡ x → ⊥) → Q m → P m)
        → Spread Q d r old (set near x d) (got + 1)
    spread-one small here to from = record {
      long = length-set near x d ∙ s.long;
      rest = λ m h. get_or-set_other near x m d 0 (λ q. omega arith) ∙ s.rest m h;
      counted = let a = s.counted in let b = far-counts small in omega arith;
      each = λ m h. at m (ℕ_discrete m x) h;
    }
      where
        by : (m : ℕ) → (m ≡ x → ⊥) → Reaches (P m) d (get_or old m 0) (get_or near m 0) → Reaches (Q m) d (get_or old m 0) (get_or near m 0)
        by m n (as_was e f) = as_was e (λ o q. f o (from m n q))
        by m n (reached o p e) = reached o (to m p) e

        at : (m : ℕ) → Dec (m ≡ x) → m < r → Reaches (Q m) d (get_or old m 0) (get_or (set near x d) m 0)
        at m (yes q) h =
            subst (λ (y : ℕ). Reaches (Q y) d (get_or old y 0) (get_or (set near x d) y 0)) (sym q)
            (reached spread-was here (get_or-set_same near x d 0 inside))
        at m (no q) h =
            subst (λ (y : ℕ). Reaches (Q m) d (get_or old m 0) y) (sym (get_or-set_other near x m d 0 q)) (by m q (s.each m h))

-- ---- the beginning

-- how the first i places begin
pub record Begins (book : List ℕ) (k : ℕ) (table words : List ℕ) (r i : ℕ) (near : List ℕ) : Type 0 where
  pub long : length near ≡ r
  pub each : (m : ℕ) → m < i → Begun (kept_in book k (get_or table m 0)) (get_or words m 0) (get_or near m 0)

-- All places have begun.
pub begins-opening : (book : List ℕ) (k : ℕ) (table words : List ℕ) (r i : ℕ) (near : List ℕ)
    → Begins book k table words r i near → i ≡ r → Opening book k table words r near
begins-opening book k table words r i near b e = record {
  sure = record {
    long = b.long;
    struck = λ m h n. struck-is (b.each m (omega arith)) n;
    each = λ m h z. by m h z (split (b.each m (omega arith)) z);
    base = λ m h z g. base-is (b.each m (omega arith)) z (kept-true book k (get_or table m 0) g);
  };
  at_goal = λ m h l. at-goal-is (b.each m (omega arith)) l;
}
  where
    struck-is : {G : Type 0} {word v : ℕ} → Begun G word v → (word ≡ 0 → ⊥) → v ≡ gone
    struck-is (out w) n = refl
    struck-is (there w g) n = absurd (n w)
    struck-is (waits w g) n = absurd (n w)

    base-is : {G : Type 0} {word v : ℕ} → Begun G word v → word ≡ 0 → G → v ≡ 0
    base-is (out w) z g = absurd (w z)
    base-is (there w _) z g = refl
    base-is (waits w n) z g = absurd (n g)

    split : {G : Type 0} {word v : ℕ} → Begun G word v → word ≡ 0 → (v ≡ far) ⊎ ((v ≡ 0) × G)
    split (out w) z = absurd (w z)
    split (there w g) z = inr (refl, g)
    split (waits w n) z = inl refl

    at-goal-is : {G : Type 0} {word v : ℕ} → Begun G word v → v < gone → v ≡ 0
    at-goal-is (out w) l = absurd (omega arith)
    at-goal-is (there w g) l = refl
    at-goal-is (waits w n) l = absurd (omega arith)

    -- what an unstruck place's value says before the first layer is spread
    Says : ℕ → Type 0
    Says m = (get_or near m 0 ≡ far)
        ⊎ ((get_or near m 0 < gone) × Way (book_system book) (UnstruckIn table words r) ((book_system book).Kept k) (get_or near m 0)
        (get_or table m 0))

    by : (m : ℕ) → m < r → Unstruck words m → (get_or near m 0 ≡ far) ⊎ ((get_or near m 0 ≡ 0) × kept_in book k (get_or table m 0)) → Says m
    by m h z (inl q) = inl q
    by m h z (inr (q, t)) = inr (
      omega arith,
      subst (λ (x : ℕ). Way (book_system book) (UnstruckIn table words r) ((book_system book).Kept k) x (get_or table m 0)) (sym q)
          ((m, h, refl, z), kept-is book k (get_or table m 0) t),
    )
