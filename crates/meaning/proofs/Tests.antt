-- Tests that compute. A test of P is a Bool together with why it says P exactly; only the Bool is ever computed. Tests are put together
-- as what they test is: and, or, not, implies, every and some number below a bound, and that some number of steps leads to a goal, which
-- is looked for among as many steps as there are states; that none is lost is the law of Settle. Assumes nothing.
use mathlib.Core.Path.{◌≡◌, refl, sym, subst}
use mathlib.Core.Bool.{Bool, true, false, not, ◌&&◌, ◌||◌}
use mathlib.Core.Logic.{◌⊎◌, inl, inr}
use mathlib.Core.List.{List}
use Prim.Native.Nat.{ℕ, zero, suc, ◌≤◌, ◌<◌}
use native.Mathlib.Decide.{ℕ_discrete}
use native.Mathlib.Omega.{arith}
use lib.Dec.{T, leb, eqb, T_not, not_T, leb→le, le→leb, eqb→eq, eqb_refl}
use lib.ListN.{length, get_or}
use Rattle.meaning.specs.System.{In, Lists}
use Rattle.meaning.proofs.Parts.{and_parts}
use Rattle.meaning.proofs.Settle.{settles-next}

-- a Bool that says P exactly
pub record Test (P : Type 0) : Type 0 where
  pub says : Bool
  pub sound : T says → P
  pub whole : P → T says

-- ---- tests and how they are put together

unfoldable pub bool? : (b : Bool) → Test (T b)
bool? b = record { says = b; sound = λ x. x; whole = λ x. x }

-- a test of P is one of what is P in other words
unfoldable pub as? : {P Q : Type 0} → (P → Q) → (Q → P) → Test P → Test Q
as? f g p = record { says = p.says; sound = λ x. f (p.sound x); whole = λ q. p.whole (g q) }

unfoldable pub same? : (m n : ℕ) → Test (m ≡ n)
same? m n = record { says = eqb m n; sound = eqb→eq m n; whole = λ e. subst (λ k. T (eqb m k)) e (eqb_refl m) }

unfoldable pub le? : (m n : ℕ) → Test (m ≤ n)
le? m n = record { says = leb m n; sound = leb→le m n; whole = le→leb m n }

-- both parts of an `and`
pub and_both : (a b : Bool) → T a → T b → T (a && b)
and_both true b x y = y
and_both false b x y = absurd x

-- P and Q
unfoldable pub both? : {P Q : Type 0} → Test P → Test Q → Test (P × Q)
both? p q = record {
  says = p.says && q.says;
  sound = λ x. let w = (and_parts p.says q.says).0 x in (p.sound w.0, q.sound w.1);
  whole = λ w. and_both p.says q.says (p.whole w.0) (q.whole w.1);
}

-- some part of an `or`
pub or_cases : (a b : Bool) → T (a || b) → T a ⊎ T b
or_cases true b x = inl tt
or_cases false b x = inr x

pub or-either : (a b : Bool) → T a ⊎ T b → T (a || b)
or-either true b x = tt
or-either false b (inl x) = absurd x
or-either false b (inr x) = x

-- P or Q
unfoldable pub either? : {P Q : Type 0} → Test P → Test Q → Test (P ⊎ Q)
either? {P} {Q} p q = record {
  says = p.says || q.says;
  sound = λ x. out (or_cases p.says q.says x);
  whole = λ w. or-either p.says q.says (into w);
}
  where
    out : T p.says ⊎ T q.says → P ⊎ Q
    out (inl x) = inl (p.sound x)
    out (inr x) = inr (q.sound x)

    into : P ⊎ Q → T p.says ⊎ T q.says
    into (inl x) = inl (p.whole x)
    into (inr x) = inr (q.whole x)

-- not P
unfoldable pub none? : {P : Type 0} → Test P → Test (P → ⊥)
none? p = record { says = not p.says; sound = λ x y. T_not p.says x (p.whole y); whole = λ f. not_T p.says (λ x. f (p.sound x)) }

-- a test decides
pub decided : {P : Type 0} → Test P → Dec P
decided {P} p = by p.says refl
  where
    by : (b : Bool) → p.says ≡ b → Dec P
    by true e = yes (p.sound (subst T (sym e) tt))
    by false e = no (λ x. subst T e (p.whole x))

-- Q where P passes
unfoldable pub if? : {P Q : Type 0} → Test P → Test Q → Test (P → Q)
unfolding either? none? as?
if? {P} {Q} p q = as? holds (λ f. by f (decided p)) (either? (none? p) q)
  where
    holds : (P → ⊥) ⊎ Q → P → Q
    holds (inl f) x = absurd (f x)
    holds (inr y) x = y

    by : (P → Q) → Dec P → (P → ⊥) ⊎ Q
    by f (yes x) = inr (f x)
    by f (no x) = inl x

-- what holds at n and below n holds below n + 1
pub below_next : (P : ℕ → Type 0) (n : ℕ) → P n → ((i : ℕ) → i < n → P i) → (i : ℕ) → i < suc n → P i
below_next P n x f i h = by (ℕ_discrete i n)
  where
    by : Dec (i ≡ n) → P i
    by (yes e) = subst P (sym e) x
    by (no e) = f i (omega arith)

-- every number below n passes
unfoldable pub each? : {P : ℕ → Type 0} → (n : ℕ) → ((i : ℕ) → Test (P i)) → Test ((i : ℕ) → i < n → P i)
unfolding both? as?
each? zero p = record { says = true; sound = λ x i h. absurd (omega arith); whole = λ f. tt }
each? {P} (suc n) p =
    as? (λ w. below_next P n w.0 w.1) (λ f. (f n (omega arith), λ i h. f i (omega arith))) (both? (p n) (each? n p))

-- some number below n passes
unfoldable pub any? : {P : ℕ → Type 0} → (n : ℕ) → ((i : ℕ) → Test (P i)) → Test ((i : ℕ) × (i < n) × P i)
unfolding either? as?
any? zero p = record { says = false; sound = λ x. absurd x; whole = λ w. absurd (omega (arith, w.1)) }
any? {P} (suc n) p = as? out into (either? (p n) (any? n p))
  where
    out : P n ⊎ ((i : ℕ) × (i < n) × P i) → (i : ℕ) × (i < suc n) × P i
    out (inl x) = (n, omega arith, x)
    out (inr (i, h, x)) = (i, omega arith, x)

    into : (i : ℕ) × (i < suc n) × P i → P n ⊎ ((i : ℕ) × (i < n) × P i)
    into (i, h, x) = below_next (λ j. P j → P n ⊎ ((i : ℕ) × (i < n) × P i)) n inl (λ j q y. inr (j, q, y)) i h x

-- l holds x
unfoldable pub in? : (l : List ℕ) (x : ℕ) → Test (In l x)
unfolding any? same?
in? l x = any? (length l) (λ i. same? (get_or l i 0) x)

-- l lists, ascending, what passes p, which fails from n on
unfoldable pub lists? : {P : ℕ → Type 0} → ((s : ℕ) → Test (P s)) → (n : ℕ) → ((s : ℕ) → P s → s < n) → (l : List ℕ) → Test (Lists P l)
unfolding each? if? le? in? both? as?
lists? p n below l = as?
    (λ w. record { rises = λ i h. w.0 i (omega arith) h; sound = w.1.0; whole = λ s x. w.1.1 s (below s x) x })
    (λ L. ((λ i h. L.rises i), (L.sound, λ s h. L.whole s)))
    (both? (each? (length l) (λ i. if? (le? (suc (suc i)) (length l)) (le? (suc (get_or l i 0)) (get_or l (suc i) 0))))
    (both? (each? (length l) (λ i. p (get_or l i 0))) (each? n (λ s. if? (p s) (in? l s)))))

-- ---- steps

-- n steps of E lead from s to a state of B
abbrev pub Steps : (E : ℕ → ℕ → Type 0) (B : ℕ → Type 0) → ℕ → ℕ → Type 0
Steps E B zero s = B s
Steps E B (suc n) s = (t : ℕ) × E s t × Steps E B n t

module _ {E : ℕ → ℕ → Type 0} {B : ℕ → Type 0} (edge? : (s t : ℕ) → Test (E s t)) (base? : (s : ℕ) → Test (B s))
    (N : ℕ) (inside : (s t : ℕ) → E s t → (s < N) × (t < N)) where
  -- n steps lead from s to B
  unfoldable pub steps? : (n s : ℕ) → Test (Steps E B n s)
  unfolding any? both? as?
  steps? zero s = base? s
  steps? (suc n) s =
      as? (λ (t, h, w). (t, w.0, w.1)) (λ (t, e, w). (t, (inside s t e).1, (e, w))) (any? N (λ t. both? (edge? s t) (steps? n t)))

  -- Whatever is reached in some number of steps is reached in at most N.
  pub steps-soon : (m s : ℕ) → Steps E B m s → (n : ℕ) × (n < suc N) × Steps E B n s
  steps-soon m s w = let v = soon m s w in (v.0, omega (arith, v.1, settled.1), v.2)
    where
      Within : ℕ → ℕ → Type 0
      Within n s = (m : ℕ) × (m < suc n) × Steps E B m s

      settled : (n : ℕ) × (n ≤ N) × ((x : ℕ) → x < N → Within (suc n) x → Within n x)
      settled = settles-next (λ n s (m, h, w). (m, omega arith, w)) (λ n s. decided (any? (suc n) (λ m. steps? m s))) N

      soon : (m s : ℕ) → Steps E B m s → Within settled.0 s
      soon zero s b = (0, omega arith, b)
      soon (suc m) s (t, e, w) = let v = soon m t w in settled.2 s (inside s t e).0 (suc v.0, omega (arith, v.1), (t, e, v.2))

  -- some number of steps leads from s to B
  unfoldable pub sometime? : (s : ℕ) → Test ((n : ℕ) × Steps E B n s)
  unfolding steps? any? as?
  sometime? s = as? (λ (n, h, w). (n, w)) (λ (n, w). steps-soon n s w) (any? (suc N) (λ n. steps? n s))
