-- A list's two masks say of any state what its literals say, over any width: how many are true, whether some is, whether all are. Each
-- literal of a list in order adds a bit of its own. Assumes nothing.
use mathlib.Core.Path.{◌≡◌, refl, sym, ◌∙◌, ap, ap₂, subst, subst₃}
use mathlib.Core.Logic.{◌⊎◌, inl, inr}
use mathlib.Core.Bool.{Bool, true, false, cond, not, ◌&&◌, ◌||◌, or-true, and-false}
use mathlib.Core.List.{List, [], ◌∷◌}
use Prim.Native.Nat.{ℕ, suc, ◌+◌, ◌-◌, ◌*◌, ◌^◌, ◌≤◌, ◌<◌}
use native.Mathlib.Omega.{arith}
use lib.Pow.{pow_pos}
use lib.Bits.{bit_and, and_le_r, and_zero_r}
use lib.Count.{ones}
use lib.Dec.{eqb}
use borrow.Author.Tests.{eq-eqb, ne_eqb, eqb-true, eqb-false}
use Rattle.meaning.specs.Sheet.{positive, size}
use Rattle.meaning.specs.Rules.{holds, true_in, count_true, some_literal_true, all_literals_true}
use Rattle.ground.specs.Bits.{bit}
use Rattle.ground.proofs.Bits.{bit-none, bit-cases, bit_shifted, bit_added, and_set, set_below}
use Rattle.ground.proofs.Ones.{ones-set, ones-and-set, ones-and-le}
use Rattle.rules.specs.Book.{count_of, some_of, all_of}
use Rattle.compile.specs.Literals.{agrees, mask_of, rank, Ordered}

-- ---- one bit more in a mask

-- the tests of two masks after one more literal, which is true in s or not
record Gains (s h u h' u' : ℕ) (t : Bool) : Type 0 where
  count : count_of s h' u' ≡ cond t 1 0 + count_of s h u
  some : some_of s h' u' ≡ (t || some_of s h u)
  all : all_of s h' u' ≡ (t && all_of s h u)

same-eqb : (a b c d : ℕ) → (a ≡ b → c ≡ d) → (c ≡ d → a ≡ b) → eqb a b ≡ eqb c d
same-eqb a b c d f g = by (eqb a b) refl
  where
    by : (t : Bool) → eqb a b ≡ t → eqb a b ≡ eqb c d
    by true e = e ∙ sym (eq-eqb c d (f (eqb-true a b e)))
    by false e = e ∙ sym (ne_eqb c d (λ q. eqb-false a b e (g q)))

module _ (s h u j : ℕ) where
  -- what s has in common with a mask and a new bit, by the bit's value in s
  and-gains : (m : ℕ) → bit j m ≡ 0 → bit j s ≡ 1 → bit_and s (m + 2 ^ j) ≡ bit_and s m + 2 ^ j
  and-gains m z e = and_set j m s z ∙ (let q : bit_and s m + bit j s * 2 ^ j ≡ bit_and s m + 2 ^ j = rw e (omega arith) in q)

  and-stays : (m : ℕ) → bit j m ≡ 0 → bit j s ≡ 0 → bit_and s (m + 2 ^ j) ≡ bit_and s m
  and-stays m z e = and_set j m s z ∙ (let q : bit_and s m + bit j s * 2 ^ j ≡ bit_and s m = rw e (omega arith) in q)

  held-true : bit j h ≡ 0 → bit j s ≡ 1 → Gains s h u (h + 2 ^ j) u true
  unfolding count_of some_of all_of
  held-true z e =
      let a = and-gains h z e in
      let pos = pow_pos j in
      record {
        count = let b = ones-and-set j h s z in omega arith;
        some = let b : eqb (bit_and s (h + 2 ^ j)) 0 ≡ false = ne_eqb (bit_and s (h + 2 ^ j)) 0 (λ q. omega arith) in rw b refl;
        all =
            ap (λ (t : Bool). t && eqb (bit_and s u) 0)
            (same-eqb (bit_and s (h + 2 ^ j)) (h + 2 ^ j) (bit_and s h) h (λ q. omega arith) (λ q. omega arith));
      }

  held-false : bit j h ≡ 0 → bit j s ≡ 0 → Gains s h u (h + 2 ^ j) u false
  unfolding count_of some_of all_of
  held-false z e =
      let a = and-stays h z e in
      let pos = pow_pos j in
      let le = and_le_r s h in
      record {
        count = let b = ones-and-set j h s z in omega arith;
        some = rw a refl;
        all = let b : eqb (bit_and s (h + 2 ^ j)) (h + 2 ^ j) ≡ false = ne_eqb (bit_and s (h + 2 ^ j)) (h + 2 ^ j) (λ q. omega arith) in
            rw b refl;
      }

  unheld-false : bit j u ≡ 0 → bit j s ≡ 1 → Gains s h u h (u + 2 ^ j) false
  unfolding count_of some_of all_of
  unheld-false z e =
      let a = and-gains u z e in
      let pos = pow_pos j in
      record {
        count =
            let b = ones-and-set j u s z in
            let c = ones-set j u z in
            let d = ones-and-le s u in
            omega arith;
        some =
            ap (λ (t : Bool). not (eqb (bit_and s h) 0) || not t)
            (same-eqb (bit_and s (u + 2 ^ j)) (u + 2 ^ j) (bit_and s u) u (λ q. omega arith) (λ q. omega arith));
        all =
            let b : eqb (bit_and s (u + 2 ^ j)) 0 ≡ false = ne_eqb (bit_and s (u + 2 ^ j)) 0 (λ q. omega arith) in
            ap (λ (t : Bool). eqb (bit_and s h) h && t) b ∙ and-false (eqb (bit_and s h) h);
      }

  unheld-true : bit j u ≡ 0 → bit j s ≡ 0 → Gains s h u h (u + 2 ^ j) true
  unfolding count_of some_of all_of
  unheld-true z e =
      let a = and-stays u z e in
      let pos = pow_pos j in
      let le = and_le_r s u in
      record {
        count =
            let b = ones-and-set j u s z in
            let c = ones-set j u z in
            let d = ones-and-le s u in
            omega arith;
        some =
            let b : eqb (bit_and s (u + 2 ^ j)) (u + 2 ^ j) ≡ false = ne_eqb (bit_and s (u + 2 ^ j)) (u + 2 ^ j) (λ q. omega arith) in
            ap (λ (t : Bool). not (eqb (bit_and s h) 0) || not t) b ∙ or-true (not (eqb (bit_and s h) 0));
        all = rw a refl;
      }

-- ---- one literal more in a list

-- the masks of a list with one more literal, by its sign
pub mask-same : (p : Bool) (l : ℕ) (ls : List ℕ) → agrees p (positive l) ≡ true → mask_of p (l ∷ ls) ≡ mask_of p ls + 2 ^ (size l - 1)
unfolding mask_of
mask-same p l ls e = ap (λ (t : Bool). cond t (mask_of p ls + 2 ^ (size l - 1)) (mask_of p ls)) e

pub mask-other : (p : Bool) (l : ℕ) (ls : List ℕ) → agrees p (positive l) ≡ false → mask_of p (l ∷ ls) ≡ mask_of p ls
unfolding mask_of
mask-other p l ls e = ap (λ (t : Bool). cond t (mask_of p ls + 2 ^ (size l - 1)) (mask_of p ls)) e

agrees-is : (p b : Bool) → agrees p b ≡ true → p ≡ b
agrees-is true b e = sym e
agrees-is false true e = e
agrees-is false false e = refl

rank-of : (p b : Bool) (m k : ℕ) → p ≡ b → m ≡ k → rank p m ≡ rank b k
rank-of p b m k e q = ap₂ rank e q

-- A literal that stands no higher than `before` has no bit in the masks of a list above that.
fresh :
    (p : Bool) (n before j : ℕ) (ls : List ℕ) → rank p (suc j) ≤ before → Ordered n before ls → bit j (mask_of p ls) ≡ 0
unfolding mask_of
fresh p n before j [] r o = bit-none j
fresh p n before j (l ∷ ls) r o =
    by (agrees p (positive l)) refl (fresh p n (rank (positive l) (size l)) j ls (omega arith) o.3)
    (λ r'. fresh p n (rank (positive l) (size l)) (size l - 1) ls r' o.3)
  where
    by :
        (t : Bool) → agrees p (positive l) ≡ t → bit j (mask_of p ls) ≡ 0
        → (rank p (suc (size l - 1)) ≤ rank (positive l) (size l) → bit (size l - 1) (mask_of p ls) ≡ 0) → bit j (mask_of p (l ∷ ls)) ≡ 0
    by false e here there = ap (bit j) (mask-other p l ls e) ∙ here
    by true e here there =
        let q : p ≡ positive l = agrees-is p (positive l) e in
        let m : suc (size l - 1) ≡ size l = omega arith in
        let r' = rank-of p (positive l) (suc (size l - 1)) (size l) q m in
        let ne : size l - 1 ≡ j → ⊥ = λ (i : size l - 1 ≡ j). (
        let w = rank-of p (positive l) (suc j) (size l) q (ap suc (sym i) ∙ m) in
        omega arith) in
        ap (bit j) (mask-same p l ls e) ∙ bit_added (size l - 1) j (mask_of p ls) ne (there (omega arith)) ∙ here

-- what a list's masks tell: its letters are among n, and in any state they count and test as its literals do
pub record Tells (n : ℕ) (ls : List ℕ) : Type 0 where
  pub held : mask_of true ls < 2 ^ n
  pub unheld : mask_of false ls < 2 ^ n
  pub count : (s : ℕ) → count_true s ls ≡ count_of s (mask_of true ls) (mask_of false ls)
  pub some : (s : ℕ) → some_literal_true s ls ≡ some_of s (mask_of true ls) (mask_of false ls)
  pub all : (s : ℕ) → all_literals_true s ls ≡ all_of s (mask_of true ls) (mask_of false ls)

none_true : (n : ℕ) → Tells n []
unfolding mask_of count_true some_literal_true all_literals_true count_of some_of all_of ones
none_true n = record {
  held = pow_pos n;
  unheld = pow_pos n;
  count = λ s. rw and_zero_r refl;
  some = λ s. rw and_zero_r refl;
  all = λ s. rw and_zero_r refl;
}

literal-positive : (s l : ℕ) → positive l ≡ true → true_in s l ≡ eqb (bit (size l - 1) s) 1
unfolding true_in
literal-positive s l e =
    ap (λ (t : Bool). cond t (holds s (size l)) (not (holds s (size l)))) e ∙ ap (λ (x : ℕ). eqb x 1) (bit_shifted (size l - 1) s)

literal-negative : (s l : ℕ) → positive l ≡ false → true_in s l ≡ not (eqb (bit (size l - 1) s) 1)
unfolding true_in
literal-negative s l e =
    ap (λ (t : Bool). cond t (holds s (size l)) (not (holds s (size l)))) e ∙ ap (λ (x : ℕ). not (eqb x 1)) (bit_shifted (size l - 1) s)

-- one more literal adds its bit to the mask of its sign
literal-gains :
    (s l : ℕ) (ls : List ℕ) → bit (size l - 1) (mask_of (positive l) ls) ≡ 0
    → Gains s (mask_of true ls) (mask_of false ls) (mask_of true (l ∷ ls)) (mask_of false (l ∷ ls)) (true_in s l)
literal-gains s l ls z = by (positive l) refl (bit-cases (size l - 1) s)
  where
    h : ℕ
    h = mask_of true ls

    u : ℕ
    u = mask_of false ls

    j : ℕ
    j = size l - 1

    moved :
        {h' u' : ℕ} {t : Bool} → mask_of true (l ∷ ls) ≡ h' → mask_of false (l ∷ ls) ≡ u' → true_in s l ≡ t → Gains s h u h' u' t
        → Gains s h u (mask_of true (l ∷ ls)) (mask_of false (l ∷ ls)) (true_in s l)
    moved a b c g = subst₃ (λ (x y : ℕ) (t : Bool). Gains s h u x y t) (sym a) (sym b) (sym c) g

    clear : (p : Bool) → positive l ≡ p → bit j (mask_of p ls) ≡ 0
    clear p e = subst (λ (p : Bool). bit j (mask_of p ls) ≡ 0) e z

    by :
        (p : Bool) → positive l ≡ p → (bit j s ≡ 0) ⊎ (bit j s ≡ 1)
        → Gains s h u (mask_of true (l ∷ ls)) (mask_of false (l ∷ ls)) (true_in s l)
    by true e (inl v) =
        moved (mask-same true l ls e) (mask-other false l ls (ap not e)) (literal-positive s l e ∙ ap (λ (x : ℕ). eqb x 1) v)
        (held-false s h u j (clear true e) v)
    by true e (inr v) =
        moved (mask-same true l ls e) (mask-other false l ls (ap not e)) (literal-positive s l e ∙ ap (λ (x : ℕ). eqb x 1) v)
        (held-true s h u j (clear true e) v)
    by false e (inl v) =
        moved (mask-other true l ls e) (mask-same false l ls (ap not e)) (literal-negative s l e ∙ ap (λ (x : ℕ). not (eqb x 1)) v)
        (unheld-true s h u j (clear false e) v)
    by false e (inr v) =
        moved (mask-other true l ls e) (mask-same false l ls (ap not e)) (literal-negative s l e ∙ ap (λ (x : ℕ). not (eqb x 1)) v)
        (unheld-false s h u j (clear false e) v)

-- a mask with one more literal is still within the letters
mask_below :
    (p : Bool) (n l : ℕ) (ls : List ℕ) → 1 ≤ size l → size l ≤ n → bit (size l - 1) (mask_of (positive l) ls) ≡ 0 → mask_of p ls < 2 ^ n
    → mask_of p (l ∷ ls) < 2 ^ n
mask_below p n l ls one few z below = by (agrees p (positive l)) refl
  where
    by : (t : Bool) → agrees p (positive l) ≡ t → mask_of p (l ∷ ls) < 2 ^ n
    by false e = subst (λ (x : ℕ). x < 2 ^ n) (sym (mask-other p l ls e)) below
    by true e =
        let clear : bit (size l - 1) (mask_of p ls) ≡ 0 = subst (λ (b : Bool). bit (size l - 1) (mask_of b ls) ≡ 0)
        (sym (agrees-is p (positive l) e)) z in
        subst (λ (x : ℕ). x < 2 ^ n) (sym (mask-same p l ls e)) (set_below n (size l - 1) (mask_of p ls) (omega arith) clear below)

-- A list in order is told by its masks.
pub tells : (n before : ℕ) (ls : List ℕ) → Ordered n before ls → Tells n ls
unfolding count_true some_literal_true all_literals_true
tells n before [] o = none_true n
tells n before (l ∷ ls) o =
    let z : bit (size l - 1) (mask_of (positive l) ls) ≡ 0 =
    fresh (positive l) n (rank (positive l) (size l)) (size l - 1) ls
    (let m : suc (size l - 1) ≡ size l = omega arith in let r = ap (rank (positive l)) m in omega arith) o.3 in
    let rest = tells n (rank (positive l) (size l)) ls o.3 in
    record {
      held = mask_below true n l ls o.1 o.2 z rest.held;
      unheld = mask_below false n l ls o.1 o.2 z rest.unheld;
      count = λ s. ap (λ (x : ℕ). cond (true_in s l) 1 0 + x) (rest.count s) ∙ sym (literal-gains s l ls z).count;
      some = λ s. ap (λ (x : Bool). true_in s l || x) (rest.some s) ∙ sym (literal-gains s l ls z).some;
      all = λ s. ap (λ (x : Bool). true_in s l && x) (rest.all s) ∙ sym (literal-gains s l ls z).all;
    }
