-- Words of two tests compared: where no number passes both, they have no bit in common (words-apart), and the other way round if each
-- number has a bit (apart_none). What is apart from a word is apart from its parts (apart-within). Assumes nothing.
use mathlib.Core.Path.{◌≡◌, refl, sym, ◌∙◌, ap, subst}
use mathlib.Core.Logic.{◌⊎◌, inl, inr}
use mathlib.Core.Bool.{Bool, true}
use mathlib.Core.List.{List}
use Prim.Native.Nat.{ℕ, suc, ◌+◌, ◌*◌, ◌/◌, ◌%◌, ◌≤◌, ◌<◌, min}
use native.Mathlib.Omega.{arith}
use lib.Arith.{bin_ind}
use lib.Bits.{bit_and}
use lib.ListN.{get_or}
use Rattle.ground.specs.Bits.{bit}
use Rattle.ground.proofs.Bits.{bit-none, bit-small, bit-cases, bit-and}
use Rattle.rules_signs.specs.Words.{WordsOf, Apart, Within, word_size}

-- ---- bits in common

-- A number without bits is 0.
bits_none : (x : ℕ) → ((b : ℕ) → bit b x ≡ 0) → x ≡ 0
bits_none = bin_ind (λ (x : ℕ). ((b : ℕ) → bit b x ≡ 0) → x ≡ 0) (λ h. refl) halves
  where
    halves : (x : ℕ) → (((b : ℕ) → bit b (x / 2) ≡ 0) → x / 2 ≡ 0) → ((b : ℕ) → bit b x ≡ 0) → x ≡ 0
    halves x ih h = let even : x % 2 ≡ 0 = h 0 in let half = ih (λ b. h (suc b)) in omega arith

-- A bit in common is one of both.
both-set : (p q m : ℕ) → m ≡ min p q → m ≡ 1 → p < 2 → q < 2 → (p ≡ 1) × (q ≡ 1)
both-set p q m e o hp hq = (omega arith, omega arith)

-- Where no number passes both tests, their words have no bit in common.
pub words-apart :
    {f g : ℕ → Bool} {n w : ℕ} {l : List ℕ} {a u : ℕ} → WordsOf f n w l a → WordsOf g n w l u
    → ((c : ℕ) → c < n → f c ≡ true → g c ≡ true → ⊥) → Apart l a u w
words-apart {f} {g} {n} {w} {l} {a} {u} F G never = record { each = λ k h. bits_none _ (λ b. by k h b (bit-cases b _)) }
  where
    by : (k : ℕ) → k < w → (b : ℕ) → (bit b (bit_and (get_or l (a + k) 0) (get_or l (u + k) 0)) ≡ 0)
        ⊎ (bit b (bit_and (get_or l (a + k) 0) (get_or l (u + k) 0)) ≡ 1)
        → bit b (bit_and (get_or l (a + k) 0) (get_or l (u + k) 0)) ≡ 0
    by k h b (inl e) = e
    by k h b (inr e) =
        let x = get_or l (a + k) 0 in
        let y = get_or l (u + k) 0 in
        let set = both-set (bit b x) (bit b y) _ (bit-and b x y) e (bit-small b x) (bit-small b y) in
        let one = (F.words k h).sound b set.0 in
        absurd (never (word_size * k + b) one.0 one.1 ((G.words k h).sound b set.1).1)

-- Two bits that are set are in common.
set_both : (p q m : ℕ) → m ≡ min p q → p ≡ 1 → q ≡ 1 → m ≡ 1
set_both p q m e hp hq = omega arith

-- Where each number has a bit, and the words have none in common, no number passes both tests.
pub apart_none :
    {f g : ℕ → Bool} {n w : ℕ} {l : List ℕ} {a u : ℕ} → WordsOf f n w l a → WordsOf g n w l u → n ≤ word_size * w → Apart l a u w
    → (c : ℕ) → c < n → f c ≡ true → g c ≡ true → ⊥
apart_none {f} {g} {n} {w} {l} {a} {u} F G room A c h p q =
    let k = c / 64 in
    let b = c % 64 in
    let at : word_size * k + b ≡ c = omega arith in
    let inside : k < w = omega arith in
    let x = get_or l (a + k) 0 in
    let y = get_or l (u + k) 0 in
    let one = (F.words k inside).full b (omega arith) (omega arith) (subst (λ (i : ℕ). f i ≡ true) (sym at) p) in
    let other = (G.words k inside).full b (omega arith) (omega arith) (subst (λ (i : ℕ). g i ≡ true) (sym at) q) in
    let common = set_both (bit b x) (bit b y) _ (bit-and b x y) one other in
    let nothing = ap (bit b) (A.each k inside) ∙ bit-none b in
    omega (arith, common, nothing)

-- ---- a part

-- A number apart from another is apart from its parts.
part_apart : (x a u : ℕ) → bit_and a u ≡ a → bit_and x u ≡ 0 → bit_and x a ≡ 0
part_apart x a u part none = bits_none _ (λ b. bit-and b x a ∙ plain _ _ _
    (sym (bit-and b a u) ∙ ap (bit b) part)
    (sym (bit-and b x u) ∙ ap (bit b) none ∙ bit-none b))
  where
    plain : (p q r : ℕ) → min q r ≡ q → min p r ≡ 0 → min p q ≡ 0
    plain p q r e z = omega arith

-- What is apart from the words at u is apart from those at a, whose bits are among them.
pub apart-within : {l : List ℕ} {a u w : ℕ} (x : ℕ) → Within l a u w → Apart l x u w → Apart l x a w
apart-within {l} {a} {u} x W A = record {
  each = λ k h. part_apart (get_or l (x + k) 0) (get_or l (a + k) 0) (get_or l (u + k) 0) (W.each k h) (A.each k h);
}
