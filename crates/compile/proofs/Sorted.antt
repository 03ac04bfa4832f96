-- The literals of a list that the reader takes are in order. Assumes nothing.
use mathlib.Core.Path.{◌≡◌, refl, sym, ◌∙◌, ap, subst₂}
use mathlib.Core.Bool.{Bool, true, false, cond}
use mathlib.Core.List.{List, [], ◌∷◌}
use Prim.Native.Nat.{ℕ, suc, ◌+◌, ◌-◌, ◌%◌, ◌<◌}
use native.Mathlib.Omega.{arith}
use lib.Dec.{ltb}
use lib.ListN.{length, get_or}
use borrow.Author.Tests.{ltb-true, ltb-false}
use Rattle.meaning.specs.Sheet.{positive, size, names, signed_below}
use Rattle.reader.proofs.Good.{LiteralsGood, names-letter}
use Rattle.compile.specs.Literals.{rank, Ordered}

-- a literal's rank is its place among signed bytes
rank_is : (n b : ℕ) → n < 128 → names n b ≡ true → rank (positive b) (size b) ≡ (b + 128) % 256
unfolding size positive
rank_is n b k e = by (ltb b 128) refl
  where
    by : (p : Bool) → ltb b 128 ≡ p → rank (positive b) (size b) ≡ (b + 128) % 256
    by true q =
        let l = ltb-true b 128 q in
        ap (λ (p : Bool). rank p (cond p b (256 - b))) q ∙ (let g : 128 + b ≡ (b + 128) % 256 = omega arith in g)
    by false q =
        let l = ltb-false b 128 q in
        let sz : size b ≡ 256 - b = ap (λ (p : Bool). cond p b (256 - b)) q in
        let m = names-letter n b e in
        ap (λ (p : Bool). rank p (cond p b (256 - b))) q ∙ (let g : 128 - (256 - b) ≡ (b + 128) % 256 = omega arith in g)

above :
    (n b c : ℕ) → n < 128 → names n b ≡ true → names n c ≡ true → signed_below b c ≡ true
    → rank (positive b) (size b) < rank (positive c) (size c)
unfolding signed_below
above n b c k p q e =
    subst₂ (λ (x y : ℕ). x < y) (sym (rank_is n b k p)) (sym (rank_is n c k q)) (ltb-true ((b + 128) % 256) ((c + 128) % 256) e)

-- every letter's literal stands above -128
above-none : (p : Bool) (m : ℕ) → m < 128 → 0 < rank p m
above-none true m h = omega arith
above-none false m h = omega arith

ordered-from :
    (n before : ℕ) (ls : List ℕ) → n < 128 → LiteralsGood n ls
    → (0 < length ls → before < rank (positive (get_or ls 0 0)) (size (get_or ls 0 0))) → Ordered n before ls
ordered-from n before [] k good first = tt
ordered-from n before (l ∷ ls) k good first =
    let here = good.named 0 (omega arith) in
    let sizes = names-letter n l here in
    let rest : LiteralsGood n ls = record {
      named = λ j h. good.named (suc j) (omega arith);
      rising = λ j h. good.rising (suc j)
          (omega arith);
    } in (
      first (omega arith),
      sizes.0,
      sizes.1,
      ordered-from n (rank (positive l) (size l)) ls k rest
          (λ h. above n l (get_or ls 0 0) k here (good.named 1 (omega arith)) (good.rising 0 (omega arith))),
    )

-- A good list is in order.
pub in_order : (n : ℕ) (ls : List ℕ) → n < 128 → LiteralsGood n ls → Ordered n 0 ls
in_order n ls k good =
    ordered-from n 0 ls k good
    (λ h. above-none (positive (get_or ls 0 0)) (size (get_or ls 0 0)) (let m = names-letter n (get_or ls 0 0) (good.named 0 h) in omega arith))
