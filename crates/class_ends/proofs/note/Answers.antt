-- `note` meets its contract: four numbers copied into their places are four stores. Assumes nothing.
use Rattle.std.proofs.Common.{arith, ◌≡◌, ℕ, zero, suc, ◌+◌, ◌-◌, ◌≤◌, List, [], ◌∷◌, length, set, refl, ◌∙◌, ap}
use borrow.Rule.Slice.PartMut.{put_mid}
use Rattle.class_ends.specs.Class.{stored}
use Rattle.class_ends.proofs.note.Goals as goal

four-stores : (xs : List ℕ) (at w x y z : ℕ) → at + 4 ≤ length xs
    → put_mid at 4 xs (w ∷ x ∷ y ∷ z ∷ []) ≡ set (set (set (set xs at w) (suc at) x) (suc (suc at)) y) (suc (suc (suc at))) z
four-stores [] at w x y z h = absurd (omega arith)
four-stores (v ∷ xs) (suc at) w x y z h = ap (◌∷◌ v) (four-stores xs at w x y z (omega arith))
four-stores (a ∷ []) zero w x y z h = absurd (omega arith)
four-stores (a ∷ b ∷ []) zero w x y z h = absurd (omega arith)
four-stores (a ∷ b ∷ c ∷ []) zero w x y z h = absurd (omega arith)
four-stores (a ∷ b ∷ c ∷ d ∷ r) zero w x y z h = refl

pub returns : goal.returns
unfolding stored
returns c =
    let a = c.args in
    let four : a.at + 4 - a.at ≡ 4 = omega arith in
    let one : a.at + 1 ≡ suc a.at = omega arith in
    let two : a.at + 2 ≡ suc (suc a.at) = omega arith in
    let three : a.at + 3 ≡ suc (suc (suc a.at)) = omega arith in
    ap (put_mid a.at (a.at + 4 - a.at) a.numbers.now) c.copy_from_slice.ensures.after
    ∙ ap (λ n. put_mid a.at n a.numbers.now (a.answer ∷ a.count ∷ a.a ∷ a.b ∷ [])) four
    ∙ (rw (one, two, three) (four-stores a.numbers.now a.at a.answer a.count a.a a.b c.requires))
