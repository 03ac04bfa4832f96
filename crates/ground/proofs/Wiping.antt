-- What zeros leave that are stored by `fill`: in a slice's front, `l[..n].fill(0)`, it is wiped (zeroed-front); in its rest,
-- `l[from..].fill(0)`, the front is written over zeros (filled-from). Assumes nothing.
use mathlib.Core.Path.{◌≡◌, sym, ap, subst, ◌∙◌}
use mathlib.Core.List.{List, [], ◌++◌}
use Prim.Native.Nat.{ℕ, ◌+◌, ◌-◌, ◌≤◌}
use native.Mathlib.Omega.{arith}
use lib.ListN.{length, get_or, take, drop, replicate, length-append, length-drop, length-replicate, get_or-append, get_or-replicate}
use lib.ListN.{drop_of_length-le}
use lib.Seq.{length-take-le, get_or-drop, get_or-append-add}
use borrow.Rule.Slice.PartMut.{put_mid, mid_of, post_of}
use Rattle.std.proofs.lemmas.List.{append-nil, drop-replicate}
use Rattle.meaning.specs.Promises.{over, zeros}
use Rattle.ground.specs.Wiping.{Wiped}

-- `filled` is the front after `fill`; the fourth fact is `c.fill.ensures.after (λ y e. e)`.
pub zeroed-front : (n : ℕ) (old filled : List ℕ) → n ≤ length old → filled ≡ replicate (length (take n old)) 0
    → Wiped n old (filled ++ drop n old)
zeroed-front n old filled fits zero = subst (λ (l : List ℕ). Wiped n old (l ++ drop n old)) (sym same) wiped
  where
    same : filled ≡ replicate n 0
    same = zero ∙ ap (λ (k : ℕ). replicate k 0) (length-take-le n old fits)

    front : length (replicate {A = ℕ} n 0) ≡ n
    front = length-replicate n 0

    behind : length (drop n old) ≡ length old - n
    behind = length-drop n old

    rest : (i : ℕ) → n ≤ i → get_or (replicate n 0 ++ drop n old) i 0 ≡ get_or old i 0
    rest i h =
        let here : length (replicate {A = ℕ} n 0) + (i - n) ≡ i = omega (arith, front) in
        let there : n + (i - n) ≡ i = omega arith in
        sym (ap (λ (k : ℕ). get_or (replicate n 0 ++ drop n old) k 0) here)
        ∙ get_or-append-add (replicate n 0) (drop n old) (i - n) 0
        ∙ get_or-drop n old (i - n) 0
        ∙ ap (λ (k : ℕ). get_or old k 0) there

    wiped : Wiped n old (replicate n 0 ++ drop n old)
    wiped = record {
      long = length-append (replicate n 0) (drop n old) ∙ omega (arith, front, behind);
      zeros = λ i h. get_or-append (replicate n 0) (drop n old) 0 i (omega (arith, front)) ∙ get_or-replicate n i 0 0 h;
      rest = rest;
    }

-- `filled` is the rest after `fill`; its third fact is `c.fill.ensures.after (λ y e. e)`.
pub filled-from :
    (from : ℕ) (old filled : List ℕ) → from ≤ length old → filled ≡ replicate (length (mid_of from (length old - from) old)) 0
    → put_mid from (length old - from) old filled ≡ over (take from old) (zeros old)
unfolding over zeros
filled-from from old filled fits zero =
    let n = length old - from in
    let behind : length (drop from old) ≡ n = length-drop from old in
    let rest : length (take n (drop from old)) ≡ n = length-take-le n (drop from old) (omega (arith, behind)) in
    let none : post_of from n old ≡ [] = drop_of_length-le (drop from old) (omega (arith, behind)) in
    let front : length (take from old) ≡ from = length-take-le from old fits in
    ap (λ (l : List ℕ). take from old ++ (filled ++ l)) none
    ∙ ap (λ (l : List ℕ). take from old ++ l) (append-nil filled ∙ zero ∙ ap (λ (k : ℕ). replicate k 0) rest)
    ∙ ap (λ (l : List ℕ). take from old ++ l)
    (sym (ap (λ (k : ℕ). drop k (replicate (length old) 0)) front ∙ drop-replicate from (length old) 0))
