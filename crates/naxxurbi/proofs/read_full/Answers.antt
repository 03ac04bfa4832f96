-- What each read brought stands behind what stood before it.
use Rattle.std.proofs.Common.{Option, ◌≡◌, ℕ, ◌+◌, ◌-◌, ◌≤◌, List, ◌++◌, rules, arith, length, take, slice_range, sym, ap, ◌∙◌, subst, le_refl, drop_at, length-take-le}
use Rattle.std.proofs.lemmas.Slice.{take-put_mid_below}
use Rattle.std.specs.Io.KnownBytes.{Consumes}
use Rattle.std.proofs.KnownBytes.{Consumes-nil, Consumes-trans}
use mathlib.Core.Logic.{inl}
use borrow.Rule.Slice.PartMut.{put_mid, post_of}
use lib.Seq.{take-add, take-append-le}
use Rattle.naxxurbi.proofs.read_full.Goals as goal

-- a front, and what stands behind it up to b, is the front up to b
take_split : (a b : ℕ) (old new : List ℕ) → a ≤ b → take a new ≡ take a old → take a old ++ slice_range new a b ≡ take b new
take_split a b old new h front =
    let same : a + (b - a) ≡ b = omega arith in
    ap (λ l. l ++ slice_range new a b) (sym front) ∙ sym (take-add a (b - a) new) ∙ ap (λ n. take n new) same

-- what was put into the middle stands there
slice_range-put_mid : (a k n : ℕ) (xs ys : List ℕ) → a ≤ length xs → n ≤ length ys → slice_range (put_mid a k xs ys) a (a + n) ≡ take n ys
slice_range-put_mid a k n xs ys within fits =
    let same : (a + n) - a ≡ n = omega arith in
    let after = post_of a k xs in
    ap (take ((a + n) - a)) (drop_at (take a xs) (ys ++ after) a (length-take-le a xs within)) ∙ ap (λ m. take m (ys ++ after)) same ∙ take-append-le n ys after fits

-- what a read brought into the room from a place on is consumed behind what stands before that place
read_on : (a b c : Option (List ℕ)) (xs ys : List ℕ) (from n : ℕ) → from ≤ length xs → n ≤ length ys → Consumes a b (take from xs) → Consumes b c (take n ys)
    → Consumes a c (take (from + n) (put_mid from (length xs - from) xs ys))
read_on a b c xs ys from n within fits before read =
    let room = length xs - from in
    let part = slice_range-put_mid from room n xs ys within fits in
    let joined = take_split from (from + n) xs (put_mid from room xs ys) (omega arith) (take-put_mid_below _ _ _ _ _ (le_refl _) within) in
    subst (Consumes a c) (ap (λ l. take from xs ++ l) (sym part) ∙ joined) (Consumes-trans a b c (take from xs) (take n ys) before read)

-- a read that brought nothing leaves what was consumed
read_none : (a b c : Option (List ℕ)) (xs ys : List ℕ) (from n : ℕ) → n ≡ 0 → from ≤ length xs → n ≤ length ys → Consumes a b (take from xs) → Consumes b c (take n ys)
    → Consumes a c (take from (put_mid from (length xs - from) xs ys))
read_none a b c xs ys from n none within fits before read =
    let same : from + n ≡ from = omega (arith, none) in
    subst (λ k. Consumes a c (take k (put_mid from (length xs - from) xs ys))) same (read_on a b c xs ys from n within fits before read)

pub loop-done-init : goal.loop-done-init
loop-done-init g c = (search rules, search rules, Consumes-nil _)

pub loop-done-preserved : goal.loop-done-preserved
loop-done-preserved g c =
    let read = c.in_ok-n.ensures in
    (search rules, search rules, read_on _ _ _ c.loop-done.room c.read.new.buf c.loop-done.done c.in_ok-n.n c.loop-done.invariant.1 read.bound.0 c.loop-done.invariant.2 read.bytes.0)

pub returns-after-loop-done-clause-bound : goal.returns-after-loop-done-clause-bound
returns-after-loop-done-clause-bound g c = search rules

pub returns-after-loop-done-clause-all : goal.returns-after-loop-done-clause-all
returns-after-loop-done-clause-all g c = inl (omega (arith, c.loop-done-test.false, c.loop-done.invariant.1))

pub returns-then-n-eq0-clause-bytes : goal.returns-then-n-eq0-clause-bytes
returns-then-n-eq0-clause-bytes g c =
    let read = c.in_ok-n.ensures in
    read_none _ _ _ c.loop-done.room c.read.new.buf c.loop-done.done c.in_ok-n.n c.if-n-eq0.true c.loop-done.invariant.1 read.bound.0 c.loop-done.invariant.2 read.bytes.0
