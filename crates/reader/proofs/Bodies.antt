-- A part of a sheet by its two ends, and the parts of a record as such. Assumes nothing.
use mathlib.Core.Path.{◌≡◌, refl, sym, ◌∙◌, ap}
use mathlib.Core.List.{List, [], ◌∷◌}
use Prim.Native.Nat.{ℕ, zero, suc, ◌+◌, ◌-◌, ◌≤◌, ◌<◌}
use native.Mathlib.Omega.{arith}
use native.Mathlib.Numerals.{add-one}
use lib.ListN.{length, get_or, take, drop}
use lib.Seq.{take-nil, drop-cons, drop-drop, take-take}
use lib.Dec.{eqb}
use Rattle.meaning.specs.Sheet.{byte, body_at, next_at, limit_of, step_of}
use Rattle.reader.specs.Place.{part}
use Rattle.reader.specs.Parts.{LimitAsks, LimitRead, StepAsks, StepRead}
use Rattle.reader.proofs.Good.{body-byte}

-- the part from a place to itself
pub part_none : (e : ℕ) (s : List ℕ) → part e e s ≡ []
unfolding part
part_none e s = let z : e - e ≡ 0 = omega arith in ap (λ (k : ℕ). take k (drop e s)) z

-- a part's first byte and the rest
pub part-more : (a e : ℕ) (s : List ℕ) → a < e → e ≤ length s → part a e s ≡ get_or s a 0 ∷ part (a + 1) e s
unfolding part
part-more a e s h w =
    let m : e - a ≡ suc (e - suc a) = omega arith in
    ap (λ (k : ℕ). take k (drop a s)) m
    ∙ ap (take (suc (e - suc a))) (drop-cons s a 0 (omega arith))
    ∙ ap (λ (k : ℕ). get_or s a 0 ∷ take (e - k) (drop k s)) (sym (add-one a))

-- ---- within a record

drop-take : (k m : ℕ) (l : List ℕ) → drop k (take m l) ≡ take (m - k) (drop k l)
drop-take zero m l = let z : m ≡ m - 0 = omega arith in ap (λ (j : ℕ). take j l) z
drop-take (suc k) zero l = let z : 0 ≡ 0 - suc k = omega arith in ap (λ (j : ℕ). take j (drop (suc k) l)) z
drop-take (suc k) (suc m) [] = sym (take-nil (suc m - suc k))
drop-take (suc k) (suc m) (x ∷ xs) =
    let z : m - k ≡ suc m - suc k = omega arith in
    drop-take k m xs ∙ ap (λ (j : ℕ). take j (drop k xs)) z

-- The bytes of a record from its k-th on.
pub body-from : (s : List ℕ) (at k p e : ℕ) → p ≡ suc at + k → e ≡ next_at s at → part p e s ≡ drop k (body_at s at)
unfolding part body_at next_at
body-from s at k p e q r =
    let size : e - p ≡ byte s at - k = omega arith in
    ap (λ (j : ℕ). take j (drop p s)) size
    ∙ ap (λ (j : ℕ). take (byte s at - k) (drop j s)) q
    ∙ ap (take (byte s at - k)) (sym (drop-drop k (suc at) s))
    ∙ sym (drop-take k (byte s at) (drop (suc at) s))

-- The a bytes of a record after its first k.
pub body-between :
    (s : List ℕ) (at k a p e : ℕ) → p ≡ suc at + k → e ≡ p + a → k + a ≤ byte s at → part p e s ≡ take a (drop k (body_at s at))
unfolding part body_at
body-between s at k a p e q r h =
    let size : e - p ≡ a = omega arith in
    let room : a ≤ byte s at - k = omega arith in
    ap (λ (j : ℕ). take j (drop p s)) size
    ∙ ap (λ (j : ℕ). take a (drop j s)) q
    ∙ ap (take a) (sym (drop-drop k (suc at) s))
    ∙ sym (take-take a (byte s at - k) (drop k (drop (suc at) s)) room)
    ∙ ap (take a) (sym (drop-take k (byte s at) (drop (suc at) s)))

-- The first byte of a record.
pub count-byte : (s : List ℕ) (at : ℕ) → 1 ≤ byte s at → get_or (body_at s at) 0 0 ≡ get_or s (at + 1) 0
unfolding byte
count-byte s at h =
    let same : suc at + 0 ≡ at + 1 = omega arith in
    body-byte s at 0 h ∙ ap (λ (i : ℕ). get_or s i 0) same

-- The limit that starts at `at`, from the bytes that `limit_parts` reads.
pub limit-read :
    (s : List ℕ) (at : ℕ) → LimitAsks s at
    → LimitRead s at (record { exact = eqb (get_or s (at + 1) 0) 0; bound = get_or s (at + 2) 0; start = at + 3; end = at + 1 + get_or s at 0 })
unfolding limit_of byte next_at
limit-read s at asks =
    let end : at + 1 + get_or s at 0 ≡ next_at s at = omega arith in
    let bound : suc at + 1 ≡ at + 2 = omega arith in
    record {
      exact = sym (ap (λ (b : ℕ). eqb b 0) (count-byte s at (omega (arith, asks.long))));
      bound = sym (body-byte s at 1 (omega (arith, asks.long)) ∙ ap (λ (i : ℕ). get_or s i 0) bound);
      among = body-from s at 2 (at + 3) (at + 1 + get_or s at 0) (omega arith) end;
      start = refl;
      end = end;
      order = omega (arith, asks.long);
    }

-- The step rule that starts at `at`, from the bytes that `step_parts` reads.
pub step-read :
    (s : List ℕ) (at : ℕ) → StepAsks s at
    → StepRead s at (record { left = at + 2; right = at + 2 + get_or s (at + 1) 0; end = at + 1 + get_or s at 0 })
unfolding step_of byte next_at
step-read s at asks =
    let end : at + 1 + get_or s at 0 ≡ next_at s at = omega arith in
    let a : get_or (body_at s at) 0 0 ≡ get_or s (at + 1) 0 = count-byte s at asks.long in
    let same : byte s (suc at) ≡ get_or s (at + 1) 0 = ap (λ (i : ℕ). get_or s i 0) (sym (add-one at)) in
    let less : get_or s (at + 1) 0 < get_or s at 0 = omega (arith, asks.count) in
    record {
      left = body-between s at 1 (get_or s (at + 1) 0) (at + 2) (at + 2 + get_or s (at + 1) 0) (omega arith) refl (omega arith)
          ∙ ap (λ (k : ℕ). take k (drop 1 (body_at s at))) (sym a);
      right = body-from s at (1 + get_or s (at + 1) 0) (at + 2 + get_or s (at + 1) 0) (at + 1 + get_or s at 0) (omega arith) end
          ∙ sym (drop-drop (get_or s (at + 1) 0) 1 (body_at s at))
          ∙ ap (λ (k : ℕ). drop k (drop 1 (body_at s at))) (sym a);
      left_at = refl;
      right-at = ap (λ (k : ℕ). at + 2 + k) (sym same);
      end = end;
      order = omega arith;
      order_2 = omega arith;
    }
