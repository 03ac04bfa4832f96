-- Writing a piece into a slice from a place on, byte by byte, and what the slice then begins with. Assumes nothing.
use mathlib.Core.Path.{◌≡◌, refl, sym, ap, ◌∙◌}
use mathlib.Core.List.{List, [], ◌∷◌}
use Prim.Native.Nat.{ℕ, suc, ◌+◌, ◌≤◌, ◌<◌}
use native.Mathlib.Decide.{dec_le}
use native.Mathlib.Omega.{arith}
use lib.ListN.{length, take, drop, set, get_or, length-set, take-append-drop}
use lib.Seq.{sets, length-sets, sets-eq, take-suc, take_all, length-take-le, take-append_seam}
use Rattle.meaning.proofs.Writing.{sets-append, sets-past}

-- ---- the loop that writes a piece

-- The first i bytes of the piece stand in the slice from `at` on, and the next goes to the place `to`.
pub record Copied (old new : List ℕ) (at : ℕ) (piece : List ℕ) (i to : ℕ) : Type 0 where
  pub within : i ≤ length piece
  pub next : to ≡ at + i
  pub long : length new ≡ length old
  pub written : new ≡ sets old at (take i piece)

pub copied_none : (old : List ℕ) (at : ℕ) (piece : List ℕ) → Copied old old at piece 0 at
copied_none old at piece = record { within = omega arith; next = omega arith; long = refl; written = refl }

module _ {old new : List ℕ} {at : ℕ} {piece : List ℕ} {i to : ℕ} (w : Copied old new at piece i to) where
  -- one more byte
  pub copied_more : i < length piece → Copied old (set new to (get_or piece i 0)) at piece (i + 1) (to + 1)
  copied_more h =
      let x = get_or piece i 0 in
      let front = take i piece in
      let more : suc i ≡ i + 1 = omega arith in
      record {
        within = omega arith;
        next = omega (arith, w.next);
        long = length-set new to x ∙ w.long;
        written =
            ap (λ (n : ℕ). set new n x) w.next
            ∙ ap (λ (l : List ℕ). set l (at + i) x) w.written
            ∙ ap (λ (n : ℕ). set (sets old at front) (at + n) x) (sym (length-take-le i piece w.within))
            ∙ sym (sets-append old at front (x ∷ []))
            ∙ ap (sets old at) (sym (take-suc piece i 0 h))
            ∙ ap (λ (n : ℕ). sets old at (take n piece)) more;
      }

  -- the slice is full: the rest of the piece changes nothing
  pub copied-full : length new ≤ to → new ≡ sets old at piece
  copied-full full =
      let front = take i piece in
      let rest = drop i piece in
      let here : length (sets old at front) ≤ at + length front =
      omega (arith, w.next, ap length w.written, length-take-le i piece w.within) in
      w.written ∙ sym (sets-past (sets old at front) (at + length front) rest here) ∙ sym (sets-append old at front rest)
      ∙ ap (sets old at) (take-append-drop i piece)

  -- the whole piece
  pub copied_all : length piece ≤ i → new ≡ sets old at piece
  copied_all h = w.written ∙ ap (sets old at) (take_all i piece h)

-- ---- from the front on

-- bytes that fit, written from the front on, stand there
pub fits-written : (old bytes : List ℕ) → length bytes ≤ length old → take (length bytes) (sets old 0 bytes) ≡ bytes
fits-written old bytes h =
    ap (take (length bytes)) (sets-eq bytes old 0 (omega arith)) ∙ take-append_seam bytes (drop (0 + length bytes) old)

-- more bytes than fit: as many as fit
fills-written : (old bytes : List ℕ) → length old ≤ length bytes → sets old 0 bytes ≡ take (length old) bytes
fills-written old bytes h =
    let n = length old in
    let front = take n bytes in
    let rest = drop n bytes in
    let long : length front ≡ n = length-take-le n bytes h in
    let all : length (sets old 0 front) ≡ n = length-sets old 0 front in
    ap (sets old 0) (sym (take-append-drop n bytes)) ∙ sets-append old 0 front rest
    ∙ sets-past (sets old 0 front) (0 + length front) rest (omega (arith, long, all))
    ∙ sym (take_all (length front) (sets old 0 front) (omega (arith, long, all)))
    ∙ fits-written old front (omega (arith, long))

-- the front holds what was written, as far as there is room
pub front-written : (old bytes : List ℕ) → take (length bytes) (sets old 0 bytes) ≡ take (length old) bytes
front-written old bytes = by (dec_le (length bytes) (length old))
  where
    by : Dec (length bytes ≤ length old) → take (length bytes) (sets old 0 bytes) ≡ take (length old) bytes
    by (yes h) = fits-written old bytes h ∙ sym (take_all (length old) bytes h)
    by (no h) =
        let all : length (sets old 0 bytes) ≡ length old = length-sets old 0 bytes in
        take_all (length bytes) (sets old 0 bytes) (omega (arith, all)) ∙ fills-written old bytes (omega arith)
