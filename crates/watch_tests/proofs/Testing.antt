-- Watching by tests: whether one place helps another, the search for a helper, cutting off by number, and one phase as a whole.
-- Assumes nothing.
use mathlib.Core.Path.{◌≡◌, refl, sym, ap, subst, ◌∙◌}
use mathlib.Core.Logic.{◌⊎◌, inl, inr}
use mathlib.Core.Bool.{Bool, true, false}
use mathlib.Core.List.{List}
use Rattle.std.proofs.Common.{Some, None}
use Prim.Native.Nat.{ℕ, ◌+◌, ◌≤◌, ◌<◌}
use native.Mathlib.Decide.{ℕ_discrete}
use native.Mathlib.Omega.{arith}
use lib.ListN.{length, get_or, set}
use Rattle.meaning.specs.Promises.{most_states}
use Rattle.rules.specs.Table.{To}
use Rattle.rules_signs.specs.Signs.{Signed}
use Rattle.distances.specs.Far.{Unstruck}
use Rattle.watch.specs.Witness.{nobody, Hangs, Hangable}
use Rattle.watch.specs.Turns.{IsSo, HelperIn, Turnable, Redirected, Loosened, Line, Before}
use Rattle.watch_tests.specs.Tests.{Fronted, Copied, Spreading, Testable, HelpsIt, WatchingByTests}
use Rattle.watch.proofs.Turning.{redirects-same, redirected-by, turned_none, place-past, place-room, place-more}
use Rattle.watch.proofs.Phasing.{before-log, lost-hangable}
use Rattle.watch_tests.proofs.Ranking.{copied-ranked, fronted-pending}
use Rattle.watch_tests.proofs.Sifting.{testable-same}

-- ---- seeking a helper, place by place

-- none of the first e places helps place i
abbrev pub NoHelper : (words row : List ℕ) (M : ℕ → ℕ → Type 0) (i e : ℕ) → Type 0
NoHelper words row M i e = (j : ℕ) → j < e → Unstruck words j → (get_or row j 0 ≡ nobody → ⊥) → M i j → ⊥

module _ (words row : List ℕ) (M : ℕ → ℕ → Type 0) (i : ℕ) where
  pub seek-more : (e : ℕ) {b : Bool} → NoHelper words row M i e → HelpsIt words row M i e b → b ≡ false → NoHelper words row M i (e + 1)
  seek-more e N H f j h z o l = by (ℕ_discrete j e)
    where
      by : Dec (j ≡ e) → ⊥
      by (yes q) =
          H.never f (ap (λ (x : ℕ). get_or words x 0) (sym q) ∙ z) (λ g. o (ap (λ (x : ℕ). get_or row x 0) q ∙ g)) (subst (M i) q l)
      by (no q) = N j (omega arith) z o l

  pub seek_found : (j : ℕ) {b : Bool} → j < length row → HelpsIt words row M i j b → b ≡ true → HelperIn words row M i (Some j)
  seek_found j h H t = let u = H.yes t in record { inside = h; moves = u.2; unstruck = u.0; helped = u.1 }

  pub seek-all : (e : ℕ) → NoHelper words row M i e → length row ≤ e → HelperIn words row M i None
  seek-all e N over = λ j h l z o. N j (omega arith) z o l

-- ---- cutting off, place by place

-- place i is one of the first e
abbrev pub Below : (e i : ℕ) → Type 0
Below e i = i < e

module _ (words : List ℕ) (was to : ℕ) (old : List ℕ) (n : ℕ) (before : List ℕ) (ready : Turnable words old was to before n) where
  pub turn-none : Redirected (Below 0) words was to old old n before before n
  turn-none = turned_none (Below 0) (λ i p. omega arith) words was to old n before ready.apart

  module _ (row line : List ℕ) (m i : ℕ) (r : Redirected (Below i) words was to old row n before line m) (inside : i < length old) where
    grows : (j : ℕ) → j < i → j < i + 1
    grows j h = omega arith

    splits : (j : ℕ) → j < i + 1 → (j < i) ⊎ (j ≡ i)
    splits j h = by (ℕ_discrete j i)
      where
        by : Dec (j ≡ i) → (j < i) ⊎ (j ≡ i)
        by (yes q) = inr q
        by (no q) = inl (omega arith)

    pub turn-past : {b : Bool} → IsSo words row i was b → b ≡ false → Redirected (Below (i + 1)) words was to old row n before line m
    turn-past so f = place-past (Below i) words was to old n before ready row line m r i inside (Below (i + 1)) grows splits (so.never f)

    pub turn-room : {b : Bool} → IsSo words row i was b → b ≡ true → (m < length line) × (m < most_states)
    turn-room so t = place-room (Below i) words was to old n before ready row line m r i inside (so.yes t).0 (so.yes t).1

    pub turn_more : {b : Bool} → IsSo words row i was b → b ≡ true
        → Redirected (Below (i + 1)) words was to old (set row i to) n before (set line m i) (m + 1)
    turn_more so t =
        place-more (Below i) words was to old n before ready row line m r i inside (Below (i + 1)) grows splits (so.yes t).0
        (so.yes t).1 (omega arith)

  pub turn-done : (row line : List ℕ) (m i : ℕ) → Redirected (Below i) words was to old row n before line m → i ≤ length old
      → length old ≤ i
      → Redirected (Below (length old)) words was to old row n before line m
  turn-done row line m i r most over = redirected-by words was to old row n before line m r
      (λ j. redirects-same (λ p. omega arith) (λ p. omega arith))

-- ---- from part to part

-- Who may hang anew hangs, as far as it has a witness.
pub hangable-hangs : {words row log : List ℕ} {M : ℕ → ℕ → Type 0} {m tail : ℕ} → Hangable words row M log m tail → Hangs words row row M
hangable-hangs H = record { long = refl; pointed = H.pointed; hung = H.hung; own = λ i h. (λ e. e, λ e. e); only = λ i h e. e }

-- Behind the front the line has room for all who stand alone, so that it may be spread from there.
module _ {book table words row signs line line' log : List ℕ} {m tail n k : ℕ} (T : Testable book table words row signs line (length row))
    (within : n + tail ≤ m + length row) (C : Copied log m tail line line' n k) where
  pub copied-testable : Testable book table words row signs line' k
  copied-testable = record {
    signed = T.signed;
    in_words = T.in_words;
    room = let a = C.count in let b = C.long in let c = T.room in omega arith;
    line_few = let b = C.long in let c = T.line_few in omega arith;
  }

-- After the places were cut off, the moves can be tested.
pub cut-testable : {book table words row row' signs log log' line : List ℕ} {M : ℕ → ℕ → Type 0} {from m tail : ℕ}
    → Before words row M log from m
    → Loosened words row row' log log' m tail → Signed book table (length row) signs → Line row line
    → Testable book table words row' signs line (length row')
cut-testable {book = book} {table = table} {signs = signs} B L S K = record {
  signed = subst (λ (x : ℕ). Signed book table x signs) (sym L.long) S;
  in_words = let a = (before-log B).in_words in let b = L.long in omega arith;
  room = let a = K.in_line in let b = L.long in omega arith;
  line_few = K.line_few;
}

-- ---- the first phase

module _ {book table words row signs log log' old line : List ℕ} {m from word tail n : ℕ}
    (W : WatchingByTests book table words row signs log old m from word)
    (L : Loosened words row row log log' m tail) (F : Fronted words row (length row) old line n) (within : n + tail ≤ m + length row) where
  -- Then the line may be spread from.
  module _ {line' : List ℕ} {k : ℕ} (C : Copied log' m tail line line' n k) where
    pub first-testable : Testable book table words row signs line' k
    first-testable = copied-testable (testable-same (cut-testable W.before L W.signed W.line_is) refl F.long) within C

    pub first-spreading : Spreading words row row (To book table) line' 0 n k
    first-spreading = let H = lost-hangable W.before L in record {
      hangs = hangable-hangs H;
      ranked = copied-ranked H F.places C;
      pending = fronted-pending (To book table) F C;
    }
