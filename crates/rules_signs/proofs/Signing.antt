-- What written rows say: a rule with a bit in both rows forbids the move, and where every live rule has a bit, nothing else does (signed,
-- filled). A place whose unmet rules are unmet at another is reached by whoever reaches that (stricter-moves). Assumes nothing.
use mathlib.Core.Path.{◌≡◌, refl, sym, ◌∙◌, subst}
use mathlib.Core.Bool.{Bool, true, false, not, ◌||◌}
use mathlib.Core.List.{List}
use Prim.Native.Nat.{ℕ, ◌*◌, ◌≤◌, ◌<◌}
use native.Mathlib.Omega.{arith}
use lib.ListN.{length, get_or, set, length-set}
use Rattle.ground.specs.Listed.{Has}
use Rattle.ground.proofs.Storing.{set_apart, set_here}
use Rattle.ground.proofs.Tests.{no_both}
use Rattle.rules.specs.Book.{all_at, some_at, step_at, right_at, steps_of, step_ok, steps_ok}
use Rattle.rules.specs.Rows.{KeptBelow}
use Rattle.rules.specs.Table.{LawfulTable, To}
use Rattle.rules.proofs.Facts.{move-steps, steps-move}
use Rattle.rules.proofs.FreerLaws.{below_at, below_all}
use Rattle.rules_signs.specs.Words.{Within, word_size, most_words}
use Rattle.rules_signs.specs.Live.{Live, sign_test}
use Rattle.rules_signs.specs.Signs.{Signed, RowsTo, words_of, whole_of, head_size, asked_from, unmet_from}
use Rattle.rules_signs.proofs.Comparing.{words-apart, apart_none, apart-within}

-- A rule that asks something, and is not met, does not allow the step.
forbids : (a s : Bool) → not a || s ≡ true → a ≡ true → not s ≡ true → ⊥
forbids true true e p q = no_both q refl
forbids true false e p q = no_both e refl
forbids false s e p q = no_both p refl

-- Any other allows it.
allows : (a s : Bool) → (a ≡ true → not s ≡ true → ⊥) → not a || s ≡ true
allows true true never = refl
allows true false never = absurd (never refl refl)
allows false s never = refl

-- Writing the head leaves the list as long as it was.
pub head-long : (l : List ℕ) (w f : ℕ) → length (set (set l 0 w) 1 f) ≡ length l
head-long l w f = length-set (set l 0 w) 1 f ∙ length-set l 0 w

module _ {book table live : List ℕ} {r n : ℕ} (states : LawfulTable book table r) (L : Live book table r live n) where
  -- Where a move leads, no live rule asks for what is not met.
  none-forbids : (i j : ℕ) → To book table i j → (c : ℕ) → c < n → sign_test true book live (get_or table i 0) c ≡ true
      → sign_test false book live (get_or table j 0) c ≡ true → ⊥
  unfolding steps_ok step_ok
  none-forbids i j m c h =
      forbids _ _ (below_at (steps_of book) (step_ok book (get_or table i 0) (get_or table j 0)) (move-steps book _ _ m) (get_or live c 0)
      (L.ruled.rules c h))

  -- Where no live rule does, a move leads.
  all-allow : (i j : ℕ) → i < r → j < r
      → ((c : ℕ) → c < n → sign_test true book live (get_or table i 0) c ≡ true → sign_test false book live (get_or table j 0) c ≡ true → ⊥)
      → To book table i j
  unfolding steps_ok step_ok
  all-allow i j hi hj never =
      steps-move book _ _ (states.lawful i hi) (states.lawful j hj)
      (below_all (steps_of book) (step_ok book (get_or table i 0) (get_or table j 0))
      (λ k h. allows (all_at book (step_at k) (get_or table i 0)) (some_at book (right_at k) (get_or table j 0))
      (λ a u. at k (L.all k h i hi a) a u)))
    where
      at : (k : ℕ) → Has live n k → all_at book (step_at k) (get_or table i 0) ≡ true → not (some_at book (right_at k) (get_or table j 0)) ≡ true
          → ⊥
      at k (c, h, e) a u =
          never c h (subst (λ (x : ℕ). all_at book (step_at x) (get_or table i 0) ≡ true) (sym e) a)
          (subst (λ (x : ℕ). not (some_at book (right_at x) (get_or table j 0)) ≡ true) (sym e) u)

  -- The rows of all places are the table's signs.
  pub signed : (w : ℕ) (signs : List ℕ) → RowsTo book table live n w signs r → words_of signs ≡ w → (whole_of signs ≡ 1 → n ≤ word_size * w)
      → w ≤ most_words → asked_from w r ≤ length signs → Signed book table r signs
  signed w signs R e full narrow room = record {
    states = states;
    roomed = record {
      headed = omega arith;
      few-places = states.few;
      few_words = omega arith;
      room = subst (λ (k : ℕ). asked_from k r ≤ length signs) (sym e) room;
    };
    free = λ i j hi hj m. words-apart (rows.asked i hi) (rows.unmet j hj) (none-forbids i j m);
    moves = λ whole i j hi hj A. all-allow i j hi hj (apart_none (rows.asked i hi) (rows.unmet j hj) (omega (arith, full whole)) A);
  }
    where
      rows : RowsTo book table live n (words_of signs) signs r
      rows = subst (λ (k : ℕ). RowsTo book table live n k signs r) (sym e) R

  -- So are rows written behind a head that was written before.
  pub filled : (w f : ℕ) (l signs : List ℕ) → head_size ≤ length l → (f ≡ 1 → n ≤ word_size * w) → w ≤ most_words → asked_from w r ≤ length l
      → RowsTo book table live n w signs r → KeptBelow head_size (set (set l 0 w) 1 f) signs → Signed book table r signs
      × (length signs ≡ length l)
  filled w f l signs head full narrow room R K =
      (signed w signs R first (λ e. full (sym second ∙ e)) narrow (omega (arith, long)), long)
    where
      long : length signs ≡ length l
      long = K.long ∙ head-long l w f

      first : words_of signs ≡ w
      first = K.same 0 (omega arith) ∙ set_apart (set l 0 w) 1 0 f (λ e. omega arith) ∙ set_here l 0 0 w refl (omega arith)

      second : whole_of signs ≡ f
      second = K.same 1 (omega arith) ∙ set_here (set l 0 w) 1 1 f refl (omega (arith, length-set l 0 w))

-- Whoever moves to place j moves to place k, whose unmet rules are among those of j.
pub stricter-moves :
    {book table : List ℕ} {r : ℕ} {signs : List ℕ} → Signed book table r signs → whole_of signs ≡ 1 → (k j : ℕ) → k < r → j < r
    → Within signs (unmet_from (words_of signs) k) (unmet_from (words_of signs) j) (words_of signs) → (i : ℕ) → i < r → To book table i j
    → To book table i k
stricter-moves S whole k j hk hj W i hi m = S.moves whole i k hi hk (apart-within _ W (S.free i j hi hj m))
