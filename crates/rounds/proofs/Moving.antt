-- The rounds, turn by turn: what the promises' rows, the log and the news are between two phases, along stored moves or by tests.
-- Assumes nothing.
use mathlib.Core.Path.{◌≡◌, refl, sym, ap, subst, ◌∙◌}
use mathlib.Core.Logic.{◌⊎◌, inl, inr}
use mathlib.Core.Bool.{Bool, true, false, cond}
use mathlib.Core.List.{List}
use Prim.Native.Nat.{ℕ, zero, suc, ◌-◌, ◌*◌, ◌≤◌, ◌<◌}
use native.Mathlib.Decide.{ℕ_discrete}
use native.Mathlib.Omega.{arith}
use lib.ListN.{length, get_or, set, length-set}
use lib.Seq.{get_or-set_same, get_or-set_other}
use Rattle.ground.specs.Listed.{Between}
use Rattle.ground.specs.Wiping.{Zeros}
use Rattle.meaning.specs.Promises.{most_states}
use Rattle.rules.specs.Book.{book_system, promises_of, book_kept}
use Rattle.distances.specs.Far.{Unstruck}
use Rattle.distances.specs.Values.{kept_in}
use Rattle.watch.specs.Witness.{nobody, itself, Log, BegunRow}
use Rattle.watch.specs.Turns.{FallsAt, was, keeps, falls, FellTo, Before, first, again, Watched}
use Rattle.ends_tests.specs.Phases.{Phased}
use Rattle.rounds.specs.Phases.{Strikable}
use Rattle.rounds.specs.Rows.{never_yet, row_of, RoomForRows, Beginnable, BegunRows, RowLent, RowTurned}
use Rattle.rounds.proofs.Running.{free_all, strikable-lawful}
use Rattle.rounds.proofs.Rows.{row-long, row_inside}
use Rattle.rounds.proofs.Saved.{Moves, Keeps, watched-phased}

-- ---- a row that rests while others strike

-- more places are struck: they stand in the log behind its first m
pub record Fallen (words words' : List ℕ) (r : ℕ) (log log' : List ℕ) (m m' : ℕ) : Type 0 where
  pub free-before : (i : ℕ) → i < r → Unstruck words' i → Unstruck words i
  pub grows : m ≤ m'
  pub kept : (t : ℕ) → t < m → get_or log' t 0 ≡ get_or log t 0
  pub log_is : Log words' r log' m'
  pub log_long : length log' ≡ length log
  pub noted : (i : ℕ) → i < r → Unstruck words i → (Unstruck words' i → ⊥) → Between log' m m' i

-- Who stood alone fell.
pub fell-fallen : {row words words' log log' : List ℕ} {r word m m' : ℕ} → length row ≡ r → FellTo row word words words' log log' m m'
    → Fallen words words' r log log' m m'
fell-fallen {row = row} {words = words} {words' = words'} {log' = log'} {word = word} {m' = m'} long F = record {
  free-before = λ i h u. by i u (F.each i (omega (arith, h, long)));
  grows = F.grows;
  kept = F.kept;
  log_is = subst (λ (n : ℕ). Log words' n log' m') long F.log_is;
  log_long = F.log_long;
  noted = λ i h. F.noted i (omega (arith, h, long));
}
  where
    by : (i : ℕ) → Unstruck words' i → FallsAt word (get_or words i 0) (get_or words' i 0) (get_or row i 0) → Unstruck words i
    by i u (was n e) = absurd (n (sym e ∙ u))
    by i u (keeps o e n) = o
    by i u (falls o e x) = o

module _ (row : List ℕ) {words words' log log' : List ℕ} {r m m' : ℕ} (long : length row ≡ r)
    (K : Fallen words words' r log log' m m') where
  pub fallen-log : Log words' (length row) log' m'
  fallen-log = subst (λ (n : ℕ). Log words' n log' m') (sym long) K.log_is

  pub fallen-free : (i : ℕ) → i < length row → Unstruck words' i → Unstruck words i
  fallen-free i h u = K.free-before i (omega (arith, h, long)) u

  -- Whom a place names is unstruck, or news.
  pub fallen-named : (from j : ℕ) → from ≤ m → j < length row → Unstruck words j ⊎ Between log from m j
      → Unstruck words' j ⊎ Between log' from m' j
  fallen-named from j h l (inr s) = inr (s.0, s.1, omega (arith, s.2, K.grows), K.kept s.0 s.2 ∙ s.3)
  fallen-named from j h l (inl u) = by (ℕ_discrete (get_or words' j 0) 0)
    where
      by : Dec (Unstruck words' j) → Unstruck words' j ⊎ Between log' from m' j
      by (yes q) = inl q
      by (no q) = let s = K.noted j (omega (arith, l, long)) u q in inr (s.0, omega (arith, s.1, h), s.2, s.3)

  before_on : {M : ℕ → ℕ → Type 0} {from : ℕ} → (m < from → m' < from) → Before words row M log from m → Before words' row M log' from m'
  before_on fresh (first h F) = first (fresh h) (record { log_is = fallen-log; few = F.few; each = F.each })
  before_on {from = from} fresh (again R) = again (record {
    log_is = fallen-log;
    since = omega (arith, R.since, K.grows);
    pointed = R.pointed;
    chained = λ i h u. R.chained i h (fallen-free i h u);
    helped = λ i h u. R.helped i h (fallen-free i h u);
    noted = λ i h u l. fallen-named from (get_or row i 0) R.since l (R.noted i h (fallen-free i h u) l);
  })

-- a test is true or not
bool-dec : (b : Bool) → (b ≡ true) ⊎ (b ≡ true → ⊥)
bool-dec true = inl refl
bool-dec false = inr (λ e. let z : ◌≡◌ {A = ℕ} 0 1 = ap (λ (b : Bool). cond b 1 0) e in absurd (omega arith))

-- ---- all rows

-- between two phases: every promise's row rests or is fresh, and who keeps a promise has its number
pub record Moving (book table : List ℕ) (r : ℕ) (words wit : List ℕ) (M : ℕ → ℕ → Type 0) (log : List ℕ) (m : ℕ)
    (news : List ℕ) : Type 0 where
  pub log_is : Log words r log m
  pub before : (k : ℕ) → k < promises_of book → Before words (row_of r (suc k) wit) M log (get_or news (suc k) 0) m
  pub own : (k : ℕ) → k < promises_of book → Keeps book table r k (row_of r (suc k) wit)
  pub never-yet : (q : ℕ) → q ≤ promises_of book → (get_or news q 0 ≤ m) ⊎ (get_or news q 0 ≡ never_yet)
  pub reasons : length news ≡ 17

-- one phase, whatever its way: it struck what its reason does not save, and changed no row but its own
pub record Stepped (book table : List ℕ) (r : ℕ) (words words' wit wit' : List ℕ) (M : ℕ → ℕ → Type 0) (log log' : List ℕ)
    (reason word m end : ℕ)
    : Type 0 where
  pub long : length wit' ≡ length wit
  pub others : (q : ℕ) → (q ≡ reason → ⊥) → suc q * r ≤ length wit → row_of r q wit' ≡ row_of r q wit
  pub phased : Phased (book_system book) table r reason word words words' (end - m)
  pub fallen : Fallen words words' r log log' m end
  pub watched : (reason ≡ 0 → ⊥) → Watched words words' (row_of r reason wit) (row_of r reason wit') M log log' m end word

-- ---- before the first phase

module _ {book table : List ℕ} {r : ℕ} {words old log line : List ℕ} (A : Strikable book table words r)
    (R : RoomForRows book r old log line) where
  -- The log is empty.
  pub log-none : Zeros words r → Log words r log 0
  log-none zeros = record {
    in_words = A.in_words;
    in-log = R.in-log;
    count = omega (arith, free_all words r zeros);
    places = λ t h. absurd (omega arith);
  }

  -- The rows may begin.
  pub rows-beginnable : Beginnable book table r old
  rows-beginnable = record { states = strikable-lawful _ _ _ _ A; room = R.room }

  -- They are fresh.
  pub moving-none : {first wit news : List ℕ} (M : ℕ → ℕ → Type 0) → Zeros words r → length first ≡ length old
      → BegunRows book table r first wit
      → length news ≡ 17 → ((q : ℕ) → q < 17 → get_or news q 0 ≡ never_yet) → Moving book table r words wit M log 0 news
  moving-none {wit = wit} M zeros same B seventeen never = record {
    log_is = log-none zeros;
    before = λ k h. first (omega (arith, never (suc k) (few (suc k) h))) (record {
      log_is = subst (λ (n : ℕ). Log words n log 0) (sym (long-row (suc k) h)) (log-none zeros);
      few = omega (arith, long-row (suc k) h, A.few);
      each = λ i l. begun-each (B.begun k h) i l;
    });
    own = λ k h i l. begun-own (B.begun k h) i (omega (arith, l, long-row (suc k) h));
    never-yet = λ q h. inr (never q (few q h));
    reasons = seventeen;
  }
    where
      few : (q : ℕ) → q ≤ promises_of book → q < 17
      few q h = omega (arith, h, A.shaped.few-promises)

      long-row : (q : ℕ) → q ≤ promises_of book → length (row_of r q wit) ≡ r
      long-row q h = row-long r q wit (let a = row_inside q (promises_of book) r _ h R.room in omega (arith, a, B.long, same))

      begun-each : {k : ℕ} {row : List ℕ} → BegunRow book k table row row → (i : ℕ) → i < length row → (get_or row i 0 ≡ nobody)
          ⊎ (get_or row i 0 ≡ itself)
      begun-each {k = k} {row = row} b i l = by (bool-dec (book_kept book k (get_or table i 0)))
        where
          by : (kept_in book k (get_or table i 0)) ⊎ (kept_in book k (get_or table i 0) → ⊥) → (get_or row i 0 ≡ nobody) ⊎ (get_or row i 0 ≡ itself)
          by (inl e) = inr (b.keeps i l e)
          by (inr n) = inl (b.lacks i l n)

      begun-own : {k : ℕ} {row : List ℕ} → BegunRow book k table row row → (i : ℕ) → i < length row
          → (get_or row i 0 ≡ itself → kept_in book k (get_or table i 0)) × (kept_in book k (get_or table i 0) → get_or row i 0 ≡ itself)
      begun-own {k = k} {row = row} b i l = (λ e. by e (bool-dec (book_kept book k (get_or table i 0))), b.keeps i l)
        where
          by : get_or row i 0 ≡ itself → (kept_in book k (get_or table i 0)) ⊎ (kept_in book k (get_or table i 0) → ⊥)
              → kept_in book k (get_or table i 0)
          by e (inl x) = x
          by e (inr n) = absurd (omega (arith, e, b.lacks i l n))

-- ---- from phase to phase

module _ {book table : List ℕ} {r : ℕ} {words₀ words old wit : List ℕ} {M : ℕ → ℕ → Type 0} {log₀ log line : List ℕ} {m reason : ℕ}
    {news : List ℕ}
    (A : Strikable book table words₀ r) (R : RoomForRows book r old log₀ line) (Mo : Moving book table r words wit M log m news)
    (long : length wit ≡ length old) (within : reason ≤ promises_of book) where
  -- The rows of all reasons lie in the list, and have r places.
  pub moving-inside : (q : ℕ) → q ≤ promises_of book → suc q * r ≤ length wit
  moving-inside q h = let a = row_inside q (promises_of book) r _ h R.room in omega (arith, a, long)

  pub moving-row : (q : ℕ) → q ≤ promises_of book → length (row_of r q wit) ≡ r
  moving-row q h = row-long r q wit (moving-inside q h)

  -- What the next phase asks of its row, if it is a promise's.
  pub moving-before : (reason ≡ 0 → ⊥) → Before words (row_of r reason wit) M log (get_or news reason 0) m
  moving-before n = at reason n within
    where
      at : (q : ℕ) → (q ≡ 0 → ⊥) → q ≤ promises_of book → Before words (row_of r q wit) M log (get_or news q 0) m
      at zero n h = absurd (n refl)
      at (suc k) n h = Mo.before k (omega arith)

  -- The next phase may be lent its row, the log and the line.
  pub moving-lent : {line' : List ℕ} → length log ≡ length log₀ → length line' ≡ length line → reason ≤ 16
      → RowLent words wit M log line' r reason m (get_or news reason 0)
  moving-lent logs same few = record {
    few_reasons = few;
    room = moving-inside reason within;
    in_line = omega (arith, same, R.in_line);
    line_few = omega (arith, same, R.line_few);
    log_few = omega (arith, logs, R.log_few);
    before = moving-before;
  }

  -- It is a phase if reason 0's is: a promise's has struck who has no witness.
  pub moving-stepped : {Zeroth : List ℕ → List ℕ → Type 0} {words' wit' log' : List ℕ} {word end : ℕ} → Moves book table r M
      → (Zeroth (row_of r 0 wit) (row_of r 0 wit')
      → Phased (book_system book) table r 0 word words words' (end - m) × Fallen words words' r log log' m end)
      → RowTurned Zeroth words words' wit wit' M log log' r reason word m end
      → Stepped book table r words words' wit wit' M log log' reason word m end
  moving-stepped {words' = words'} {wit' = wit'} {log' = log'} {word = word} {end = end} moves zeroth D =
      record { long = D.long; others = D.others; phased = (by reason refl).0; fallen = (by reason refl).1; watched = D.watched }
    where
      told : (q : ℕ) → reason ≡ q → Phased (book_system book) table r q word words words' (end - m)
          → Phased (book_system book) table r reason word words words' (end - m)
      told q e = subst (λ (x : ℕ). Phased (book_system book) table r x word words words' (end - m)) (sym e)

      by : (q : ℕ) → reason ≡ q → Phased (book_system book) table r reason word words words' (end - m) × Fallen words words' r log log' m end
      by zero e = let first = zeroth (D.zeroth e) in (told 0 e first.0, first.1)
      by (suc k) e =
          let W = subst (λ (x : ℕ). Watched words words' (row_of r x wit) (row_of r x wit') M log log' m end word) e
          (D.watched (λ z. absurd (omega (arith, z, e)))) in
          let h : k < promises_of book = omega (arith, e, within) in (
            told (suc k) e (watched-phased moves (moving-row (suc k) h) Mo.log_is (Mo.own k h) W),
            fell-fallen (W.long ∙ moving-row (suc k) h) W.fell,
          )

  module _ {words' wit' log' : List ℕ} {word end : ℕ} (D : Stepped book table r words words' wit wit' M log log' reason word m end) where
    -- The log stays short.
    pub moving-short : end ≤ most_states
    moving-short = omega (arith, D.fallen.log_is.count, A.few)

    -- What a row had no news of it still has none of.
    pub moving-later : (q : ℕ) → q ≤ promises_of book → m < get_or news q 0 → end < get_or news q 0
    moving-later q h l = by (Mo.never-yet q h)
      where
        by : (get_or news q 0 ≤ m) ⊎ (get_or news q 0 ≡ never_yet) → end < get_or news q 0
        by (inl x) = absurd (omega arith)
        by (inr x) = omega (arith, x, moving-short)

    -- Where the phase's news are from now on, and those of the others.
    in-news : reason < length news
    in-news = omega (arith, within, A.shaped.few-promises, Mo.reasons)

    pub news-here : (since q : ℕ) → q ≡ reason → get_or (set news reason since) q 0 ≡ since
    news-here since q e = ap (λ (x : ℕ). get_or (set news reason since) x 0) e ∙ get_or-set_same news reason since 0 in-news

    pub news-there : (since q : ℕ) → (q ≡ reason → ⊥) → get_or (set news reason since) q 0 ≡ get_or news q 0
    news-there since q n = get_or-set_other news reason q since 0 n

    -- One turn. A promise's news are what fell after its phase.
    pub moving-more : (since : ℕ) → since ≤ end → ((reason ≡ 0 → ⊥) → since ≡ end)
        → Moving book table r words' wit' M log' end (set news reason since)
    moving-more since early last = record {
      log_is = D.fallen.log_is;
      before = λ k h. before_at k h (ℕ_discrete (suc k) reason);
      own = λ k h. own_at k h (ℕ_discrete (suc k) reason);
      never-yet = λ q h. never-at q h (ℕ_discrete q reason);
      reasons = length-set news reason since ∙ Mo.reasons;
    }
      where
        before_at : (k : ℕ) → k < promises_of book → Dec (suc k ≡ reason)
            → Before words' (row_of r (suc k) wit') M log' (get_or (set news reason since) (suc k) 0) end
        before_at k h (yes e) =
            subst (λ (x : ℕ). Before words' (row_of r (suc k) wit') M log' x end)
            (sym (news-here since (suc k) e ∙ last (λ z. absurd (omega (arith, z, e)))))
            (subst (λ (x : ℕ). Before words' (row_of r x wit') M log' end end) (sym e)
            (again (D.watched (λ z. absurd (omega (arith, z, e)))).rested))
        before_at k h (no n) =
            subst (λ (x : ℕ). Before words' (row_of r (suc k) wit') M log' x end) (sym (news-there since (suc k) n))
            (subst (λ (row : List ℕ). Before words' row M log' (get_or news (suc k) 0) end)
            (sym (D.others (suc k) n (moving-inside (suc k) h)))
            (before_on (row_of r (suc k) wit) (moving-row (suc k) h) D.fallen (moving-later (suc k) h) (Mo.before k h)))

        own_at : (k : ℕ) → k < promises_of book → Dec (suc k ≡ reason) → Keeps book table r k (row_of r (suc k) wit')
        own_at k h (no n) = subst (Keeps book table r k) (sym (D.others (suc k) n (moving-inside (suc k) h))) (Mo.own k h)
        own_at k h (yes e) = λ i l.
            let same = W.own i (omega (arith, l, W.long, moving-row (suc k) h)) in
            (λ x. (Mo.own k h i l).0 (same.0 x), λ x. same.1 ((Mo.own k h i l).1 x))
          where
            W : Watched words words' (row_of r (suc k) wit) (row_of r (suc k) wit') M log log' m end word
            W = subst (λ (x : ℕ). Watched words words' (row_of r x wit) (row_of r x wit') M log log' m end word) (sym e)
                (D.watched (λ z. absurd (omega (arith, z, e))))

        never-at : (q : ℕ) → q ≤ promises_of book → Dec (q ≡ reason) → (get_or (set news reason since) q 0 ≤ end)
            ⊎ (get_or (set news reason since) q 0 ≡ never_yet)
        never-at q h (yes e) = inl (omega (arith, news-here since q e, early))
        never-at q h (no n) = by (Mo.never-yet q h)
          where
            by : (get_or news q 0 ≤ m) ⊎ (get_or news q 0 ≡ never_yet) → (get_or (set news reason since) q 0 ≤ end)
                ⊎ (get_or (set news reason since) q 0 ≡ never_yet)
            by (inl x) = inl (omega (arith, news-there since q n, x, D.fallen.grows))
            by (inr x) = inr (news-there since q n ∙ x)
