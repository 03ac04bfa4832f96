-- The rounds by tests: the row of the pointers between two phases of reason 0, and one phase. Assumes nothing.
use mathlib.Core.Path.{◌≡◌, sym, ap, subst, ◌∙◌}
use mathlib.Core.List.{List}
use Prim.Native.Nat.{ℕ, ◌+◌, ◌-◌, ◌*◌, ◌≤◌, ◌<◌}
use native.Mathlib.Decide.{ℕ_discrete}
use native.Mathlib.Omega.{arith}
use lib.ListN.{length, get_or, take, drop}
use lib.Seq.{length-take-le, get_or-take}
use Rattle.ground.specs.Wiping.{Zeros}
use Rattle.rules.specs.Book.{book_system, promises_of}
use Rattle.rules.specs.Table.{To}
use Rattle.rules_signs.specs.Signs.{Signed}
use Rattle.watch.specs.Witness.{Log}
use Rattle.watch_tests.specs.Tests.{WatchingByTests}
use Rattle.ends_tests.specs.Phases.{fresh, Pointers, Phased, Unphased, Striking, DeadDone}
use Rattle.ends_tests.proofs.Fewer.{phased-free, pointers-fewer}
use Rattle.rounds.specs.declared.Course.{Course}
use Rattle.rounds.specs.declared.Turn.{Turn}
use Rattle.rounds.specs.Courses.{turn_of}
use Rattle.rounds.specs.Rows.{row_of, BegunRows}
use Rattle.rounds_tests.specs.Tests.{RunnableByTests, TestsDone, StrikableByTests}
use Rattle.rounds.proofs.Rows.{lent_row, front-row, row-long, front-inside}
use Rattle.rounds.proofs.Running.{strikable-rises}
use Rattle.rounds.proofs.Saved.{Moves}
use Rattle.rounds.proofs.Moving.{Fallen, Moving, Stepped, moving-lent, moving-stepped, moving-inside, moving-row}

-- What is tested is the table's moves.
tested-moves : (book table : List ℕ) (r : ℕ) → Moves book table r (To book table)
tested-moves book table r = record { sound = λ i j h k m. m; whole = λ i j h k m. m }

-- ---- the pointers

-- Before the first phase they are all 0.
pub pointers-none : (book table words wit : List ℕ) (r : ℕ) → Zeros wit r → Pointers book table words (row_of r 0 wit) r
pointers-none book table words wit r zeros i h u =
    fresh (ap (λ (l : List ℕ). get_or l i 0) (sym (front-row r wit)) ∙ get_or-take r wit i 0 h ∙ zeros i h)

-- So they are once the rows have begun.
pub pointers-begun : {book table words : List ℕ} {r : ℕ} {signs old log line wit : List ℕ}
    → StrikableByTests book table words r signs old log line
    → BegunRows book table r old wit → Pointers book table words (row_of r 0 wit) r
pointers-begun {book = book} {table = table} {words = words} {r = r} {old = old} A B =
    subst (λ (l : List ℕ). Pointers book table words l r) (sym B.zeroth) (pointers-none book table words old r A.pointers)

-- The dead ends fell.
dead-fallen : {book table words words' row row' log log' : List ℕ} {r word m end : ℕ} → length row ≡ r → 0 < word
    → DeadDone book table word words words' row row' log log' m end → Fallen words words' r log log' m end
dead-fallen {words' = words'} {log' = log'} {end = end} long some D = record {
  free-before = λ i h u. phased-free D.phased some i (omega (arith, h, long)) u;
  grows = D.grows;
  kept = D.kept;
  log_is = subst (λ (n : ℕ). Log words' n log' end) long D.log_is;
  log_long = D.log_long;
  noted = λ i h. D.noted i (omega (arith, h, long));
}

module _ {book table : List ℕ} {r : ℕ} {words₀ words old wit signs log₀ log line : List ℕ} {m reason : ℕ} {news : List ℕ}
    (A : StrikableByTests book table words₀ r signs old log₀ line) (Mo : Moving book table r words wit (To book table) log m news)
    (long : length wit ≡ length old) (within : reason ≤ promises_of book) where
  -- The next phase may be run.
  pub tests-testable : {line' : List ℕ} {word : ℕ} → Pointers book table words (row_of r 0 wit) r → length log ≡ length log₀
      → length line' ≡ length line
      → Unphased words r word → reason ≤ 16 → RunnableByTests book table words wit signs log line' r reason word m (get_or news reason 0)
  tests-testable pointers logs same unphased few = record {
    lent = moving-lent A.asked A.roomed Mo long within logs same few;
    signed = A.signed;
    rises = strikable-rises _ _ _ _ A.asked;
    unphased = unphased;
    log_is = Mo.log_is;
    pointers = pointers;
  }

  module _ {words' wit' log' : List ℕ} {word end : ℕ} (some : 0 < word)
      (D : TestsDone book table words words' wit wit' log log' r reason word m end) where
    row : (q : ℕ) → q ≤ promises_of book → length (row_of r q wit) ≡ r
    row = moving-row A.asked A.roomed Mo long within

    -- It is a phase.
    pub tests-stepped : Stepped book table r words words' wit wit' (To book table) log log' reason word m end
    tests-stepped =
        moving-stepped A.asked A.roomed Mo long within (tested-moves book table r)
        (λ dead. (
          subst (λ (n : ℕ). Phased (book_system book) table n 0 word words words' (end - m)) (row 0 (omega arith)) dead.phased,
          dead-fallen (row 0 (omega arith)) some dead,
        )) D

    -- The pointers, after it.
    pub pointers-more : Pointers book table words (row_of r 0 wit) r → Pointers book table words' (row_of r 0 wit') r
    pointers-more pointers = by (ℕ_discrete 0 reason)
      where
        by : Dec (0 ≡ reason) → Pointers book table words' (row_of r 0 wit') r
        by (yes e) = subst (λ (n : ℕ). Pointers book table words' (row_of r 0 wit') n) (row 0 (omega arith)) (D.zeroth (sym e)).pointers
        by (no n) =
            subst (λ (l : List ℕ). Pointers book table words' l r)
            (sym (D.others 0 n (moving-inside A.asked A.roomed Mo long within 0 (omega arith))))
            (pointers-fewer book table words words' (row_of r 0 wit) r tests-stepped.fallen.free-before pointers)

-- A phase of the course's turn was run: it is one of the course's next reason.
pub turn-done : {book table words words' wit wit' log log' : List ℕ} {r end : ℕ} {t : Turn} (k : Course) → t ≡ turn_of k
    → TestsDone book table words words' wit wit' log log' r t.reason t.word t.m end
    → TestsDone book table words words' wit wit' log log' r k.reason (k.base + k.reason) k.m end
turn-done {book} {table} {words} {words'} {wit} {wit'} {log} {log'} {r} {end} k e D =
    subst (λ (t : Turn). TestsDone book table words words' wit wit' log log' r t.reason t.word t.m end) e D

-- ---- a phase on its row

module _ {book table words wit signs log line : List ℕ} {r reason word m from : ℕ}
    (ready : RunnableByTests book table words wit signs log line r reason word m from) where
  front : r ≤ length wit
  front = front-inside reason r (length wit) ready.lent.room

  -- A phase of reason 0 may be run on the first row.
  pub turn-striking : Striking book table words (take r wit) signs log m word
  turn-striking = subst (λ (l : List ℕ). Striking book table words l signs log m word) (sym (front-row r wit)) (on (sym long))
    where
      long : length (row_of r 0 wit) ≡ r
      long = ap length (sym (front-row r wit)) ∙ length-take-le r wit front

      on : r ≡ length (row_of r 0 wit) → Striking book table words (row_of r 0 wit) signs log m word
      on e = record {
        signed = subst (λ (n : ℕ). Signed book table n signs) e ready.signed;
        rises = λ i h. ready.rises i (omega (arith, e, h));
        unphased = subst (λ (n : ℕ). Unphased words n word) e ready.unphased;
        pointers = subst (λ (n : ℕ). Pointers book table words (row_of r 0 wit) n) e ready.pointers;
        log_is = subst (λ (n : ℕ). Log words n log m) e ready.log_is;
        log_few = ready.lent.log_few;
      }

  -- A phase of a promise may be run on its row.
  pub turn-watching : (reason ≡ 0 → ⊥)
      → WatchingByTests book table words (take (reason * r + r - reason * r) (drop (reason * r) wit)) signs log line m from word
  turn-watching other =
      subst (λ (l : List ℕ). WatchingByTests book table words l signs log line m from word) (sym (lent_row r reason wit)) (record {
        some = ready.unphased.some;
        signed = subst (λ (n : ℕ). Signed book table n signs) (sym long) ready.signed;
        line_is = record { in_line = omega (arith, long, ready.lent.in_line); line_few = ready.lent.line_few };
        log_few = ready.lent.log_few;
        before = ready.lent.before other;
      })
    where
      long : length (row_of r reason wit) ≡ r
      long = row-long r reason wit ready.lent.room
