-- The rounds along stored moves: the row of the ways on between two phases of reason 0, and one phase. Assumes nothing.
use mathlib.Core.Path.{◌≡◌, sym, ap, subst, ◌∙◌}
use mathlib.Core.Logic.{◌⊎◌, inl, inr}
use mathlib.Core.List.{List, ◌++◌}
use Prim.Native.Nat.{ℕ, ◌+◌, ◌-◌, ◌*◌, ◌≤◌, ◌<◌}
use native.Mathlib.Decide.{ℕ_discrete}
use native.Mathlib.Omega.{arith}
use lib.ListN.{length, get_or, set, take, drop}
use lib.Seq.{length-take-le, length_front}
use Rattle.ground.specs.Wiping.{Zeros}
use Rattle.meaning.specs.Promises.{most_states}
use Rattle.rules.specs.Book.{promises_of}
use Rattle.moves.specs.Layout.{Backed}
use Rattle.watch.specs.Witness.{Log}
use Rattle.watch_along.specs.Along.{Woven}
use Rattle.watch_along.specs.Along.{Watching}
use Rattle.watch_along.specs.Ends.{Blank, Ahead, opening, going, Endable}
use Rattle.rounds.specs.declared.Course.{Course}
use Rattle.rounds.specs.declared.Turn.{Turn}
use Rattle.rounds.specs.Courses.{turn_of}
use Rattle.rounds.specs.Rows.{row_of, Beginnable, BegunRows}
use Rattle.rounds_along.specs.Along.{RunnableAlong, TurnDone, StrikableAlong}
use Rattle.rounds.proofs.Running.{strikable-lawful}
use Rattle.rounds.proofs.Rows.{lent_row, front-row, row-long, front-inside, front-back}
use Rattle.rounds.proofs.Moving.{
  Fallen,
  fell-fallen,
  fallen-log,
  fallen-free,
  fallen-named,
  log-none,
  Moving,
  Stepped,
  moving-stepped,
  moving-lent,
  moving-inside,
  moving-row,
  moving-later,
  news-here,
  news-there,
}
use Rattle.rounds_along.proofs.Woven.{stored-woven, ended-phased, backed-moves}

-- ---- the ways on

-- Before the first phase the row is blank.
pub ahead_none : (row : List ℕ) {words back log : List ℕ} {r from : ℕ} → 0 < from → Log words r log 0 → r ≤ most_states → length row ≡ r
    → Blank row
    → Ahead words row back log from 0
ahead_none row {words = words} {log = log} h G few long B = opening h (subst (λ (n : ℕ). Log words n log 0) (sym long) G)
    (omega (arith, long, few)) B

-- The rows may begin once the first is blank,
pub blank-beginnable : {book table words : List ℕ} {r : ℕ} {forth back old log line : List ℕ} (part : List ℕ)
    → StrikableAlong book table words r forth back old log line → length part ≡ length (take r old)
    → Beginnable book table r (part ++ drop r old)
blank-beginnable {r = r} {old = old} part A same =
    record { states = strikable-lawful _ _ _ _ A.stored.asked; room = omega (arith, A.roomed.room, length_front old part r same) }

-- and it is blank when they have.
pub ahead-begun : {book table words : List ℕ} {r : ℕ} {forth back old log line wit : List ℕ} {from : ℕ} (part : List ℕ)
    → StrikableAlong book table words r forth back old log line → Zeros words r → Blank part → length part ≡ length (take r old)
    → BegunRows book table r (part ++ drop r old) wit → 0 < from → Ahead words (row_of r 0 wit) back log from 0
ahead-begun {book = book} {r = r} {old = old} {wit = wit} part A zeros blank same B some =
    ahead_none (row_of r 0 wit) some (log-none A.stored.asked A.roomed zeros) A.stored.asked.few
    (ap length whole ∙ same ∙ length-take-le r old front)
    (subst Blank (sym whole) blank)
  where
    front : r ≤ length old
    front = front-inside (promises_of book) r (length old) A.roomed.room

    whole : row_of r 0 wit ≡ part
    whole = B.zeroth ∙ (front-back r old part front same).row

-- A row that rests while others strike.
ahead-on : (row back : List ℕ) {words words' log log' : List ℕ} {r m m' from : ℕ} → length row ≡ r → Fallen words words' r log log' m m'
    → (m < from → m' < from) → Ahead words row back log from m → Ahead words' row back log' from m'
ahead-on row back long K fresh (opening h G few B) = opening (fresh h) (fallen-log row long K) few B
ahead-on row back {from = from} long K fresh (going R) = going (record {
  log_is = fallen-log row long K;
  since = omega (arith, R.since, K.grows);
  backward = R.backward;
  few = R.few;
  each = R.each;
  leads = R.leads;
  helped = λ i h u. R.helped i h (fallen-free row long K i h u);
  noted = λ i h u l. fallen-named row long K from (get_or row i 0) R.since l (R.noted i h (fallen-free row long K i h u) l);
})

module _ {book table : List ℕ} {r : ℕ} {words₀ words old wit forth back log₀ log line : List ℕ} {m reason : ℕ} {news : List ℕ}
    (A : StrikableAlong book table words₀ r forth back old log₀ line) (Mo : Moving book table r words wit (Backed back) log m news)
    (long : length wit ≡ length old) (within : reason ≤ promises_of book) where
  -- The next phase may be run.
  pub along-turnable : {line' : List ℕ} {word : ℕ} → Ahead words (row_of r 0 wit) back log (get_or news 0 0) m → length log ≡ length log₀
      → length line' ≡ length line → 0 < word → reason ≤ 16 → RunnableAlong words wit forth back log line' r reason word m
      (get_or news reason 0)
  along-turnable ahead logs same some few = record {
    lent = moving-lent A.stored.asked A.roomed Mo long within logs same few;
    some = some;
    few = A.stored.asked.few;
    woven = stored-woven A.stored.asked.few A.stored.onward A.stored.backward;
    ahead = λ e. subst (λ (q : ℕ). Ahead words (row_of r 0 wit) back log (get_or news q 0) m) (sym e) ahead;
  }

  module _ {words' wit' log' : List ℕ} {word end : ℕ} (D : TurnDone words words' wit wit' forth back log log' r reason word m end) where
    row : (q : ℕ) → q ≤ promises_of book → length (row_of r q wit) ≡ r
    row = moving-row A.stored.asked A.roomed Mo long within

    -- It is a phase.
    pub along-stepped : Stepped book table r words words' wit wit' (Backed back) log log' reason word m end
    along-stepped =
        moving-stepped A.stored.asked A.roomed Mo long within (backed-moves few A.stored.onward A.stored.backward)
        (λ E. (
          ended-phased few A.stored.onward A.stored.backward (row 0 (omega arith)) Mo.log_is E,
          fell-fallen (E.long ∙ row 0 (omega arith)) E.fell,
        )) D
      where
        few : r ≤ most_states
        few = A.stored.asked.few

    -- The ways on, after it.
    pub ahead_more : (since : ℕ) → (reason ≡ 0 → since ≡ m) → Ahead words (row_of r 0 wit) back log (get_or news 0 0) m
        → Ahead words' (row_of r 0 wit') back log' (get_or (set news reason since) 0 0) end
    ahead_more since own ahead = by (ℕ_discrete 0 reason)
      where
        by : Dec (0 ≡ reason) → Ahead words' (row_of r 0 wit') back log' (get_or (set news reason since) 0 0) end
        by (yes e) = subst (λ (x : ℕ). Ahead words' (row_of r 0 wit') back log' x end)
            (sym (news-here A.stored.asked A.roomed Mo long within along-stepped since 0 e ∙ own (sym e)))
            (going (D.zeroth (sym e)).going)
        by (no n) =
            subst (λ (x : ℕ). Ahead words' (row_of r 0 wit') back log' x end)
            (sym (news-there A.stored.asked A.roomed Mo long within along-stepped since 0 n))
            (subst (λ (l : List ℕ). Ahead words' l back log' (get_or news 0 0) end)
            (sym (D.others 0 n (moving-inside A.stored.asked A.roomed Mo long within 0 (omega arith))))
            (ahead-on (row_of r 0 wit) back (row 0 (omega arith)) along-stepped.fallen
            (moving-later A.stored.asked A.roomed Mo long within along-stepped 0 (omega arith)) ahead))

-- A phase of the course's turn was run: it is one of the course's next reason.
pub turn-done : {words words' wit wit' forth back log log' : List ℕ} {r end : ℕ} {t : Turn} (k : Course) → t ≡ turn_of k
    → TurnDone words words' wit wit' forth back log log' r t.reason t.word t.m end
    → TurnDone words words' wit wit' forth back log log' r k.reason (k.base + k.reason) k.m end
turn-done {words} {words'} {wit} {wit'} {forth} {back} {log} {log'} {r} {end} k e D =
    subst (λ (t : Turn). TurnDone words words' wit wit' forth back log log' r t.reason t.word t.m end) e D

-- Where the news of a phase are from, as `news_from` says it.
pub since-early : {reason m end since : ℕ} → ((reason ≡ 0) × (since ≡ m)) ⊎ ((reason ≡ 0 → ⊥) × (since ≡ end)) → m ≤ end → since ≤ end
since-early (inl x) h = omega (arith, x.1)
since-early (inr x) h = omega (arith, x.1)

pub since-last : {reason m end since : ℕ} → ((reason ≡ 0) × (since ≡ m)) ⊎ ((reason ≡ 0 → ⊥) × (since ≡ end)) → (reason ≡ 0 → ⊥)
    → since ≡ end
since-last (inl x) n = absurd (n x.0)
since-last (inr x) n = x.1

pub since-own : {reason m end since : ℕ} → ((reason ≡ 0) × (since ≡ m)) ⊎ ((reason ≡ 0 → ⊥) × (since ≡ end)) → reason ≡ 0 → since ≡ m
since-own (inl x) e = x.1
since-own (inr x) e = absurd (x.0 e)

-- ---- a phase on its row

module _ {words wit forth back log line : List ℕ} {r reason word m from : ℕ}
    (ready : RunnableAlong words wit forth back log line r reason word m from) where
  front : r ≤ length wit
  front = front-inside reason r (length wit) ready.lent.room

  -- A phase of reason 0 may be run on the first row.
  pub turn-endable : reason ≡ 0 → Endable words (take r wit) forth back log m from word
  turn-endable zeroth = record {
    some = ready.some;
    woven = subst (λ (n : ℕ). Woven n forth back) (sym (length-take-le r wit front)) ready.woven;
    log_few = ready.lent.log_few;
    ahead = subst (λ (l : List ℕ). Ahead words l back log from m) (sym (front-row r wit)) (ready.ahead zeroth);
  }

  -- A phase of a promise may be run on its row.
  pub turn-watching : (reason ≡ 0 → ⊥) → Watching words (take (reason * r + r - reason * r) (drop (reason * r) wit)) forth back log line m
      from word
  turn-watching other =
      subst (λ (l : List ℕ). Watching words l forth back log line m from word) (sym (lent_row r reason wit)) (record {
        some = ready.some;
        woven = subst (λ (n : ℕ). Woven n forth back) (sym long) ready.woven;
        line_is = record { in_line = omega (arith, long, ready.lent.in_line); line_few = ready.lent.line_few };
        log_few = ready.lent.log_few;
        before = ready.lent.before other;
      })
    where
      long : length (row_of r reason wit) ≡ r
      long = row-long r reason wit ready.lent.room
