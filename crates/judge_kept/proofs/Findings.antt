-- Answers 12 and 0, from what steering told and what is left: the promise over the system of a book. Assumes nothing.
use mathlib.Core.Path.{◌≡◌, sym, subst, ◌∙◌}
use mathlib.Core.List.{List}
use Prim.Native.Nat.{ℕ, ◌≤◌, ◌<◌}
use lib.ListN.{length, take}
use lib.Seq.{length-take-le}
use Rattle.meaning.specs.System.{System, Livable, Lists, CanBeKept}
use Rattle.meaning.specs.Promises.{short, can, cleared, outcome}
use Rattle.rules.specs.Book.{book_system}
use Rattle.sample_walk.specs.Steered.{Steered}
use Rattle.sample_walk.specs.Walk.{Walked}
use Rattle.judge_answer.specs.declared.Judgement.{Judgement}
use Rattle.judge_answer.specs.Judging.{lent_of, outcome_of, refused, RoomFor, JudgedBy, LeftOver}
use Rattle.judge_answer.proofs.Wiping.{wiped-whole, zeros-same}
use Rattle.judge_kept.specs.Kept.{Kept, HandedOver, too_long, in_room, handed}
use Rattle.judge_kept.proofs.Steps.{kept-in-table, kept-can}

-- 12: it can be kept, but the run needs b places.
short-judged : {S : System} {table words scratch run words₁ run₁ table' words' scratch' : List ℕ} {a b : ℕ} {j : Judgement}
    → j ≡ refused 12 b 0
    → RoomFor S (lent_of table words scratch run) → CanBeKept S → Steered S run run₁ a b → length words₁ ≡ length words → length run < b
    → LeftOver 0 0 table words₁ scratch table' words' scratch'
    → JudgedBy S (lent_of table words scratch run) (outcome_of j (lent_of table' words' scratch' run₁))
unfolding outcome cleared
short-judged {table = table} {words} {words₁ = words₁} {table' = table'} {words'} {b = b} is room kept steered long few L = record {
  finding = short b;
  found = (room, kept, (steered.states, steered.back, steered.paper, steered.long), few);
  returned = λ i.
      let none = wiped-whole words' words₁ L.words_is ∙ zeros-same words₁ words long in
      outcome_of (is i) (lent_of (wiped-whole table' table L.table_is i) (none i) (L.scratch_is i) (steered.short few i));
}

-- 0: it can be kept, and the run fits.
kept-judged : {S : System} {table words scratch run words₁ run₁ table' words' scratch' : List ℕ} {k a b : ℕ}
    → RoomFor S (lent_of table words scratch run) → CanBeKept S → Lists (Livable S) (take k table) → k ≤ length table
    → Steered S run run₁ a b → length words₁ ≡ length words → b ≤ length run → LeftOver k 0 table words₁ scratch table' words' scratch'
    → JudgedBy S (lent_of table words scratch run) (outcome_of (handed k a b) (lent_of table' words' scratch' run₁))
unfolding outcome
kept-judged {table = table} {words} {run = run} {words₁ = words₁} {words' = words'} {k = k} room kept lists fits steered long enough L =
    record {
      finding = can (take k table) steered.states steered.back;
      found = (room, kept, lists, steered.paper, subst (λ n. n ≤ length run) (sym steered.long) enough);
      returned = λ i.
          let none = wiped-whole words' words₁ L.words_is ∙ zeros-same words₁ words long in
          let leaves = lent_of (L.table_is i) (none i) (L.scratch_is i) ((steered.fits enough).0 i) in
          record {
            answer = 0;
            count = sym (length-take-le k table fits) i;
            a = (steered.fits enough).1 i;
            b = sym steered.long i;
            place = 0;
            leaves = leaves;
          };
    }

-- So whatever is handed over once steering is done is what the promise says.
pub handed-judged : {book table words scratch run words₁ run₁ table' words' scratch' : List ℕ} {k a b : ℕ} {j : Judgement}
    → Kept book (lent_of table words scratch run) k → Walked book words words₁ run run₁ a b → length run₁ ≡ length run
    → HandedOver k a b (length run₁) table words₁ scratch table' words' scratch' j
    → JudgedBy (book_system book) (lent_of table words scratch run) (outcome_of j (lent_of table' words' scratch' run₁))
handed-judged {b = b} kept told same (too_long few is L) =
    short-judged is kept.room (kept-can kept) told.steered told.long (subst (λ n. n < b) same few) L
handed-judged {book} {table} {words} {scratch} {run} {run₁ = run₁} {table'} {words'} {scratch'} {b = b} kept told same
    (in_room enough is L) =
    subst (λ (j : Judgement). JudgedBy (book_system book) (lent_of table words scratch run)
    (outcome_of j (lent_of table' words' scratch' run₁))) (sym is)
    (kept-judged kept.room (kept-can kept) kept.lists (kept-in-table kept) told.steered told.long
    (subst (λ n. b ≤ n) same enough) L)
