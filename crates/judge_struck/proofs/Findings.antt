-- Answer 13, from what the parts told and left: the promise over the system of a book. Assumes nothing.
use mathlib.Core.Path.{◌≡◌, sym, ap, subst, ◌∙◌}
use mathlib.Core.List.{List}
use Prim.Native.Nat.{ℕ, ◌≤◌}
use native.Mathlib.Omega.{arith}
use lib.ListN.{length, take}
use lib.Seq.{length-take-le}
use Rattle.meaning.specs.System.{System, Reachable, Lists}
use Rattle.meaning.specs.Strike.{StrikeList}
use Rattle.meaning.specs.Promises.{Lent, cannot, capacity, over, outcome}
use Rattle.meaning.proofs.Judging.{lists-number}
use Rattle.meaning.proofs.Rounds.{strike-list-no-run}
use Rattle.rounds.specs.Marked.{Marked}
use Rattle.judge_answer.specs.declared.Judgement.{Judgement}
use Rattle.judge_answer.specs.Judging.{lent_of, outcome_of, RoomFor, JudgedBy, StrikesWritten}
use Rattle.judge_answer.proofs.Wiping.{zeros-same}
use Rattle.judge_answer.proofs.Rooms.{Places, capacity-places}
use Rattle.judge_struck.specs.Struck.{all_struck}
use Rattle.judge_struck.proofs.Strikes.{strikes-listed}

-- The reachable states listed in r places at most C have room.
pub listed-room : {S : System} (lent : Lent) (r : ℕ) → Lists (Reachable S) (take r lent.table) → r ≤ capacity lent → RoomFor S lent
listed-room lent r lists room =
    let long : length (take r lent.table) ≡ r = length-take-le r lent.table (capacity-places lent r room).in_table in
    record { reached = length (take r lent.table); number = lists-number lists; room = subst (λ n. n ≤ capacity lent) (sym long) room }

-- 13: it cannot be kept.
pub cannot_judged : {S : System} {table words scratch words₁ table' words' scratch' : List ℕ} {r left : ℕ} {j : Judgement} (run : List ℕ)
    → r ≤ capacity (lent_of table words scratch run) → Lists (Reachable S) (take r table) → Marked S table words₁ r left → left ≡ 0
    → length words₁ ≡ length words → StrikesWritten table words₁ scratch r table' words' scratch' × (j ≡ all_struck r)
    → JudgedBy S (lent_of table words scratch run) (outcome_of j (lent_of table' words' scratch' run))
unfolding outcome
cannot_judged {S} {table} {words} {scratch} {words₁} {table'} {words'} {scratch'} {r} run room lists marked none words_long
    (W, is) = record {
      finding = cannot (take r W.states) (take r W.marks);
      found = (listed-room (lent_of table words scratch run) r lists room, strike-list-no-run strikes, strikes);
      returned = ap (λ (j : Judgement). outcome_of j (lent_of table' words' scratch' run)) is ∙ λ i.
          let count = length-take-le r W.states (omega (arith, places.in_table, W.in_order.long-table)) in
          let marks = W.words_is ∙ ap (over (take r W.marks)) (zeros-same words₁ words words_long) in
          let leaves = lent_of (W.table_is i) (marks i) (W.scratch_is i) run in
          record { answer = 13; count = sym count i; a = 0; b = 0; place = 0; leaves = leaves };
    }
  where
    places : Places (lent_of table words scratch run) r
    places = capacity-places (lent_of table words scratch run) r room

    strikes : StrikeList S (take r W.states) (take r W.marks)
    strikes = strikes-listed table words₁ W.states W.marks r places.in_table (omega (arith, places.in_words)) lists
        (subst (Marked S table words₁ r) none marked) W.in_order
