-- What each part hands to the next, with the reachable states listed: what striking, ordering and keeping ask, from what was told before.
-- Assumes nothing.
use mathlib.Core.Path.{◌≡◌, refl, sym, subst, ◌∙◌}
use mathlib.Core.Bool.{true}
use mathlib.Core.List.{List}
use Prim.Native.Nat.{ℕ, ◌≤◌}
use native.Mathlib.Omega.{arith}
use lib.ListN.{length}
use Rattle.meaning.specs.Promises.{Lent}
use Rattle.rules.specs.Book.{book_system, book_lawful}
use Rattle.rules.specs.Table.{LawfulTable}
use Rattle.rounds.specs.Marked.{Marked}
use Rattle.rounds.specs.Phases.{Strikable}
use Rattle.rounds.proofs.Running.{strikable-lawful}
use Rattle.table_order.specs.Arranged.{InFront}
use Rattle.table_order.specs.Placing.{Keepable, Orderable}
use Rattle.table_order.proofs.Fronts.{front-rises, front-sound}
use Rattle.judge_answer.specs.Judging.{lent_of}
use Rattle.judge_answer.proofs.Rooms.{Places, capacity-places, Alike, capacity-same, room-same}
use Rattle.judge_kept.specs.Kept.{Kept}
use Rattle.judge_struck.proofs.Findings.{listed-room}
use Rattle.judge_book.specs.Reached.{Reached}
use Rattle.judge_book.proofs.Livables.{livables-listed, all-in-front, some-kept}

reached-places : {book : List ℕ} {lent : Lent} {r : ℕ} → Reached book lent r → Places lent r
reached-places {lent = lent} {r} h = capacity-places lent r h.room

-- What striking asks.
pub reached-strikable : {book : List ℕ} {lent : Lent} {r : ℕ} → Reached book lent r
    → Strikable book lent.table lent.words r
reached-strikable h = let p = reached-places h in record {
  shaped = h.shaped;
  lists = h.lists;
  in_table = p.in_table;
  in_words = p.in_words;
  few = p.small;
}

-- What ordering asks; words may have changed, as long as they kept their length.
pub reached-orderable : {book table words scratch run words₁ : List ℕ} {r : ℕ} → Reached book (lent_of table words scratch run) r
    → length words₁ ≡ length words → Orderable table words₁ scratch r
reached-orderable {table = table} {r = r} h words_long = let p = reached-places h in record {
  in_table = p.in_table;
  in_words = omega (arith, p.in_words);
  in_scratch = omega (arith, p.in_scratch);
  small = p.small;
  rises = front-rises table r p.in_table h.lists;
}

-- What keeping asks.
pub reached-keepable : {book table words scratch run words₁ : List ℕ} {r : ℕ} → Reached book (lent_of table words scratch run) r
    → length words₁ ≡ length words → Keepable table words₁ r
reached-keepable {table = table} {r = r} h words_long = let p = reached-places h in record {
  in_table = p.in_table;
  in_words = omega (arith, p.in_words);
  rises = front-rises table r p.in_table h.lists;
}

-- Lawful states, of which signs can be written.
pub reached-lawful : {book : List ℕ} {lent : Lent} {r : ℕ} → Reached book lent r → LawfulTable book lent.table r
reached-lawful h = strikable-lawful _ _ _ _ (reached-strikable h)

-- Those that are put in front are lawful, too.
pub front-lawful : {book table words table₁ : List ℕ} {r k : ℕ} → LawfulTable book table r → InFront table words r table₁ k
    → LawfulTable book table₁ k
front-lawful {book} {table₁ = table₁} {k = k} h front =
    record {
      shaped = h.shaped;
      in_table = in_table;
      few = omega (arith, h.few, front.few);
      lawful = λ i l.
          let (j, below, state, z) = front-sound table₁ k in_table front.front i l in
          subst (λ (s : ℕ). book_lawful book s ≡ true) state (h.lawful j below);
    }
  where
    in_table : k ≤ length table₁
    in_table = omega (arith, h.in_table, front.few, front.long)

-- What keeping leaves is as long.
pub kept-alike : {table words scratch run table₁ words₁ : List ℕ} {r k : ℕ} → length words₁ ≡ length words → InFront table words₁ r table₁ k
    → Alike (lent_of table₁ words₁ scratch run) (lent_of table words scratch run)
kept-alike words_long front = record { table_long = front.long; words_long = words_long; scratch_long = refl; run_same = refl }

-- All left, the table is as keeping would leave it.
pub reached-front : {book table words scratch run words₁ : List ℕ} {r left : ℕ} → Reached book (lent_of table words scratch run) r
    → Marked (book_system book) table words₁ r left → left ≡ r → InFront table words₁ r table r
reached-front {book = book} {table = table} {words₁ = words₁} {r} h marked every =
    all-in-front (book_system book) table words₁ r (reached-places h).in_table h.lists (sym marked.left_is ∙ every)

-- Some left, the kept states are the livable ones.
pub reached-kept : {book table words scratch run table₁ words₁ : List ℕ} {r left k : ℕ} → Reached book (lent_of table words scratch run) r
    → Marked (book_system book) table words₁ r left → length words₁ ≡ length words → (left ≡ 0 → ⊥) → InFront table words₁ r table₁ k
    → Kept book (lent_of table₁ words₁ scratch run) k
reached-kept {book} {table} {words} {scratch} {run} {table₁} {words₁} {r} {left} {k} h marked words_long some front =
    record {
      shaped = h.shaped;
      lists = livables-listed table words₁ table₁ r left k p.in_table h.lists marked front;
      some = some-kept table words₁ table₁ r left k p.in_table marked some front;
      room = room-same back (listed-room (lent_of table words scratch run) r h.lists h.room);
      within = subst (λ c. k ≤ c) (capacity-same back) (omega (arith, h.room, front.few));
    }
  where
    p : Places (lent_of table words scratch run) r
    p = reached-places h

    back : Alike (lent_of table words scratch run) (lent_of table₁ words₁ scratch run)
    back =
        record { table_long = sym front.long; words_long = sym words_long; scratch_long = refl; run_same = refl }
