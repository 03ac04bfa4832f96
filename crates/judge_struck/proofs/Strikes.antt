-- What the words say once striking left no state: no word is 0, and the ordered table is the strike list. Assumes nothing.
use mathlib.Core.Path.{◌≡◌, refl, sym, ap, subst, ◌∙◌}
use mathlib.Core.Bool.{cond}
use mathlib.Core.Logic.{⊎_elim}
use mathlib.Core.List.{List}
use Prim.Native.Nat.{ℕ, zero, suc, ◌≤◌, ◌<◌}
use native.Mathlib.Decide.{ℕ_discrete}
use native.Mathlib.Omega.{arith}
use borrow.Author.Tests.{eq-eqb}
use lib.ListN.{length, get_or, take}
use lib.Seq.{length-take-le, get_or-take}
use Rattle.meaning.specs.System.{System, Reachable, Lists}
use Rattle.meaning.specs.Strike.{StrikeList, Struck, word_of}
use Rattle.rounds.specs.Marked.{Marked, unstruck}
use Rattle.table_order.specs.Arranged.{InOrder}
use Rattle.table_order.proofs.Fronts.{front-whole}

-- where none is unstruck no word is 0.
none-zero : (words : List ℕ) (r : ℕ) → unstruck words r ≡ 0 → (j : ℕ) → j < r → get_or words j 0 ≡ 0 → ⊥
none-zero words zero e j h z = omega arith
none-zero words (suc r) e j h z = by (ℕ_discrete j r) (λ none l. none-zero words r none j l z)
  where
    none_before : unstruck words r ≡ 0
    none_before = omega arith

    by : Dec (j ≡ r) → (unstruck words r ≡ 0 → j < r → ⊥) → ⊥
    by (yes q) f =
        let here : get_or words r 0 ≡ 0 = ap (λ (n : ℕ). get_or words n 0) (sym q) ∙ z in
        omega (arith, ap (λ t. cond {A = ℕ} t 1 0) (eq-eqb (get_or words r 0) 0 here))
    by (no q) f = f none_before (omega arith)

-- All struck, the ordered table and words are the strike list.
pub strikes-listed : {S : System} (table words table' words' : List ℕ) (r : ℕ) → r ≤ length table → r ≤ length words
    → Lists (Reachable S) (take r table) → Marked S table words r 0 → InOrder table words r table' words'
    → StrikeList S (take r table') (take r words')
strikes-listed {S} table words table' words' r in_table in_words_lem lists marked order = record {
  as_many = long-words ∙ sym long-table;
  ordered = λ i h.
      let a : i < r = omega (arith, long-table) in
      let b : suc i < r = omega (arith, long-table) in
      rw (get_or-take r words' i 0 a, get_or-take r words' (suc i) 0 b, get_or-take r table' i 0 a, get_or-take r table' (suc i) 0 b)
      (order.ordered i b);
  struck = λ i h.
      let a : i < r = omega (arith, long-table) in
      let (n, struck, word) = struck-at i a in
      (n, subst (Struck S n) (sym (get_or-take r table' i 0 a)) struck, get_or-take r words' i 0 a ∙ word);
  whole = λ s reached.
      let (j, h, e) = front-whole table r in_table lists s reached in
      let (i, l, state, word) = order.kept s (get_or words j 0) (j, h, e, refl) in
      let inside : i < length (take r table') = omega (arith, long-table) in
      (i, inside, get_or-take r table' i 0 l ∙ state);
}
  where
    long-table : length (take r table') ≡ r
    long-table = length-take-le r table' (omega (arith, order.long-table))

    long-words : length (take r words') ≡ r
    long-words = length-take-le r words' (omega (arith, order.long-words))

    struck-at : (i : ℕ) → i < r → (n : ℕ) × Struck S n (get_or table' i 0) × (get_or words' i 0 ≡ word_of S n)
    struck-at i h =
        let (j, l, state, word) = order.none_new i h in
        ⊎_elim (λ z. absurd (none-zero words r (sym marked.left_is) j l z.0))
        (λ t. (t.0, subst (Struck S t.0) state t.1, sym word ∙ t.2)) (marked.word j l)
