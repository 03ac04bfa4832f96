-- Stored moves, forth and back, are woven, and are the table's moves; what a phase of reason 0 has struck is what it does not save. Assumes
-- nothing.
use mathlib.Core.Path.{◌≡◌, refl, sym, subst, ◌∙◌}
use mathlib.Core.List.{List}
use Prim.Native.Nat.{ℕ, ◌+◌, ◌-◌, ◌≤◌, ◌<◌}
use native.Mathlib.Omega.{arith}
use lib.ListN.{length, get_or}
use Rattle.meaning.specs.Promises.{most_states}
use Rattle.meaning.specs.Strike.{SavedBy}
use Rattle.rules.specs.Book.{book_system}
use Rattle.rules.specs.Table.{To}
use Rattle.moves.specs.Moves.{Forth, Back}
use Rattle.moves.proofs.Rows.{rows-has}
use Rattle.distances.specs.Far.{UnstruckIn}
use Rattle.moves.specs.Layout.{Backed}
use Rattle.watch.specs.Witness.{Log, free_in}
use Rattle.watch_along.specs.Along.{Leads, Woven}
use Rattle.watch.specs.Turns.{FallsAt, was as was-so, keeps, falls as falls-so}
use Rattle.watch_along.specs.Ends.{Ended}
use Rattle.ends_tests.specs.Phases.{Falls, was, stays, falls, Phased}
use Rattle.rounds.proofs.Saved.{Moves}

module _ {book table : List ℕ} {r : ℕ} {forth back : List ℕ} (few : r ≤ most_states) (F : Forth book table r forth)
    (B : Back book table r back) where
  -- Who stands in a row forth is moved to, and who is moved to stands there.
  pub leads-to : (i j : ℕ) → i < r → Leads forth i j → To book table i j
  leads-to i j h s = subst (λ (x : ℕ). To book table i x) s.3 (F.rows.sound i s.0 h s.1 s.2).1

  pub to-leads : (i j : ℕ) → i < r → j < r → To book table i j → Leads forth i j
  to-leads i j h k m = let w = F.rows.whole i j h k m in (w.0, w.1, w.2, w.3)

  pub stored-woven : Woven r forth back
  stored-woven = record {
    onward = record { row = rows-has (To book table) r forth F.long few F.rows; places = λ i e h l k. (F.rows.sound i e h l k).0 };
    backward = record {
      row = λ i h. record { long = B.long; place = omega (arith, few); within = B.in_cells i h };
      places = B.places;
      links = B.links;
    };
    turned = λ i j h k s. B.whole i j h k (leads-to i j h s);
    turned_back = λ i j h k s. to-leads i j h k (B.sound i j k s);
  }

  -- ---- reason 0

  -- What a phase of reason 0 has struck has no move to an unstruck place.
  pub ended-phased : {words words' row row' log log' : List ℕ} {m m' word : ℕ} → length row ≡ r → Log words r log m
      → Ended words words' row row' forth back log log' m m' word → Phased (book_system book) table r 0 word words words' (m' - m)
  ended-phased {words = words} {words' = words'} {row = row} {row' = row'} {m = m} {m' = m'} {word = word} long G E = record {
    long = E.fell.long;
    each = λ i h. at i h (E.fell.each i (omega (arith, h, long, E.long)));
    counted = let a = G.count in
        let b : m' + free_in words' r ≡ r = subst (λ (n : ℕ). m' + free_in words' n ≡ n) (E.long ∙ long) E.fell.log_is.count in
        omega (arith, a, b, E.fell.grows);
  }
    where
      at : (i : ℕ) → i < r → FallsAt word (get_or words i 0) (get_or words' i 0) (get_or row' i 0)
          → Falls (SavedBy (book_system book) (UnstruckIn table words r) 0 (get_or table i 0)) word (get_or words i 0) (get_or words' i 0)
      at i h (was-so n e) = was n e
      at i h (keeps o e n) =
          let s = E.saved i (omega (arith, h, long)) o n in
          let j = get_or row' i 0 in
          let below : get_or row' i 0 < r = omega (arith, s.0, long) in
          let lead = stored-woven.turned_back i (get_or row' i 0) h below s.2 in
          stays o e (get_or table (get_or row' i 0) 0, leads-to i (get_or row' i 0) h lead, (get_or row' i 0, below, refl, s.1))
      at i h (falls-so o e x) = falls o e (λ s. no_way s.0 s.1 s.2)
        where
          no_way : (t : ℕ) → (book_system book).Move (get_or table i 0) t → UnstruckIn table words r t → ⊥
          no_way t move (j, k, same, u) =
              E.stuck i (omega (arith, h, long)) o x j
              (to-leads i j h k (subst (λ (y : ℕ). (book_system book).Move (get_or table i 0) y) (sym same) move)) u

  -- Rows back are the table's moves.
  pub backed-moves : Moves book table r (Backed back)
  backed-moves = record { sound = λ i j h k s. B.sound i j k s; whole = B.whole }
