-- Rows of moves forth, written one after the other. Assumes nothing.
use mathlib.Core.Path.{◌≡◌, refl, sym, ap, subst, ◌∙◌}
use mathlib.Core.Logic.{◌⊎◌, inl, inr}
use mathlib.Core.List.{List}
use Prim.Native.Nat.{ℕ, suc, ◌+◌, ◌-◌, ◌≤◌, ◌<◌}
use native.Mathlib.Decide.{ℕ_discrete}
use native.Mathlib.Omega.{arith}
use lib.ListN.{length, get_or, set, take, drop, length-set}
use lib.Seq.{get_or-set_same, get_or-set_other}
use Rattle.rules.proofs.FreerLaws.{freer-moves}
use Rattle.meaning.specs.Promises.{most_states}
use Rattle.moves.specs.Layout.{most_cells, moves_size, cells_from, links_from, starts_of, ends_of, cells_of, no_link, start_at, end_at}
use Rattle.moves.specs.Layout.{CellsOnly, PlaceSet}
use Rattle.moves.specs.Moves.{Forth, Storable, SameMoves, Kindred}
use Rattle.moves_forth.specs.Storing.{Row, Nexts, Filled}
use Rattle.moves.proofs.Layouts.{starts-long, ends-long, cells-long, cells-part, cells_back, cells-back}

-- ---- one row

-- The same places have the same row.
pub row_same : (P Q : ℕ → Type 0) {from to : ℕ} {cells : List ℕ} → ((j : ℕ) → P j → Q j) → ((j : ℕ) → Q j → P j) → Row P from to cells
    → Row Q from to cells
row_same P Q there back w = record {
  forwards = w.forwards;
  sound = λ e h l. there _ (w.sound e h l);
  whole = λ j q. w.whole j (back j q);
  ascends = w.ascends;
}

-- A row stands in any cells that agree with its own.
pub row_kept : (P : ℕ → Type 0) (from to : ℕ) (old new : List ℕ) → ((e : ℕ) → e < to → get_or new e 0 ≡ get_or old e 0) → Row P from to old
    → Row P from to new
row_kept P from to old new same w = record {
  forwards = w.forwards;
  sound = λ e h l. subst P (sym (same e l)) (w.sound e h l);
  whole = λ j p. let (e, h, l, q) = w.whole j p in (e, h, l, same e l ∙ q);
  ascends = λ e h l.
      let a = same e (omega arith) in
      let b = same (suc e) l in
      let d = w.ascends e h l in
      omega arith;
}

-- A place above all others is appended.
pub row_more : (P Q : ℕ → Type 0) (from to j : ℕ) (cells : List ℕ) → to < length cells → Row P from to cells → ((i : ℕ) → P i → i < j)
    → ((i : ℕ) → P i → Q i) → Q j → ((i : ℕ) → Q i → P i ⊎ (i ≡ j)) → Row Q from (to + 1) (set cells to j)
row_more P Q from to j cells room w above there here back = record {
  forwards = let a = w.forwards in omega arith;
  sound = λ e h l. at e h (ℕ_discrete e to) l;
  whole = λ i q. found i (back i q);
  ascends = λ e h l. rising e h l (ℕ_discrete (suc e) to);
}
  where
    last : get_or (set cells to j) to 0 ≡ j
    last = get_or-set_same cells to j 0 room

    kept : (e : ℕ) → e < to → get_or (set cells to j) e 0 ≡ get_or cells e 0
    kept e l = get_or-set_other cells to e j 0 (omega arith)

    at : (e : ℕ) → from ≤ e → Dec (e ≡ to) → e < to + 1 → Q (get_or (set cells to j) e 0)
    at e h (yes q) l = subst Q (sym (subst (λ (x : ℕ). get_or (set cells to j) x 0 ≡ j) (sym q) last)) here
    at e h (no q) l = subst Q (sym (kept e (omega arith))) (there _ (w.sound e h (omega arith)))

    found : (i : ℕ) → P i ⊎ (i ≡ j) → (e : ℕ) × (from ≤ e) × (e < to + 1) × (get_or (set cells to j) e 0 ≡ i)
    found i (inl p) = let (e, h, l, q) = w.whole i p in (e, h, omega arith, kept e l ∙ q)
    found i (inr q) = (to, w.forwards, omega arith, last ∙ sym q)

    rising : (e : ℕ) → from ≤ e → suc e < to + 1 → Dec (suc e ≡ to) → get_or (set cells to j) e 0 < get_or (set cells to j) (suc e) 0
    rising e h l (yes q) =
        let a = kept e (omega arith) in
        let b : get_or (set cells to j) (suc e) 0 ≡ j = subst (λ (x : ℕ). get_or (set cells to j) x 0 ≡ j) (sym q) last in
        let d = above _ (w.sound e h (omega arith)) in
        omega arith
    rising e h l (no q) =
        let a = kept e (omega arith) in
        let b = kept (suc e) (omega arith) in
        let d = w.ascends e h (omega arith) in
        omega arith

-- ---- filling one row

-- The same places are filled.
pub filled-same : (P Q : ℕ → Type 0) {at to : ℕ} {old new : List ℕ} → ((j : ℕ) → P j → Q j) → ((j : ℕ) → Q j → P j)
    → Filled P at old new to
    → Filled Q at old new to
filled-same P Q there back w =
    record { long = w.long; keeps = w.keeps; inside = w.inside; row = row_same P Q there back w.row }

-- A place above all others is written.
pub filled-more : (P Q : ℕ → Type 0) (at to j : ℕ) (old new : List ℕ) → to < length old → Filled P at old new to → ((i : ℕ) → P i → i < j)
    → ((i : ℕ) → P i → Q i) → Q j → ((i : ℕ) → Q i → P i ⊎ (i ≡ j)) → Filled Q at old (set new to j) (to + 1)
filled-more P Q at to j old new room w above there here back = record {
  long = length-set new to j ∙ w.long;
  keeps = λ e l. get_or-set_other new to e j 0 (let a = w.row.forwards in omega arith) ∙ w.keeps e l;
  inside = omega arith;
  row = row_more P Q at to j new (let a = w.long in omega arith) w.row above there here back;
}

-- A row that was filled in the lent cells is filled in the list, where nothing else has changed.
pub filled-back : (P : ℕ → Type 0) (at to : ℕ) (moves cells : List ℕ) → length moves ≡ moves_size → length cells ≡ most_cells
    → Filled P at (take (links_from - cells_from) (drop cells_from moves)) cells to
    → Filled P at (cells_of moves) (cells_of (cells_back moves cells)) to
filled-back P at to moves cells long same f =
    subst (λ (l : List ℕ). Filled P at (cells_of moves) l to) (sym (cells-back moves cells long same))
    (subst (λ (l : List ℕ). Filled P at l cells to) (cells-part moves) f)

-- What stays in the lent cells stays in the list's cells.
pub before-back : (at : ℕ) (moves cells : List ℕ) → length moves ≡ moves_size → length cells ≡ most_cells
    → ((e : ℕ) → e < at → get_or cells e 0 ≡ get_or (take (links_from - cells_from) (drop cells_from moves)) e 0)
    → (e : ℕ) → e < at → get_or (cells_of (cells_back moves cells)) e 0 ≡ get_or (cells_of moves) e 0
before-back at moves cells long same kept e h =
    ap (λ (l : List ℕ). get_or l e 0) (cells-back moves cells long same)
    ∙ kept e h
    ∙ ap (λ (l : List ℕ). get_or l e 0) (cells-part moves)

-- ---- row after row

-- the rows of the first i places stand below `at`
pub record Stored (book table : List ℕ) (r i at : ℕ) (starts ends cells : List ℕ) : Type 0 where
  pub below : (k : ℕ) → k < i → get_or ends k 0 ≤ at
  pub rows : (k : ℕ) → k < i → Row (Nexts book table r (get_or table k 0)) (get_or starts k 0) (get_or ends k 0) cells

-- the same in one list
abbrev pub StoredIn : (book table : List ℕ) (r i at : ℕ) (moves : List ℕ) → Type 0
StoredIn book table r i at moves = Stored book table r i at (starts_of moves) (ends_of moves) (cells_of moves)

module _ (book table : List ℕ) (r : ℕ) where
  -- One row more, below at', where the rows before it are kept.
  stored_row : (i at at' from to : ℕ) (starts ends cells cells' : List ℕ) → i < length starts → i < length ends → at ≤ at' → to ≤ at'
      → ((e : ℕ) → e < at → get_or cells' e 0 ≡ get_or cells e 0) → Stored book table r i at starts ends cells
      → Row (Nexts book table r (get_or table i 0)) from to cells' → Stored book table r (i + 1) at' (set starts i from)
      (set ends i to) cells'
  stored_row i at at' from to starts ends cells cells' in_starts in_ends up room keeps s here = record {
    below = λ k h. low k h (ℕ_discrete k i);
    rows = λ k h. row k h (ℕ_discrete k i);
  }
    where
      start : get_or (set starts i from) i 0 ≡ from
      start = get_or-set_same starts i from 0 in_starts

      end : get_or (set ends i to) i 0 ≡ to
      end = get_or-set_same ends i to 0 in_ends

      low : (k : ℕ) → k < i + 1 → Dec (k ≡ i) → get_or (set ends i to) k 0 ≤ at'
      low k h (yes q) = subst (λ (x : ℕ). get_or (set ends i to) x 0 ≤ at') (sym q) (let a = end in omega arith)
      low k h (no q) =
          let a = get_or-set_other ends i k to 0 q in
          let b = s.below k (omega arith) in
          omega arith

      RowOf : ℕ → ℕ → ℕ → Type 0
      RowOf k first stop = Row (Nexts book table r (get_or table k 0)) first stop cells'

      row : (k : ℕ) → k < i + 1 → Dec (k ≡ i) → RowOf k (get_or (set starts i from) k 0) (get_or (set ends i to) k 0)
      row k h (yes q) =
          subst (λ (x : ℕ). RowOf x (get_or (set starts i from) x 0) (get_or (set ends i to) x 0)) (sym q)
          (subst (λ (x : ℕ). RowOf i x (get_or (set ends i to) i 0)) (sym start) (subst (λ (x : ℕ). RowOf i from x) (sym end) here))
      row k h (no q) =
          subst (λ (x : ℕ). RowOf k x (get_or (set ends i to) k 0)) (sym (get_or-set_other starts i k from 0 q))
          (subst (λ (x : ℕ). RowOf k (get_or starts k 0) x) (sym (get_or-set_other ends i k to 0 q))
          (row_kept _ _ _ cells cells' (λ e l. keeps e (let b = s.below k (omega arith) in omega arith)) (s.rows k (omega arith))))

  -- One row more is written.
  pub stored_more : (i at to : ℕ) (starts ends cells cells' : List ℕ) → i < length starts → i < length ends
      → Stored book table r i at starts ends cells → Filled (Nexts book table r (get_or table i 0)) at cells cells' to
      → Stored book table r (i + 1) to (set starts i at) (set ends i to) cells'
  stored_more i at to starts ends cells cells' in_starts in_ends s f =
      stored_row i at to at to starts ends cells cells' in_starts in_ends f.row.forwards (omega arith) f.keeps s f.row

  -- What three lists store, one list with these parts stores.
  stored-as : (i at : ℕ) (starts ends cells moves : List ℕ) → starts_of moves ≡ starts → ends_of moves ≡ ends → cells_of moves ≡ cells
      → Stored book table r (i + 1) at starts ends cells → StoredIn book table r (i + 1) at moves
  stored-as i at starts ends cells moves p q u s =
      subst (λ (l : List ℕ). Stored book table r (i + 1) at l (ends_of moves) (cells_of moves)) (sym p)
      (subst (λ (l : List ℕ). Stored book table r (i + 1) at starts l (cells_of moves)) (sym q)
      (subst (λ (l : List ℕ). Stored book table r (i + 1) at starts ends l) (sym u) s))

  -- A place whose state moves where an earlier one's does has that one's row.
  pub stored-again : (i k at : ℕ) (starts ends cells : List ℕ) → i < length starts → i < length ends → Storable book table r → i < r
      → SameMoves book table k i → Stored book table r i at starts ends cells
      → Stored book table r (i + 1) at (set starts i (get_or starts k 0)) (set ends i (get_or ends k 0)) cells
  stored-again i k at starts ends cells in_starts in_ends able h same s =
      stored_row i at at _ _ starts ends cells cells in_starts in_ends (omega arith) (s.below k same.before) (λ e l. refl) s
      (row_same (Nexts book table r (get_or table k 0)) (Nexts book table r (get_or table i 0))
      (λ j p. (p.0, freer-moves book _ _ (able.states.lawful i h) same.no_freer _ p.1))
      (λ j p. (p.0, freer-moves book _ _ (able.states.lawful k (let a = same.before in omega arith)) same.freer _ p.1))
      (s.rows k same.before))

  -- The same in one list: a filled row is set,
  pub set_more : (i at to : ℕ) (old mid new : List ℕ) → length old ≡ moves_size → i < most_states
      → StoredIn book table r i at old
      → Filled (Nexts book table r (get_or table i 0)) at (cells_of old) (cells_of mid) to → CellsOnly old mid → PlaceSet i at to no_link mid new
      → StoredIn book table r (i + 1) to new
  set_more i at to old mid new long inside s f c w =
      stored-as i to _ _ _ new (w.starts ∙ ap (λ (l : List ℕ). set l i at) c.starts) (w.ends ∙ ap (λ (l : List ℕ). set l i to)
      c.ends) w.cells
      (stored_more i at to (starts_of old) (ends_of old) (cells_of old) (cells_of mid) (omega (arith, starts-long old long))
      (omega (arith, ends-long old long)) s f)

  -- and a row is shared.
  pub set-again : (i k at : ℕ) (old new : List ℕ) → length old ≡ moves_size → i < most_states → Storable book table r → i < r
      → SameMoves book table k i → StoredIn book table r i at old → PlaceSet i (start_at old k) (end_at old k) k old new
      → StoredIn book table r (i + 1) at new
  set-again i k at old new long inside able h same s w =
      stored-as i at _ _ _ new w.starts w.ends w.cells
      (stored-again i k at (starts_of old) (ends_of old) (cells_of old) (omega (arith, starts-long old long))
      (omega (arith, ends-long old long)) able h
      same s)

  -- The last place has its link.
  pub kin-all : (i : ℕ) (links : List ℕ) → i ≡ r → Kindred book table i links → Kindred book table r links
  kin-all i links q w = subst (λ (n : ℕ). Kindred book table n links) q w

  -- One link more: to a place of the same class, or nowhere.
  pub kin-more : (i k : ℕ) (old new : List ℕ) → i < length old → new ≡ set old i k → (k ≡ no_link) ⊎ SameMoves book table k i
      → Kindred book table i old → Kindred book table (i + 1) new
  kin-more i k old new inside set_so here kin =
      subst (λ (l : List ℕ). Kindred book table (i + 1) l) (sym set_so) (record { each = λ j h. by j h (ℕ_discrete j i) })
    where
      by : (j : ℕ) → j < i + 1 → Dec (j ≡ i) → (get_or (set old i k) j 0 ≡ no_link) ⊎ SameMoves book table (get_or (set old i k) j 0) j
      by j h (yes q) =
          subst (λ (x : ℕ). (get_or (set old i k) x 0 ≡ no_link) ⊎ SameMoves book table (get_or (set old i k) x 0) x) (sym q)
          (subst (λ (x : ℕ). (x ≡ no_link) ⊎ SameMoves book table x i) (sym (get_or-set_same old i k 0 inside)) here)
      by j h (no q) =
          subst (λ (x : ℕ). (x ≡ no_link) ⊎ SameMoves book table x j) (sym (get_or-set_other old i j k 0 q)) (kin.each j (omega arith))

  -- All rows are the moves forth.
  pub stored-forth : (i at : ℕ) (moves : List ℕ) → i ≡ r → r ≤ most_states → length moves ≡ moves_size → at ≤ most_cells
      → StoredIn book table r i at moves → Forth book table r moves
  stored-forth i at moves q few long room s = record {
    long = long;
    rows = record {
      in_starts = omega (arith, starts-long moves long);
      in_ends = omega (arith, ends-long moves long);
      in_cells = λ k h. let a = s.below k (omega arith) in omega (arith, cells-long moves long);
      sound = λ k e h a b. (s.rows k (omega arith)).sound e a b;
      whole = λ k j h l m. (s.rows k (omega arith)).whole j (l, m);
    };
    ascends = λ k e h a b. (s.rows k (omega arith)).ascends e a b;
  }
