-- Stored moves in one list: how long its parts are, what is read from them, and what a write does to each. Assumes nothing.
use mathlib.Core.Path.{◌≡◌, refl, sym, ap, subst, ◌∙◌}
use mathlib.Core.List.{List, ◌++◌}
use Prim.Native.Nat.{ℕ, ◌+◌, ◌-◌, ◌≤◌, ◌<◌}
use native.Mathlib.Omega.{arith}
use lib.ListN.{length, get_or, set, take, drop, length-set, length-drop, length-append}
use lib.Seq.{
  length-take-le,
  take_all,
  take-add,
  take-take,
  take-append-le,
  drop-append-le,
  drop_at,
  drop-drop,
  take-set-le,
  take-set-lt,
  drop-set-lt,
  drop-set-add,
  get_or-take,
  get_or-drop,
}
use Rattle.meaning.specs.Promises.{most_states}
use Rattle.moves.specs.Layout.{
  most_cells,
  moves_size,
  cells_from,
  links_from,
  starts_of,
  ends_of,
  cells_of,
  start_at,
  end_at,
  cell_at,
  links_of,
  link_at,
  CellsOnly,
  LinksOnly,
  RowSet,
  LinkSet,
  PlaceSet,
  Appended,
}

-- ---- lengths and reads

pub starts-long : (moves : List ℕ) → length moves ≡ moves_size → length (starts_of moves) ≡ most_states
unfolding starts_of
starts-long moves long = length-take-le most_states moves (omega arith)

pub ends-long : (moves : List ℕ) → length moves ≡ moves_size → length (ends_of moves) ≡ most_states
unfolding ends_of
ends-long moves long = length-take-le most_states (drop most_states moves) (omega (arith, length-drop most_states moves))

pub cells-long : (moves : List ℕ) → length moves ≡ moves_size → length (cells_of moves) ≡ most_cells
unfolding cells_of
cells-long moves long = length-take-le most_cells (drop cells_from moves) (omega (arith, length-drop cells_from moves))

pub links-long : (moves : List ℕ) → length moves ≡ moves_size → length (links_of moves) ≡ most_states
unfolding links_of
links-long moves long = omega (arith, length-drop links_from moves)

pub start-read : (moves : List ℕ) (i : ℕ) → i < most_states → get_or moves i 0 ≡ start_at moves i
unfolding starts_of
start-read moves i h = sym (get_or-take most_states moves i 0 h)

pub end_read : (moves : List ℕ) (i : ℕ) → i < most_states → get_or moves (most_states + i) 0 ≡ end_at moves i
unfolding ends_of
end_read moves i h = sym (get_or-take most_states (drop most_states moves) i 0 h ∙ get_or-drop most_states moves i 0)

pub cell-read : (moves : List ℕ) (e : ℕ) → e < most_cells → get_or moves (cells_from + e) 0 ≡ cell_at moves e
unfolding cells_of
cell-read moves e h = sym (get_or-take most_cells (drop cells_from moves) e 0 h ∙ get_or-drop cells_from moves e 0)

pub link-read : (moves : List ℕ) (i : ℕ) → get_or moves (links_from + i) 0 ≡ link_at moves i
unfolding links_of
link-read moves i = sym (get_or-drop links_from moves i 0)

-- ---- one number is written

-- into the starts,
starts-set : (moves : List ℕ) (i v : ℕ) → i < most_states → starts_of (set moves i v) ≡ set (starts_of moves) i v
unfolding starts_of
starts-set moves i v h = take-set-lt most_states moves i v h

ends-kept : (moves : List ℕ) (i v : ℕ) → i < most_states → ends_of (set moves i v) ≡ ends_of moves
unfolding ends_of
ends-kept moves i v h = ap (λ (l : List ℕ). take most_states l) (drop-set-lt most_states moves i v h)

-- into the ends,
ends_set : (moves : List ℕ) (i v : ℕ) → i < most_states → ends_of (set moves (most_states + i) v) ≡ set (ends_of moves) i v
unfolding ends_of
ends_set moves i v h =
    ap (λ (l : List ℕ). take most_states l) (drop-set-add most_states moves i v) ∙ take-set-lt most_states (drop most_states moves) i v h

-- before the cells,
cells-kept : (moves : List ℕ) (i v : ℕ) → i < cells_from → cells_of (set moves i v) ≡ cells_of moves
unfolding cells_of
cells-kept moves i v h = ap (λ (l : List ℕ). take most_cells l) (drop-set-lt cells_from moves i v h)

links-kept : (moves : List ℕ) (i v : ℕ) → i < links_from → links_of (set moves i v) ≡ links_of moves
unfolding links_of
links-kept moves i v h = drop-set-lt links_from moves i v h

-- behind the starts,
starts-kept : (moves : List ℕ) (i v : ℕ) → most_states ≤ i → starts_of (set moves i v) ≡ starts_of moves
unfolding starts_of
starts-kept moves i v h = take-set-le most_states moves i v h

-- into the cells,
cells-set : (moves : List ℕ) (e v : ℕ) → e < most_cells → cells_of (set moves (cells_from + e) v) ≡ set (cells_of moves) e v
unfolding cells_of
cells-set moves e v h = ap (λ (l : List ℕ). take most_cells l) (drop-set-add cells_from moves e v)
    ∙ take-set-lt most_cells (drop cells_from moves) e v h

ends-under : (moves : List ℕ) (e v : ℕ) → ends_of (set moves (cells_from + e) v) ≡ ends_of moves
unfolding ends_of
ends-under moves e v =
    let a : cells_from + e ≡ most_states + (most_states + e) = omega arith in
    ap (λ (k : ℕ). take most_states (drop most_states (set moves k v))) a
    ∙ ap (λ (l : List ℕ). take most_states l) (drop-set-add most_states moves (most_states + e) v)
    ∙ take-set-le most_states (drop most_states moves) (most_states + e) v (omega arith)

-- or into the links.
links-set : (moves : List ℕ) (i v : ℕ) → links_of (set moves (links_from + i) v) ≡ set (links_of moves) i v
unfolding links_of
links-set moves i v = drop-set-add links_from moves i v

cells-under : (moves : List ℕ) (i v : ℕ) → cells_of (set moves (links_from + i) v) ≡ cells_of moves
unfolding cells_of
cells-under moves i v =
    let a : links_from + i ≡ cells_from + (most_states + i) = omega arith in
    ap (λ (k : ℕ). take most_cells (drop cells_from (set moves k v))) a
    ∙ ap (λ (l : List ℕ). take most_cells l) (drop-set-add cells_from moves (most_states + i) v)
    ∙ take-set-le most_cells (drop cells_from moves) (most_states + i) v (omega arith)

ends-over : (moves : List ℕ) (i v : ℕ) → ends_of (set moves (links_from + i) v) ≡ ends_of moves
ends-over moves i v =
    let a : links_from + i ≡ cells_from + (most_states + i) = omega arith in
    ap (λ (k : ℕ). ends_of (set moves k v)) a ∙ ends-under moves (most_states + i) v

-- A link is written.
pub link_set : (moves : List ℕ) (i k : ℕ) → LinkSet i k moves (set moves (links_from + i) k)
link_set moves i k = record {
  rest = record {
    starts = starts-kept moves (links_from + i) k (omega arith);
    ends = ends-over moves i k;
    cells = cells-under moves i k;
    long = length-set moves (links_from + i) k;
  };
  links = links-set moves i k;
}

-- A row is set, and then a link.
pub place_set : (i start end k : ℕ) (old mid new : List ℕ) → RowSet i start end old mid → LinkSet i k mid new
    → PlaceSet i start end k old new
place_set i start end k old mid new r l = record {
  starts = l.rest.starts ∙ r.starts;
  ends = l.rest.ends ∙ r.ends;
  cells = l.rest.cells ∙ r.cells;
  links = l.links ∙ ap (λ (x : List ℕ). set x i k) r.links;
  long = l.rest.long ∙ r.long;
}

-- Links that are written one after the other.
pub links-then : {old mid new : List ℕ} → LinksOnly old mid → LinksOnly mid new → LinksOnly old new
links-then a b = record {
  starts = b.starts ∙ a.starts;
  ends = b.ends ∙ a.ends;
  cells = b.cells ∙ a.cells;
  long = b.long ∙ a.long;
}

-- Nothing is written.
pub links-none : {moves : List ℕ} → LinksOnly moves moves
links-none = record { starts = refl; ends = refl; cells = refl; long = refl }

-- A start and an end are written.
pub row-set : (moves : List ℕ) (i start end : ℕ) → i < most_states → RowSet i start end moves (set (set moves i start) (most_states + i) end)
row-set moves i start end h = record {
  starts = starts-kept (set moves i start) (most_states + i) end (omega arith) ∙ starts-set moves i start h;
  ends = ends_set (set moves i start) i end h ∙ ap (λ (l : List ℕ). set l i end) (ends-kept moves i start h);
  cells = cells-kept (set moves i start) (most_states + i) end (omega arith) ∙ cells-kept moves i start (omega arith);
  links = links-kept (set moves i start) (most_states + i) end (omega arith) ∙ links-kept moves i start (omega arith);
  long = length-set (set moves i start) (most_states + i) end ∙ length-set moves i start;
}

-- A cell and an end are written.
pub appended : (moves : List ℕ) (i j e : ℕ) → i < most_states → end_at moves i < most_cells → e ≡ end_at moves i
    → Appended i j moves (set (set moves (cells_from + e) j) (most_states + i) (e + 1))
appended moves i j e h room q =
    subst (λ (x : ℕ). Appended i j moves (set (set moves (cells_from + x) j) (most_states + i) (x + 1))) (sym q) (record {
      starts = starts-kept (set moves to j) (most_states + i) (end_at moves i + 1) (omega arith) ∙ starts-kept moves to j (omega arith);
      ends =
          ends_set (set moves to j) i (end_at moves i + 1) h
          ∙ ap (λ (l : List ℕ). set l i (end_at moves i + 1)) (ends-under moves (end_at moves i) j);
      cells = cells-kept (set moves to j) (most_states + i) (end_at moves i + 1) (omega arith) ∙ cells-set moves (end_at moves i) j room;
      long = length-set (set moves to j) (most_states + i) (end_at moves i + 1) ∙ length-set moves to j;
    })
  where
    to : ℕ
    to = cells_from + end_at moves i

-- ---- a part is lent

-- A part that is lent and comes back as long leaves the length as it was.
pub lent-long : (moves part : List ℕ) (from to : ℕ) → from ≤ to → to ≤ length moves → length part ≡ to - from
    → length (take from moves ++ (part ++ drop (to - from) (drop from moves))) ≡ length moves
lent-long moves part from to order within same =
    length-append (take from moves) _ ∙ ap (λ (x : ℕ). length (take from moves) + x) (length-append part _)
    ∙ omega (arith, length-take-le from moves (omega arith), length-drop (to - from) (drop from moves), length-drop from moves)

-- what the list is after its cells were lent and came back as new ones
abbrev pub cells_back : (moves cells : List ℕ) → List ℕ
cells_back moves cells = take cells_from moves ++ (cells ++ drop (links_from - cells_from) (drop cells_from moves))

module _ (moves cells : List ℕ) (long : length moves ≡ moves_size) (same : length cells ≡ most_cells) where
  head : length (take cells_from moves) ≡ cells_from
  head = length-take-le cells_from moves (omega arith)

  rest : drop cells_from (cells_back moves cells) ≡ cells ++ drop most_states (drop cells_from moves)
  rest = drop_at (take cells_from moves) _ cells_from head

  -- The new ones are its cells now,
  pub cells-back : cells_of (cells_back moves cells) ≡ cells
  unfolding cells_of
  cells-back =
      ap (λ (l : List ℕ). take most_states l) rest ∙ take-append-le most_states cells _ (omega (arith, same))
      ∙ take_all most_states cells (omega (arith, same))

  middle : drop most_states (take cells_from moves) ≡ take most_states (drop most_states moves)
  middle = ap (λ (l : List ℕ). drop most_states l) (take-add most_states most_states moves) ∙ drop_at (take most_states moves) _ most_states
      (length-take-le most_states moves (omega arith))

  -- and nothing else has changed.
  pub cells-only : CellsOnly moves (cells_back moves cells)
  unfolding starts_of ends_of cells_of links_of
  cells-only = record {
    starts = take-append-le most_states (take cells_from moves) _ (omega (arith, head)) ∙ take-take most_states cells_from moves (omega arith);
    ends =
        ap (λ (l : List ℕ). take most_states l) (drop-append-le most_states (take cells_from moves) _ (omega (arith, head)))
        ∙ take-append-le most_states (drop most_states (take cells_from moves)) _
        (omega (arith, head, length-drop most_states (take cells_from moves)))
        ∙ ap (λ (l : List ℕ). take most_states l) middle ∙ take-take most_states most_states (drop most_states moves) (omega arith);
    links = sym (drop-drop most_states cells_from (cells_back moves cells)) ∙ ap (λ (l : List ℕ). drop most_states l) rest
        ∙ drop_at cells _ most_states same ∙ drop-drop most_states cells_from moves;
    long = lent-long moves cells cells_from links_from (omega arith) (omega (arith, long)) (omega (arith, same));
  }

-- The cells that are lent.
pub cells-part : (moves : List ℕ) → take (links_from - cells_from) (drop cells_from moves) ≡ cells_of moves
unfolding cells_of
cells-part moves = refl
