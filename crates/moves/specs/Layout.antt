-- Where stored moves stand in one list of numbers: for each place the cell that its row starts at, then for each place the cell that its
-- row ends before, then the cells, then for each place a link to another place of its class. Assumes nothing.
use Rattle.std.specs.Prelude.{◌≡◌, List, ◌⊎◌, ℕ, zero, suc, ◌+◌, ◌≤◌, ◌<◌, length, get_or, set, take, drop}
use Rattle.ground.specs.Listed.{Between}
use Rattle.meaning.specs.Promises.{most_states}

-- the most cells; moves are stored for `most_states` places at most
abbrev pub most_cells : ℕ
most_cells = 16384

-- how long the list is
abbrev pub moves_size : ℕ
moves_size = 65536

-- where the cells stand from, and the links
abbrev pub cells_from : ℕ
cells_from = 32768

abbrev pub links_from : ℕ
links_from = 49152

-- the greatest number that a place of the list holds
abbrev pub most_number : ℕ
most_number = 65535

-- the link that leads nowhere
abbrev pub no_link : ℕ
no_link = 65535

-- its four parts
unfoldable pub starts_of : List ℕ → List ℕ
starts_of moves = take most_states moves

unfoldable pub ends_of : List ℕ → List ℕ
ends_of moves = take most_states (drop most_states moves)

unfoldable pub cells_of : List ℕ → List ℕ
cells_of moves = take most_cells (drop cells_from moves)

unfoldable pub links_of : List ℕ → List ℕ
links_of moves = drop links_from moves

-- where place i's row starts, where it ends, the place that stands in cell e, and place i's link
abbrev pub start_at : List ℕ → ℕ → ℕ
start_at moves i = get_or (starts_of moves) i 0

abbrev pub end_at : List ℕ → ℕ → ℕ
end_at moves i = get_or (ends_of moves) i 0

abbrev pub cell_at : List ℕ → ℕ → ℕ
cell_at moves e = get_or (cells_of moves) e 0

abbrev pub link_at : List ℕ → ℕ → ℕ
link_at moves i = get_or (links_of moves) i 0

-- n links lead from place c to place i
abbrev pub LinkedIn : (links : List ℕ) (n c i : ℕ) → Type 0
LinkedIn links zero c i = c ≡ i
LinkedIn links (suc n) c i = (get_or links c 0 < most_states) × LinkedIn links n (get_or links c 0) i

-- place i stands on the chain that begins with place c
abbrev pub Linked : (moves : List ℕ) (c i : ℕ) → Type 0
Linked moves c i = (n : ℕ) × LinkedIn (links_of moves) n c i

-- place j's row has a place on whose chain place i stands
abbrev pub Backed : (moves : List ℕ) (i j : ℕ) → Type 0
Backed moves i j = (c : ℕ) × Between (cells_of moves) (start_at moves j) (end_at moves j) c × Linked moves c i

-- the links of the first r places lead to later ones of them, or nowhere
abbrev pub Ascending : (r : ℕ) (moves : List ℕ) → Type 0
Ascending r moves = (i : ℕ) → i < r → (link_at moves i ≡ no_link) ⊎ ((i < link_at moves i) × (link_at moves i < r))

-- place i has a row that can be read
pub record HasRow (moves : List ℕ) (i : ℕ) : Type 0 where
  pub long : length moves ≡ moves_size
  pub place : i < most_states
  pub within : end_at moves i ≤ most_cells

-- only cells have changed
pub record CellsOnly (old new : List ℕ) : Type 0 where
  pub starts : starts_of new ≡ starts_of old
  pub ends : ends_of new ≡ ends_of old
  pub links : links_of new ≡ links_of old
  pub long : length new ≡ length old

-- only links have changed
pub record LinksOnly (old new : List ℕ) : Type 0 where
  pub starts : starts_of new ≡ starts_of old
  pub ends : ends_of new ≡ ends_of old
  pub cells : cells_of new ≡ cells_of old
  pub long : length new ≡ length old

-- place i's link is set, and all else is as it was
pub record LinkSet (i k : ℕ) (old new : List ℕ) : Type 0 where
  pub rest : LinksOnly old new
  pub links : links_of new ≡ set (links_of old) i k

-- row i is set to the cells from `start` up to `end`, and place i's link to k, and all else is as it was
pub record PlaceSet (i start end k : ℕ) (old new : List ℕ) : Type 0 where
  pub starts : starts_of new ≡ set (starts_of old) i start
  pub ends : ends_of new ≡ set (ends_of old) i end
  pub cells : cells_of new ≡ cells_of old
  pub links : links_of new ≡ set (links_of old) i k
  pub long : length new ≡ length old

-- row i is set to the cells from `start` up to `end`, and all else is as it was
pub record RowSet (i start end : ℕ) (old new : List ℕ) : Type 0 where
  pub starts : starts_of new ≡ set (starts_of old) i start
  pub ends : ends_of new ≡ set (ends_of old) i end
  pub cells : cells_of new ≡ cells_of old
  pub links : links_of new ≡ links_of old
  pub long : length new ≡ length old

-- j stands in a cell behind the end of row i, which now ends after it, and all else is as it was
pub record Appended (i j : ℕ) (old new : List ℕ) : Type 0 where
  pub starts : starts_of new ≡ starts_of old
  pub ends : ends_of new ≡ set (ends_of old) i (end_at old i + 1)
  pub cells : cells_of new ≡ set (cells_of old) (end_at old i) j
  pub long : length new ≡ length old
