-- What the functions that follow stored moves back promise one another: who stands in the queue, and what one row of moves adds to it.
-- Assumes nothing.
use Rattle.std.specs.Prelude.{◌≡◌, List, ℕ, ◌+◌, ◌≤◌, ◌<◌, length, get_or}
use Rattle.ground.specs.Listed.{Between}
use Rattle.meaning.specs.Promises.{most_states}
use Rattle.moves.specs.Layout.{moves_size, start_at, end_at, cell_at, HasRow, Ascending}
use Rattle.distances.specs.Far.{far, gone}
use Rattle.distances.specs.Values.{fars, Spread}

-- places may be followed along chains: the queue has room for those not reached yet
pub record Ready (moves : List ℕ) (d r : ℕ) (near queue : List ℕ) (tail : ℕ) : Type 0 where
  pub stored : length moves ≡ moves_size
  pub links : Ascending r moves
  pub small : d < gone
  pub long : length near ≡ r
  pub few : r ≤ most_states
  pub in_queue : r ≤ length queue
  pub room : tail + fars near r ≤ r

-- a row may be followed: its cells are places
pub record RowReady (moves : List ℕ) (j d r : ℕ) (near queue : List ℕ) (tail : ℕ) : Type 0 where
  pub row : HasRow moves j
  pub places : (e : ℕ) → start_at moves j ≤ e → e < end_at moves j → cell_at moves e < r
  pub ready : Ready moves d r near queue tail

-- the places that got d stand in the queue behind its first `tail`, which are as they were, and no other place does
pub record Joined (d r : ℕ) (old new : List ℕ) (tail : ℕ) (queue queue' : List ℕ) (got : ℕ) : Type 0 where
  pub long : length queue' ≡ length queue
  pub kept : (t : ℕ) → t < tail → get_or queue' t 0 ≡ get_or queue t 0
  pub added : (t : ℕ) → tail ≤ t → t < tail + got
      → (get_or queue' t 0 < r) × (get_or old (get_or queue' t 0) 0 ≡ far) × (get_or new (get_or queue' t 0) 0 ≡ d)
  pub whole : (i : ℕ) → i < r → get_or old i 0 ≡ far → get_or new i 0 ≡ d → Between queue' tail (tail + got) i

-- the places of P are followed: exactly those that were not reached yet have d now, and have joined the queue
pub record Followed (P : ℕ → Type 0) (d r : ℕ) (old new : List ℕ) (tail : ℕ) (queue queue' : List ℕ) (got : ℕ) : Type 0 where
  pub spread : Spread P d r old new got
  pub joined : Joined d r old new tail queue queue' got
