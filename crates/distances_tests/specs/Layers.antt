-- What the functions that find distances by tests promise one another: which places are listed, what one spread does to them, who serves
-- for whom, and what the values say while a layer is being spread. Assumes nothing.
use Rattle.std.specs.Prelude.{◌≡◌, ◌⊎◌, List, ℕ, suc, ◌+◌, ◌-◌, ◌≤◌, ◌<◌, length, get_or}
use Rattle.meaning.specs.System.{System}
use Rattle.meaning.specs.Promises.{most_states}
use Rattle.rules.specs.Book.{book_system}
use Rattle.rules.specs.Table.{To}
use Rattle.rules_signs.specs.Signs.{Signed}
use Rattle.distances.specs.Far.{Unstruck, far, gone}
use Rattle.distances.specs.Values.{fars, LinedUp, Spread, Sure, Opening, Near}

-- the places not reached yet, and no other, are the first `left` of the list
pub record Listed (r left : ℕ) (list near : List ℕ) : Type 0 where
  pub in_list : r ≤ length list
  pub long : length near ≡ r
  pub few : r ≤ most_states
  pub waiting : LinedUp far near r left list

-- one spread over the listed places: of `left` that were not reached yet `kept` are listed still
pub record Sifted (P : ℕ → Type 0) (d r left kept : ℕ) (old new list list' : List ℕ) : Type 0 where
  pub spread : Spread P d r old new (left - kept)
  pub listed : Listed r kept list' new
  pub same : length list' ≡ length list

-- the moves to place m are known: it stands in a layer before d, or in layer d below place j
abbrev pub Done : (d j m x : ℕ) → Type 0
Done d j m x = (x < d) ⊎ ((x ≡ d) × (m < j))

-- place k serves for place j of layer d: the moves to it are known, and whoever moves to j moves to it
pub record Serves (book table : List ℕ) (r d j k : ℕ) (near : List ℕ) : Type 0 where
  pub place : k < r
  pub done : Done d j k (get_or near k 0)
  pub wider : (i : ℕ) → i < r → To book table i j → To book table i k

-- some place does
pub record Served (book table : List ℕ) (r d j : ℕ) (near : List ℕ) : Type 0 where
  pub by : ℕ
  pub serves : Serves book table r d j by near

-- what they say while layer d is spread: its first j places are, and `got` places were added
pub record Layered (S : System) (G : ℕ → Type 0) (table words : List ℕ) (r d j got : ℕ) (near : List ℕ) : Type 0 where
  pub sure : Sure S G table words r near
  pub low : (i : ℕ) → i < r → get_or near i 0 < gone → (get_or near i 0 ≤ suc d) × (get_or near i 0 ≤ d + got)
  pub steps : (i m : ℕ) → i < r → m < r → Unstruck words i → Unstruck words m → S.Move (get_or table i 0) (get_or table m 0)
      → Done d j m (get_or near m 0) → get_or near i 0 ≤ suc (get_or near m 0)

-- layer d may be spread: pairs can be tested, the `left` places not reached yet are listed, and there is room for the numbers
pub record Spreadable (book table : List ℕ) (r d left : ℕ) (list near signs : List ℕ) : Type 0 where
  pub signed : Signed book table r signs
  pub small : d < most_states
  pub listed : Listed r left list near

-- layer d is spread, and `got` places are reached by it: whatever the promise and the words are that the values before it speak of, the
-- values now speak of them too
pub record LayerDone (book table : List ℕ) (r d got : ℕ) (old near : List ℕ) : Type 0 where
  pub long : length near ≡ r
  pub counted : got + fars near r ≡ fars old r
  pub spread_all : (k : ℕ) (words : List ℕ) → Layered (book_system book) ((book_system book).Kept k) table words r d 0 0 old
      → Layered (book_system book) ((book_system book).Kept k) table words r d r got near

-- the same of the listed places: `kept` of `left` are listed still
pub record LayerSifted (book table : List ℕ) (r d left kept : ℕ) (old near list list' : List ℕ) : Type 0 where
  pub done : LayerDone book table r d (left - kept) old near
  pub listed : Listed r kept list' near
  pub most : kept ≤ left
  pub same : length list' ≡ length list

-- all layers are spread: whatever the promise and the words are that the values before them speak of, the values now are the distances
pub record LayersDone (book table : List ℕ) (r : ℕ) (old near : List ℕ) : Type 0 where
  pub long : length near ≡ r
  pub answers : (k : ℕ) (words : List ℕ) → Opening book k table words r old
      → Near (book_system book) ((book_system book).Kept k) table words r near
