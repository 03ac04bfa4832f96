-- What an entry of a strike list must show, over any system, and what the functions below ask of the list and of a state. Assumes nothing.
use Rattle.std.specs.Prelude.{◌≡◌, Bool, true, List, ℕ, zero, suc, ◌%◌, ◌≤◌, ◌<◌, length, get_or}
use Rattle.meaning.specs.System.{System}
use Rattle.meaning.specs.Papers.{EntryRight}
use Rattle.rules.specs.Book.{book_system}
use Rattle.rules.specs.Freer.{Freer}
use Rattle.strikes_apart.specs.Apart.{Different}
use Rattle.strikes_covers.specs.Asks.{NextsWithin, StatesAsk}

-- the words never fall
abbrev pub Rising : List ℕ → Type 0
Rising words = (i : ℕ) → suc i < length words → get_or words i 0 ≤ get_or words (suc i) 0

-- entry i shows what it must; all do
abbrev pub EntryOk : System → (states words : List ℕ) → ℕ → Type 0
EntryOk S states words i = EntryRight S states words (get_or words i 0 % 32) (get_or words i 0) (get_or states i 0)

abbrev pub EntriesOk : System → (states words : List ℕ) → Type 0
EntriesOk S states words = (i : ℕ) → i < length states → EntryOk S states words i

-- A reason keeps its promise at s (reason 0 has none). So an entry must show the same of every reason: its promise is not kept, and the
-- next states of its state are among the first m.
abbrev pub KeptBy : System → (reason s : ℕ) → Type 0
KeptBy S zero s = ⊥
KeptBy S (suc k) s = S.Kept k s

abbrev pub StateOk : System → (reason s : ℕ) → List ℕ → (m : ℕ) → Type 0
StateOk S reason s states m = (KeptBy S reason s → ⊥) × NextsWithin S s states m

-- the places of next states: the nearer for reason 0, the farther for another
abbrev pub places_of : (reason near far : ℕ) → ℕ
places_of zero near far = near
places_of (suc k) near far = far

-- the first m words are below the limit; and no other is
pub record Under (words : List ℕ) (limit m : ℕ) : Type 0 where
  pub within : m ≤ length words
  pub below : (j : ℕ) → j < m → get_or words j 0 < limit

pub record Reach (words : List ℕ) (limit m : ℕ) : Type 0 where
  pub under : Under words limit m
  pub above : m < length words → limit ≤ get_or words m 0

-- the state of an entry before entry i may move wherever that one's may
pub record Follows (book states : List ℕ) (i : ℕ) : Type 0 where
  pub place : ℕ
  pub before : place < i
  pub freer : Freer book (get_or states place 0) (get_or states i 0)

-- a lawful state whose next states are looked for among the first m; `known` may be true only if they are there
pub record EntryAsks (book : List ℕ) (s : ℕ) (states : List ℕ) (m : ℕ) (known : Bool) : Type 0 where
  pub states_ask : StatesAsk book states
  pub lawful : (book_system book).Lawful s
  pub there : known ≡ true → NextsWithin (book_system book) s states m

-- a list of lawful states with as many words that never fall; `distinct` may be true only if no state stands twice
pub record EntriesAsk (book states words : List ℕ) (distinct : Bool) : Type 0 where
  pub states_ask : StatesAsk book states
  pub different : distinct ≡ true → Different states
  pub as_many : length words ≡ length states
  pub rising : Rising words
