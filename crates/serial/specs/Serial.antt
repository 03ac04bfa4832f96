-- Document 02, order 6, "Sheets over the serial lead": what taking a piece and what closing promise, for every state of a lead that can be
-- handed in. A lead is a count and a mark by value; the bytes that came stand in a lent buffer of 4,096. Each promise leaves one outcome
-- and can be met (proofs/Outcomes.antt); what follows for pieces taken one after another is in proofs/Joined.antt. Assumes nothing.
use Rattle.std.specs.Prelude.{◌≡◌, List, [], ◌∷◌, ◌++◌, ℕ, zero, suc, ◌+◌, ◌≤◌, ◌<◌, min, max, length, take, get_or}
use Rattle.std.proofs.lemmas.List.Edits.{sets}
use Rattle.meaning.specs.Sheet.{most_bytes_of_a_sheet}
use Rattle.meaning.specs.Promises.{ReadPlaced}
use Rattle.answers.specs.Answers.{lead_closed}
use Rattle.serial.specs.declared.Lead.{Lead}

-- ---- the state of a lead: how many bytes have come, and whether it is closed (0: open; else closed)

abbrev pub Open : Lead → Type 0
Open lead = lead.closed ≡ 0

abbrev pub Shut : Lead → Type 0
Shut lead = lead.closed ≡ 0 → ⊥

-- a lead that nothing has come over yet
abbrev pub fresh : Lead
fresh = record { taken = 0; closed = 0 }

-- The count after so many more bytes. 4,097 stands for every number above 4,096; a count above 4,096 stays as it is.
abbrev pub counted : (taken more : ℕ) → ℕ
counted taken more = max taken (min (taken + more) (suc most_bytes_of_a_sheet))

abbrev pub grown : Lead → ℕ → Lead
grown lead more = record { taken = counted lead.taken more; closed = lead.closed }

abbrev pub ended : Lead → Lead
ended lead = record { taken = lead.taken; closed = 1 }

-- ---- "Take pieces, some perhaps empty"

-- What taking a piece answers and leaves. Open: 0, and the bytes are written behind those that came (what goes past the buffer's end is not
-- stored, every other byte stays). "A piece .. after closing is refused with 18, whatever the sheet, and changes nothing."
pub data Takes (lead : Lead) (sheet piece : List ℕ) (answer : ℕ) (after : Lead) (left : List ℕ) : Type 0 where
  added :
      Open lead → answer ≡ 0 → after ≡ grown lead (length piece) → left ≡ sets sheet lead.taken piece
      → Takes lead sheet piece answer after left
  late : Shut lead → answer ≡ lead_closed → after ≡ lead → left ≡ sheet → Takes lead sheet piece answer after left

-- ---- "and answer at closing just as the reader answers for the joined bytes, place included"

-- The reader's answer and place for the first `taken` bytes of the buffer. "Over 4,096 bytes the answer at closing is 1", its place 0.
pub data Answers (taken : ℕ) (sheet : List ℕ) (answer place : ℕ) : Type 0 where
  read : taken ≤ most_bytes_of_a_sheet → ReadPlaced (take taken sheet) answer place → Answers taken sheet answer place
  over : most_bytes_of_a_sheet < taken → answer ≡ 1 → place ≡ 0 → Answers taken sheet answer place

-- What closing answers and leaves. "A second closing .. is refused with 18, whatever the sheet, and changes nothing."
pub data Closes (lead : Lead) (sheet : List ℕ) (answer place : ℕ) (after : Lead) : Type 0 where
  ends : Open lead → Answers lead.taken sheet answer place → after ≡ ended lead → Closes lead sheet answer place after
  again : Shut lead → answer ≡ lead_closed → place ≡ 0 → after ≡ lead → Closes lead sheet answer place after

-- ---- the same for C: a state is two numbers, count and mark

abbrev pub lead_in : List ℕ → Lead
lead_in state = record { taken = get_or state 0 0; closed = get_or state 1 0 }

abbrev pub state_of : Lead → List ℕ
state_of lead = lead.taken ∷ lead.closed ∷ []

pub record TakesState (state sheet piece : List ℕ) (answer : ℕ) (state' left : List ℕ) : Type 0 where
  pub after : Lead
  pub promise : Takes (lead_in state) sheet piece answer after left
  pub written : state' ≡ state_of after

-- Answer and place go into `out`, in this order; what stood there before plays no part, and it is written on every answer, 18 too.
pub record ClosesState (state sheet out state' : List ℕ) : Type 0 where
  pub answer : ℕ
  pub place : ℕ
  pub after : Lead
  pub promise : Closes (lead_in state) sheet answer place after
  pub written : state' ≡ state_of after
  pub told : out ≡ answer ∷ place ∷ []

-- ---- pieces taken one after another

-- the joined bytes
unfoldable pub joined : List (List ℕ) → List ℕ
joined [] = []
joined (piece ∷ pieces) = piece ++ joined pieces

-- Taking these pieces in this order gives these answers, and leaves this lead and this buffer.
unfoldable pub Feeds : (pieces : List (List ℕ)) (lead : Lead) (sheet answers : List ℕ) (after : Lead) (left : List ℕ) → Type 0
Feeds [] lead sheet answers after left = (answers ≡ []) × (after ≡ lead) × (left ≡ sheet)
Feeds (piece ∷ pieces) lead sheet answers after left =
    (answer : ℕ) × (later : List ℕ) × (mid : Lead) × (between : List ℕ)
    × (answers ≡ answer ∷ later) × Takes lead sheet piece answer mid between × Feeds pieces mid between later after left

-- The same from a fresh lead, with a buffer of 4,096 bytes, whatever stands in it.
pub record FedFresh (pieces : List (List ℕ)) (sheet answers : List ℕ) (lead : Lead) (left : List ℕ) : Type 0 where
  pub room : length sheet ≡ most_bytes_of_a_sheet
  pub feeds : Feeds pieces fresh sheet answers lead left
