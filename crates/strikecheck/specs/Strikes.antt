-- The strike checker's conditions that stand neither in crate strikes_covers (specs/Asks.antt) nor in crate strikes_entries
-- (specs/Entries.antt), and its promise for a paper of any two parts (crate papers). The two public calls promise what the meaning
-- says (StrikesPlaced, StrikesBytesChecked). Assumes nothing.
use Rattle.std.specs.Prelude.{List, ℕ, ◌%◌, ◌≤◌, ◌<◌, length, get_or}
use Rattle.meaning.specs.System.{System}
use Rattle.meaning.specs.Papers.{StrikesAccepted}
use Rattle.meaning.specs.Promises.{Checked}

-- each word's remainder by 32 is at most p
abbrev pub ReasonsFit : System → List ℕ → Type 0
ReasonsFit S words = (i : ℕ) → i < length words → get_or words i 0 % 32 ≤ S.promises

-- in a system: both parts are whole, and the list of their states and words is accepted
unfoldable pub PaperAccepted : System → (states-whole words-whole : Type 0) (states words : List ℕ) → Type 0
PaperAccepted S states-whole words-whole states words = states-whole × words-whole × StrikesAccepted S states words

-- the number for a sheet and a paper
unfoldable pub PaperChecked : (sheet : List ℕ) (states-whole words-whole : Type 0) (states words : List ℕ) (n : ℕ) → Type 0
unfolding PaperAccepted
PaperChecked sheet states-whole words-whole states words n =
    Checked sheet (λ S. PaperAccepted S states-whole words-whole states words) n
