-- The judge's papers written as bytes, four to a number: on a good sheet every state is below 2^24 and every word below 2^32 (Sizes.antt),
-- so the bytes hold whole numbers, which are read back as they were (Bytes.antt), and what is accepted as numbers is accepted as bytes.
-- Assumes nothing.
use mathlib.Core.Path.{◌≡◌, sym, subst, subst₂}
use mathlib.Core.Option.{none}
use mathlib.Core.List.{List}
use Prim.Native.Nat.{ℕ}
use native.Mathlib.Omega.{arith}
use Rattle.meaning.specs.Sheet.{first_fault}
use Rattle.meaning.specs.Strike.{StrikeList}
use Rattle.meaning.specs.Papers.{RunAccepted, StrikesAccepted}
use Rattle.meaning.specs.Bytes.{bytes_of}
use Rattle.meaning.specs.Promises.{system_in, state_bytes, word_bytes, Whole, numbers_in}
use Rattle.meaning.proofs.Bytes.{read_back, written-whole}
use Rattle.meaning.proofs.Sizes.{words_small, struck-states-small, run-states-small}

-- A run that is accepted is accepted as bytes.
pub run-paper-bytes : (sheet : List ℕ) {states : List ℕ} {a : ℕ} → first_fault sheet ≡ none → RunAccepted (system_in sheet) states a
    → Whole state_bytes (bytes_of state_bytes states) × RunAccepted (system_in sheet) (numbers_in state_bytes (bytes_of state_bytes states)) a
unfolding state_bytes
run-paper-bytes sheet {states} {a} good ok = (
  written-whole state_bytes states,
  subst (λ (l : List ℕ). RunAccepted (system_in sheet) l a)
      (sym (read_back state_bytes states (omega arith) (λ i h. omega (arith, run-states-small sheet good ok i h)))) ok,
)

-- The strike list is accepted as bytes.
pub strike-paper-bytes : (sheet : List ℕ) {states words : List ℕ} → first_fault sheet ≡ none → StrikeList (system_in sheet) states words
    → StrikesAccepted (system_in sheet) states words
    → Whole state_bytes (bytes_of state_bytes states) × Whole word_bytes (bytes_of word_bytes words)
    × StrikesAccepted (system_in sheet) (numbers_in state_bytes (bytes_of state_bytes states)) (numbers_in word_bytes (bytes_of word_bytes words))
unfolding state_bytes word_bytes
strike-paper-bytes sheet {states} {words} good list ok = (
  written-whole state_bytes states,
  written-whole word_bytes words,
  subst₂ (StrikesAccepted (system_in sheet))
      (sym (read_back state_bytes states (omega arith) (λ i h. omega (arith, struck-states-small sheet good ok i h))))
      (sym (read_back word_bytes words (omega arith) (λ i h. omega (arith, words_small sheet good list i h)))) ok,
)
