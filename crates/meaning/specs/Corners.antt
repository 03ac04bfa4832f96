-- Corners: sentences of document 01 that the wall's examples do not tell from a neighbour (one less, the other order, a condition left
-- out), each tied down by an example from bytes. One list, as the wall is; proved in proofs/Cornered.antt. Every refused paper fails in one
-- condition and meets all others, so that a definition without it would accept the paper. Assumes nothing.
use Rattle.std.specs.Prelude.{List, [], ◌∷◌, ◌++◌, ℕ, ◌+◌, length, replicate}
use Rattle.meaning.specs.Promises.{ReadSays, RunChecked, StrikesChecked, RunBytesChecked, StrikesBytesChecked}
use Rattle.meaning.specs.Wall.{Example, Holds, can_be_kept, w1, w2, w4}

-- what is claimed: an example as on the wall; the reader's number; a checker's number, on numbers and on bytes
pub data Corner : Type 0 where
  as_on_the_wall : Example → Corner
  reads : (sheet : List ℕ) (n : ℕ) → Corner
  run : (sheet states : List ℕ) (a n : ℕ) → Corner
  strikes : (sheet states words : List ℕ) (n : ℕ) → Corner
  run_bytes : (sheet states : List ℕ) (a n : ℕ) → Corner
  strikes_bytes : (sheet states words : List ℕ) (n : ℕ) → Corner

abbrev pub Shown : Corner → Type 0
Shown (as_on_the_wall e) = Holds e
Shown (reads sheet n) = ReadSays sheet n
Shown (run sheet states a n) = RunChecked sheet states a n
Shown (strikes sheet states words n) = StrikesChecked sheet states words n
Shown (run_bytes sheet states a n) = RunBytesChecked sheet states a n
Shown (strikes_bytes sheet states words n) = StrikesBytesChecked sheet states words n

abbrev pub AllShown : List Corner → Type 0
AllShown [] = Unit {0}
AllShown (c ∷ cs) = Shown c × AllShown cs

-- ---- the sheets

-- n=1, promises 1 and 1
abbrev pub twice : List ℕ
twice = 0x01 ∷ 0x00 ∷ 0x0C ∷ 0x01 ∷ 0x00 ∷ 0x00 ∷ 0x00 ∷ 0x02 ∷ 0x01 ∷ 0x01 ∷ 0x01 ∷ 0x01 ∷ []

-- n=1, first -1, step 1 to 1: from state 0 to 0 and 1, from state 1 to 1
abbrev pub stays : List ℕ
stays = 0x01 ∷ 0x00 ∷ 0x0E ∷ 0x01 ∷ 0x00 ∷ 0x01 ∷ 0x01 ∷ 0x00 ∷ 0x01 ∷ 0xFF ∷ 0x03 ∷ 0x01 ∷ 0x01 ∷ 0x01 ∷ []

-- n=1, first -1, steps -1 to 1 and 1 to nothing, promise 1: from state 0 to 1, from state 1 nowhere
abbrev pub dead_end : List ℕ
dead_end = 0x01 ∷ 0x00 ∷ 0x13 ∷ 0x01 ∷ 0x00 ∷ 0x01 ∷ 0x02 ∷ 0x01
    ∷ 0x01 ∷ 0xFF ∷ 0x03 ∷ 0x01 ∷ 0xFF ∷ 0x01 ∷ 0x02 ∷ 0x01 ∷ 0x01 ∷ 0x01 ∷ 0x01 ∷ []

-- a sheet that says it has so many letters, limits and promises, and has no record
abbrev pub bare : (letters limits promises : ℕ) → List ℕ
bare letters limits promises = 0x01 ∷ 0x00 ∷ 0x08 ∷ letters ∷ limits ∷ 0x00 ∷ 0x00 ∷ promises ∷ []

-- a sheet of so many letters with one first rule of these literals, and bytes behind it
abbrev pub first_rule : (letters : ℕ) (literals behind : List ℕ) → List ℕ
first_rule letters literals behind =
    0x01 ∷ 0x00 ∷ (9 + length literals + length behind) ∷ letters ∷ 0x00 ∷ 0x01 ∷ 0x00 ∷ 0x00 ∷ length literals ∷ literals ++ behind

-- a sheet of one letter with one step rule of these bytes
abbrev pub step_rule : List ℕ → List ℕ
step_rule body = 0x01 ∷ 0x00 ∷ (9 + length body) ∷ 0x01 ∷ 0x00 ∷ 0x00 ∷ 0x01 ∷ 0x00 ∷ length body ∷ body

-- ---- the list

-- The sample run. "The aim passes once": state 1 meets both promises, and the run stays there for two moments.
abbrev pub sample_corners : List Corner
sample_corners = as_on_the_wall (record { sheet = twice; claim = can_be_kept 2 (0 ∷ 1 ∷ 1 ∷ []) 1 3 }) ∷ []

-- The reader, the two sides of each bound and of each order.
abbrev pub reader_corners : List Corner
reader_corners =
    -- "below 8 or above 4,096 bytes"; within, the version is asked next, before the stated length
    reads (replicate 7 0) 1 ∷ reads (replicate 8 0) 2 ∷ reads (replicate 4096 0) 2 ∷ reads (replicate 4097 0) 1
    -- the stated length, before the letters
    ∷ reads (0x01 ∷ 0x08 ∷ 0x00 ∷ 0x00 ∷ 0x00 ∷ 0x00 ∷ 0x00 ∷ 0x00 ∷ []) 3
    -- "n not 1 to 24", before the counts
    ∷ reads (bare 0 33 0) 4 ∷ reads (bare 1 0 0) 0 ∷ reads (bare 24 0 0) 0 ∷ reads (bare 25 0 17) 4
    -- "over 32 limits or 16 promises", before the records
    ∷ reads (bare 1 32 0) 6 ∷ reads (bare 1 33 0) 5 ∷ reads (bare 1 0 16) 6 ∷ reads (bare 1 0 17) 5
    -- a step rule's count a: all of its literals, or one more than it has
    ∷ reads (step_rule (1 ∷ 1 ∷ [])) 0 ∷ reads (step_rule (2 ∷ 1 ∷ [])) 7 ∷ reads (step_rule []) 7
    -- "zero or size above n"; -128
    ∷ reads (first_rule 24 (0xE8 ∷ 0x18 ∷ []) []) 0 ∷ reads (first_rule 24 (0x19 ∷ []) []) 8 ∷ reads (first_rule 24 (0xE7 ∷ []) []) 8
    ∷ reads (first_rule 24 (0x80 ∷ []) []) 8
    -- "each literal 8 before 9", one literal after the other
    ∷ reads (first_rule 1 (0x01 ∷ 0x00 ∷ []) []) 8 ∷ reads (first_rule 1 (0x01 ∷ 0x01 ∷ 0x00 ∷ []) []) 9
    -- "bytes after the last record", "10 last"
    ∷ reads (first_rule 1 (0x01 ∷ []) (0x00 ∷ [])) 10 ∷ reads (first_rule 1 (0x01 ∷ 0x01 ∷ []) (0x00 ∷ [])) 9
    ∷ []

-- The run checker: a paper refused for each condition, beside one that is accepted.
abbrev pub run_corners : List Corner
run_corners =
    run stays (0 ∷ 1 ∷ []) 1 0
    -- "b is at least 1, a is below b"
    ∷ run stays [] 0 14 ∷ run stays (0 ∷ []) 1 14
    -- "state 0 is a first state"
    ∷ run stays (1 ∷ []) 0 14
    -- "each state moves to the following one"
    ∷ run stays (0 ∷ 1 ∷ 0 ∷ []) 2 14
    -- "the last moves to state a"
    ∷ run stays (0 ∷ 1 ∷ []) 0 14
    -- "each promise is true in some state from a to b-1": at a alone, and before a alone
    ∷ run w2 (0 ∷ 1 ∷ []) 1 0 ∷ run w2 (1 ∷ 0 ∷ []) 0 0 ∷ run w2 (1 ∷ 0 ∷ []) 1 14
    -- "a number of 2^n or more is not a lawful state"
    ∷ run w1 (1 ∷ []) 0 0 ∷ run w1 (2 ∷ []) 0 14
    -- "a checker's 1 to 10 before 14"
    ∷ run (bare 25 0 0) [] 0 4
    ∷ []

-- The strike-list checker: likewise.
abbrev pub strike_corners : List Corner
strike_corners =
    strikes w4 (0 ∷ 1 ∷ []) (33 ∷ 64 ∷ []) 0
    -- "a state may be listed twice"
    ∷ strikes w4 (0 ∷ 0 ∷ 1 ∷ []) (33 ∷ 33 ∷ 64 ∷ []) 0
    -- "as many words as states"
    ∷ strikes w4 (0 ∷ 1 ∷ []) (33 ∷ 64 ∷ 64 ∷ []) 14
    -- "the words never fall"
    ∷ strikes w4 (1 ∷ 0 ∷ []) (64 ∷ 33 ∷ []) 14
    -- "each state is lawful"
    ∷ strikes w4 (0 ∷ 1 ∷ 2 ∷ []) (33 ∷ 64 ∷ 64 ∷ []) 14
    -- "each word's remainder by 32 is at most p"
    ∷ strikes w4 (0 ∷ 1 ∷ []) (34 ∷ 64 ∷ []) 14
    -- "every first state is listed"
    ∷ strikes w4 (0 ∷ []) (33 ∷ []) 14
    -- "reason 0, every next state is listed with a smaller word": with the same, and not at all
    ∷ strikes w4 (0 ∷ 1 ∷ []) (32 ∷ 64 ∷ []) 14 ∷ strikes w4 (1 ∷ []) (32 ∷ []) 14
    -- "reason i, promise i's literal is false there"
    ∷ strikes w4 (0 ∷ 1 ∷ []) (33 ∷ 33 ∷ []) 14
    -- "and every next state is listed with the same or a smaller word": with a greater
    ∷ strikes dead_end (1 ∷ 0 ∷ []) (32 ∷ 33 ∷ []) 0 ∷ strikes dead_end (0 ∷ 1 ∷ []) (33 ∷ 64 ∷ []) 14
    -- "a checker's 1 to 10 before 14"
    ∷ strikes (bare 25 0 0) [] [] 4
    ∷ []

-- Both on bytes: "four bytes, big-endian, and a length that isn't a multiple of four gets 14". The words 289 and 512 take two bytes each.
abbrev pub byte_corners : List Corner
byte_corners =
    run_bytes w2 (0 ∷ 0 ∷ 0 ∷ 0 ∷ 0 ∷ 0 ∷ 0 ∷ 1 ∷ []) 1 0
    ∷ run_bytes w2 (0 ∷ 0 ∷ 0 ∷ 0 ∷ 1 ∷ 0 ∷ 0 ∷ 0 ∷ []) 1 14
    ∷ run_bytes w2 (0 ∷ 0 ∷ 0 ∷ 0 ∷ 0 ∷ 0 ∷ 0 ∷ 1 ∷ 0 ∷ []) 1 14
    ∷ strikes_bytes w4 (0 ∷ 0 ∷ 0 ∷ 0 ∷ 0 ∷ 0 ∷ 0 ∷ 1 ∷ []) (0 ∷ 0 ∷ 1 ∷ 33 ∷ 0 ∷ 0 ∷ 2 ∷ 0 ∷ []) 0
    ∷ strikes_bytes w4 (0 ∷ 0 ∷ 0 ∷ 0 ∷ 0 ∷ 0 ∷ 0 ∷ 1 ∷ []) (33 ∷ 1 ∷ 0 ∷ 0 ∷ 0 ∷ 2 ∷ 0 ∷ 0 ∷ []) 14
    ∷ strikes_bytes w4 (0 ∷ 0 ∷ 0 ∷ 0 ∷ 0 ∷ 0 ∷ 0 ∷ 1 ∷ 0 ∷ []) (0 ∷ 0 ∷ 1 ∷ 33 ∷ 0 ∷ 0 ∷ 2 ∷ 0 ∷ []) 14
    ∷ strikes_bytes w4 (0 ∷ 0 ∷ 0 ∷ 0 ∷ 0 ∷ 0 ∷ 0 ∷ 1 ∷ []) (0 ∷ 0 ∷ 1 ∷ 33 ∷ 0 ∷ 0 ∷ 2 ∷ 0 ∷ 0 ∷ []) 14
    ∷ []

abbrev pub corners : List Corner
corners = sample_corners ++ (reader_corners ++ (run_corners ++ (strike_corners ++ byte_corners)))
