-- What the way along stored moves ensures where these may not be stored. Assumes nothing.
use Rattle.std.specs.Prelude.{◌≡◌, List, ℕ, Option, Some, None}
use Rattle.rounds.specs.Phases.{Stricken}

-- what striking along stored moves ensures: the same; or the moves were not stored, and the words are still 0
abbrev pub StrickenIfStored : (book table : List ℕ) (r : ℕ) (old words : List ℕ) → Option ℕ → Type 0
StrickenIfStored book table r old words (Some left) = Stricken book table r old words left
StrickenIfStored book table r old words None = words ≡ old
