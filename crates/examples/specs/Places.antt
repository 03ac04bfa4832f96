-- Order 1 by example, "Tell the student which byte": a sheet's bytes, the reader's number and its place. Every number is written out and
-- none is a name of the definitions, so that a definition with another number makes an example false. Proved in proofs/Placed.antt.
-- Assumes nothing.
use Rattle.std.specs.Prelude.{List, [], ◌∷◌, ℕ, replicate}
use Rattle.meaning.specs.Promises.{ReadPlaced, RunPlaced, StrikesPlaced, Lent, Judged}

-- four slices, no two alike
abbrev pub slices : Lent
slices = record { table = 5 ∷ []; words = 6 ∷ 6 ∷ []; scratch = 7 ∷ 7 ∷ 7 ∷ []; run = 8 ∷ [] }

-- n=1, one first rule that names letter 2, which is not there
abbrev pub strange_letter : List ℕ
strange_letter = 0x01 ∷ 0x00 ∷ 0x0A ∷ 0x01 ∷ 0x00 ∷ 0x01 ∷ 0x00 ∷ 0x00 ∷ 0x01 ∷ 0x02 ∷ []

pub record Places : Type 0 where
  -- "0 for 1": below 8 bytes, above 4,096
  pub too_short : ReadPlaced (replicate 7 1) 1 0
  pub too_long : ReadPlaced (replicate 4097 1) 1 0
  -- "the header byte for 2 to 5": the version's
  pub version : ReadPlaced (0x02 ∷ 0x00 ∷ 0x08 ∷ 0x01 ∷ 0x00 ∷ 0x00 ∷ 0x00 ∷ 0x00 ∷ []) 2 0
  -- "byte 1 for 3", where the high byte differs and where only the low byte does
  pub stated-high : ReadPlaced (0x01 ∷ 0x01 ∷ 0x08 ∷ 0x01 ∷ 0x00 ∷ 0x00 ∷ 0x00 ∷ 0x00 ∷ []) 3 1
  pub stated-low : ReadPlaced (0x01 ∷ 0x00 ∷ 0x09 ∷ 0x01 ∷ 0x00 ∷ 0x00 ∷ 0x00 ∷ 0x00 ∷ []) 3 1
  -- the letters', n = 0 and n = 25
  pub no_letters : ReadPlaced (0x01 ∷ 0x00 ∷ 0x08 ∷ 0x00 ∷ 0x00 ∷ 0x00 ∷ 0x00 ∷ 0x00 ∷ []) 4 3
  pub many_letters : ReadPlaced (0x01 ∷ 0x00 ∷ 0x08 ∷ 0x19 ∷ 0x00 ∷ 0x00 ∷ 0x00 ∷ 0x00 ∷ []) 4 3
  -- "the limit count before the promise count for 5": 33 limits, 17 promises, both
  pub many_limits : ReadPlaced (0x01 ∷ 0x00 ∷ 0x08 ∷ 0x01 ∷ 0x21 ∷ 0x00 ∷ 0x00 ∷ 0x00 ∷ []) 5 4
  pub many_promises : ReadPlaced (0x01 ∷ 0x00 ∷ 0x08 ∷ 0x01 ∷ 0x00 ∷ 0x00 ∷ 0x00 ∷ 0x11 ∷ []) 5 7
  pub many_of_both : ReadPlaced (0x01 ∷ 0x00 ∷ 0x08 ∷ 0x01 ∷ 0x21 ∷ 0x00 ∷ 0x00 ∷ 0x11 ∷ []) 5 4
  -- "the record's length byte for 6 and 7": the second of two first rules passes the end
  pub past_the_end : ReadPlaced (0x01 ∷ 0x00 ∷ 0x0C ∷ 0x01 ∷ 0x00 ∷ 0x02 ∷ 0x00 ∷ 0x00 ∷ 0x01 ∷ 0x01 ∷ 0x02 ∷ 0x01 ∷ []) 6 10
  -- "(the sheet's length if that byte is missing)"
  pub missing : ReadPlaced (0x01 ∷ 0x00 ∷ 0x0A ∷ 0x01 ∷ 0x00 ∷ 0x02 ∷ 0x00 ∷ 0x00 ∷ 0x01 ∷ 0x01 ∷ []) 6 10
  -- behind a first rule: a step rule whose left side is too large, an empty one, a promise of two bytes; and a limit of kind 2
  pub left_too_large : ReadPlaced (0x01 ∷ 0x00 ∷ 0x0D ∷ 0x01 ∷ 0x00 ∷ 0x01 ∷ 0x01 ∷ 0x00 ∷ 0x01 ∷ 0x01 ∷ 0x02 ∷ 0x02 ∷ 0x01 ∷ []) 7 10
  pub empty_step : ReadPlaced (0x01 ∷ 0x00 ∷ 0x0B ∷ 0x01 ∷ 0x00 ∷ 0x01 ∷ 0x01 ∷ 0x00 ∷ 0x01 ∷ 0x01 ∷ 0x00 ∷ []) 7 10
  pub long_promise : ReadPlaced (0x01 ∷ 0x00 ∷ 0x0D ∷ 0x01 ∷ 0x00 ∷ 0x01 ∷ 0x00 ∷ 0x01 ∷ 0x01 ∷ 0x01 ∷ 0x02 ∷ 0x01 ∷ 0x01 ∷ []) 7 10
  pub strange_kind : ReadPlaced (0x01 ∷ 0x00 ∷ 0x0C ∷ 0x01 ∷ 0x01 ∷ 0x00 ∷ 0x00 ∷ 0x00 ∷ 0x03 ∷ 0x02 ∷ 0x01 ∷ 0x01 ∷ []) 7 8
  -- "the literal's byte for 8 and 9": of a first rule, of a limit, of a step rule's right side
  pub strange_first : ReadPlaced strange_letter 8 9
  pub strange_limited : ReadPlaced (0x01 ∷ 0x00 ∷ 0x0D ∷ 0x01 ∷ 0x01 ∷ 0x00 ∷ 0x00 ∷ 0x00 ∷ 0x04 ∷ 0x00 ∷ 0x01 ∷ 0x01 ∷ 0x02 ∷ []) 8 12
  pub strange_right : ReadPlaced (0x01 ∷ 0x00 ∷ 0x0C ∷ 0x01 ∷ 0x00 ∷ 0x00 ∷ 0x01 ∷ 0x00 ∷ 0x03 ∷ 0x01 ∷ 0x01 ∷ 0x00 ∷ []) 8 11
  pub not_ascending : ReadPlaced (0x01 ∷ 0x00 ∷ 0x0B ∷ 0x01 ∷ 0x00 ∷ 0x01 ∷ 0x00 ∷ 0x00 ∷ 0x02 ∷ 0x01 ∷ 0x01 ∷ []) 9 10
  -- "A step rule's two sides are two lists" (document 01): 1 before 1, each in its own; within the right side 1 before -1
  pub two_lists : ReadPlaced (0x01 ∷ 0x00 ∷ 0x0C ∷ 0x01 ∷ 0x00 ∷ 0x00 ∷ 0x01 ∷ 0x00 ∷ 0x03 ∷ 0x01 ∷ 0x01 ∷ 0x01 ∷ []) 0 0
  pub falling_right :
      ReadPlaced (0x01 ∷ 0x00 ∷ 0x0D ∷ 0x01 ∷ 0x00 ∷ 0x00 ∷ 0x01 ∷ 0x00 ∷ 0x04 ∷ 0x01 ∷ 0x01 ∷ 0x01 ∷ 0xFF ∷ []) 9 12
  -- "the first surplus byte for 10", of two
  pub surplus : ReadPlaced (0x01 ∷ 0x00 ∷ 0x0C ∷ 0x01 ∷ 0x00 ∷ 0x01 ∷ 0x00 ∷ 0x00 ∷ 0x01 ∷ 0x01 ∷ 0x00 ∷ 0x00 ∷ []) 10 10
  -- "from the reader, the judge and both checkers": the same number and place from each; the judge changes nothing
  pub judge-passes-on :
      Judged strange_letter slices (record { answer = 8; count = 0; a = 0; b = 0; place = 9; leaves = slices })
  pub run_check_passes_on : RunPlaced strange_letter (0 ∷ []) 0 8 9
  pub strike_check_passes_on : StrikesPlaced strange_letter [] [] 8 9
  -- "0 on other answers": a good sheet of one letter and nothing else, and a run of no states, refused with 14
  pub good : ReadPlaced (0x01 ∷ 0x00 ∷ 0x08 ∷ 0x01 ∷ 0x00 ∷ 0x00 ∷ 0x00 ∷ 0x00 ∷ []) 0 0
  pub no_place_on_14 : RunPlaced (0x01 ∷ 0x00 ∷ 0x08 ∷ 0x01 ∷ 0x00 ∷ 0x00 ∷ 0x00 ∷ 0x00 ∷ []) [] 0 14 0
