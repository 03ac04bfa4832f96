-- Order 6 by example, "Sheets over the serial lead": a lead's two numbers (how many bytes have come, and whether it is closed), its buffer
-- of 4,096 bytes, a piece, and what is answered and left. A buffer holds sevens where nothing has come. Every number is written out and
-- none is a name of the definitions. Proved in proofs/Led.antt. Assumes nothing.
use Rattle.std.specs.Prelude.{List, [], ◌∷◌, ℕ, replicate}
use Rattle.serial.specs.Serial.{TakesState, ClosesState}

-- the buffer with a good sheet of one letter and nothing else; with its first three bytes; with a sheet of no letters
abbrev pub whole : List ℕ
whole = 0x01 ∷ 0x00 ∷ 0x08 ∷ 0x01 ∷ 0x00 ∷ 0x00 ∷ 0x00 ∷ 0x00 ∷ replicate 4088 7

abbrev pub begun : List ℕ
begun = 0x01 ∷ 0x00 ∷ 0x08 ∷ replicate 4093 7

abbrev pub letterless : List ℕ
letterless = 0x01 ∷ 0x00 ∷ 0x08 ∷ 0x00 ∷ 0x00 ∷ 0x00 ∷ 0x00 ∷ 0x00 ∷ replicate 4088 7

pub record Leads : Type 0 where
  -- "The lead delivers a sheet a few bytes at a time. Take pieces, some perhaps empty": three bytes, none, and the other five
  pub first_piece : TakesState (0 ∷ 0 ∷ []) (replicate 4096 7) (0x01 ∷ 0x00 ∷ 0x08 ∷ []) 0 (3 ∷ 0 ∷ []) begun
  pub empty_piece : TakesState (3 ∷ 0 ∷ []) begun [] 0 (3 ∷ 0 ∷ []) begun
  pub last_piece : TakesState (3 ∷ 0 ∷ []) begun (0x01 ∷ 0x00 ∷ 0x00 ∷ 0x00 ∷ 0x00 ∷ []) 0 (8 ∷ 0 ∷ []) whole
  -- "and answer at closing just as the reader answers for the joined bytes, place included": good; three bytes of it; no bytes; no letters
  pub closing : ClosesState (8 ∷ 0 ∷ []) whole (0 ∷ 0 ∷ []) (8 ∷ 1 ∷ [])
  pub closing_early : ClosesState (3 ∷ 0 ∷ []) whole (1 ∷ 0 ∷ []) (3 ∷ 1 ∷ [])
  pub closing_at_once : ClosesState (0 ∷ 0 ∷ []) whole (1 ∷ 0 ∷ []) (0 ∷ 1 ∷ [])
  pub closing_a_bad_sheet : ClosesState (8 ∷ 0 ∷ []) letterless (4 ∷ 3 ∷ []) (8 ∷ 1 ∷ [])
  -- "Over 4,096 bytes the answer at closing is 1": with 4,096 ones the stated length differs
  pub most_bytes : TakesState (0 ∷ 0 ∷ []) (replicate 4096 7) (replicate 4096 1) 0 (4096 ∷ 0 ∷ []) (replicate 4096 1)
  pub closing_most_bytes : ClosesState (4096 ∷ 0 ∷ []) (replicate 4096 1) (3 ∷ 1 ∷ []) (4096 ∷ 1 ∷ [])
  pub one_byte_over : TakesState (0 ∷ 0 ∷ []) (replicate 4096 7) (replicate 4097 1) 0 (4097 ∷ 0 ∷ []) (replicate 4096 1)
  pub one_byte_later : TakesState (4096 ∷ 0 ∷ []) (replicate 4096 1) (9 ∷ []) 0 (4097 ∷ 0 ∷ []) (replicate 4096 1)
  pub no_more_counted : TakesState (4097 ∷ 0 ∷ []) (replicate 4096 1) (9 ∷ []) 0 (4097 ∷ 0 ∷ []) (replicate 4096 1)
  pub closing_over : ClosesState (4097 ∷ 0 ∷ []) (replicate 4096 1) (1 ∷ 0 ∷ []) (4097 ∷ 1 ∷ [])
  -- "A piece or a second closing after closing is refused with 18, whatever the sheet, and changes nothing": a good one, a bad one
  pub late_piece : TakesState (8 ∷ 1 ∷ []) whole (9 ∷ []) 18 (8 ∷ 1 ∷ []) whole
  pub late_empty_piece : TakesState (8 ∷ 1 ∷ []) whole [] 18 (8 ∷ 1 ∷ []) whole
  pub second_closing : ClosesState (8 ∷ 1 ∷ []) whole (18 ∷ 0 ∷ []) (8 ∷ 1 ∷ [])
  pub second_closing_bad : ClosesState (8 ∷ 1 ∷ []) letterless (18 ∷ 0 ∷ []) (8 ∷ 1 ∷ [])
  pub second_closing_over : ClosesState (4097 ∷ 1 ∷ []) (replicate 4096 1) (18 ∷ 0 ∷ []) (4097 ∷ 1 ∷ [])
