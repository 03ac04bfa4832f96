-- Order 4 by example, "The whole class in one call": joined sheets' bytes, the place where each ends, the desk before (the four lent slices
-- and the slice for the numbers), the number answered, and the desk after. Every number is written out and none is a name of the
-- definitions. Proved in proofs/Classed.antt. Assumes nothing.
use Rattle.std.specs.Prelude.{List, [], ◌∷◌, ◌++◌, ℕ, zero, suc, replicate}
use Rattle.class_ends.specs.Class.{Desk, ClassJudged}

-- ---- sheets

-- n=1, promise 1: can be kept, both states livable, run 0, 1, a = 1, b = 2
abbrev pub kept : List ℕ
kept = 0x01 ∷ 0x00 ∷ 0x0A ∷ 0x01 ∷ 0x00 ∷ 0x00 ∷ 0x00 ∷ 0x01 ∷ 0x01 ∷ 0x01 ∷ []

-- n=1, one step rule with both sides empty: cannot be kept, both states struck with word 32
abbrev pub stuck : List ℕ
stuck = 0x01 ∷ 0x00 ∷ 0x0A ∷ 0x01 ∷ 0x00 ∷ 0x00 ∷ 0x01 ∷ 0x00 ∷ 0x01 ∷ 0x00 ∷ []

-- no letters: a bad sheet, answered 4
abbrev pub letterless : List ℕ
letterless = 0x01 ∷ 0x00 ∷ 0x08 ∷ 0x00 ∷ 0x00 ∷ 0x00 ∷ 0x00 ∷ 0x00 ∷ []

-- ---- desks

-- four slices of sevens, and these places for the numbers
abbrev pub desk : List ℕ → Desk
desk numbers = record {
  lent = record { table = 7 ∷ 7 ∷ []; words = 7 ∷ 7 ∷ []; scratch = 7 ∷ 7 ∷ 7 ∷ 7 ∷ []; run = 7 ∷ 7 ∷ [] };
  numbers = numbers;
}

-- as `kept` leaves it
abbrev pub after_kept : List ℕ → Desk
after_kept numbers = record {
  lent = record { table = 0 ∷ 1 ∷ []; words = 0 ∷ 0 ∷ []; scratch = 0 ∷ 0 ∷ 0 ∷ 0 ∷ []; run = 0 ∷ 1 ∷ [] };
  numbers = numbers;
}

-- as `stuck` leaves it, with what stood in the run slice
abbrev pub after_stuck : (run numbers : List ℕ) → Desk
after_stuck run numbers = record {
  lent = record { table = 0 ∷ 1 ∷ []; words = 32 ∷ 32 ∷ []; scratch = 0 ∷ 0 ∷ 0 ∷ 0 ∷ []; run = run };
  numbers = numbers;
}

-- l so many times
abbrev pub times : ℕ → List ℕ → List ℕ
times zero l = []
times (suc n) l = l ++ times n l

-- ---- the list

pub record Classes : Type 0 where
  -- "No ends and no input: 0 sheets judged, nothing changed; no ends with some input: 16"
  pub nobody : ClassJudged [] [] (desk (5 ∷ [])) 0 (desk (5 ∷ []))
  pub no_ends : ClassJudged letterless [] (desk (5 ∷ [])) 16 (desk (5 ∷ []))
  -- "The numbers .. are those of calling the judge on each sheet in turn": one sheet; what stands behind its four numbers stays
  pub one : ClassJudged kept (10 ∷ []) (desk (5 ∷ 5 ∷ 5 ∷ 5 ∷ 5 ∷ [])) 0 (after_kept (0 ∷ 2 ∷ 1 ∷ 2 ∷ 5 ∷ []))
  -- "and the four lent slices at the end": the second sheet is bad and changes nothing, so the first one's run still stands
  pub second_bad : ClassJudged (kept ++ letterless) (10 ∷ 18 ∷ []) (desk (replicate 9 5)) 0
      (after_kept (0 ∷ 2 ∷ 1 ∷ 2 ∷ 4 ∷ 0 ∷ 0 ∷ 0 ∷ 5 ∷ []))
  pub first_bad : ClassJudged (letterless ++ kept) (8 ∷ 18 ∷ []) (desk (replicate 9 5)) 0
      (after_kept (4 ∷ 0 ∷ 0 ∷ 0 ∷ 0 ∷ 2 ∷ 1 ∷ 2 ∷ 5 ∷ []))
  -- "with the same slices": the second cannot be kept, which leaves the run slice as the first left it
  pub second_stuck : ClassJudged (kept ++ stuck) (10 ∷ 20 ∷ []) (desk (replicate 8 5)) 0
      (after_stuck (0 ∷ 1 ∷ []) (0 ∷ 2 ∷ 1 ∷ 2 ∷ 13 ∷ 2 ∷ 0 ∷ 0 ∷ []))
  pub first_stuck : ClassJudged (stuck ++ kept) (10 ∷ 20 ∷ []) (desk (replicate 8 5)) 0
      (after_kept (13 ∷ 2 ∷ 0 ∷ 0 ∷ 0 ∷ 2 ∷ 1 ∷ 2 ∷ []))
  -- equal ends: the sheet between them is empty, and answered 1
  pub equal_ends : ClassJudged kept (0 ∷ 10 ∷ 10 ∷ []) (desk (replicate 12 5)) 0
      (after_kept (1 ∷ 0 ∷ 0 ∷ 0 ∷ 0 ∷ 2 ∷ 1 ∷ 2 ∷ 1 ∷ 0 ∷ 0 ∷ 0 ∷ []))
  -- "Ends that fall or pass the input, a last end that isn't the input's length .. 16 before any sheet, nothing changed"
  pub falling : ClassJudged (letterless ++ letterless) (8 ∷ 4 ∷ 16 ∷ []) (desk (replicate 12 5)) 16 (desk (replicate 12 5))
  pub passing : ClassJudged letterless (9 ∷ []) (desk (replicate 4 5)) 16 (desk (replicate 4 5))
  pub unfinished : ClassJudged letterless (7 ∷ []) (desk (replicate 4 5)) 16 (desk (replicate 4 5))
  -- "or too short a slice for the numbers": three places for one sheet, seven for two
  pub short_by_one : ClassJudged letterless (8 ∷ []) (desk (replicate 3 5)) 16 (desk (replicate 3 5))
  pub short_for_two : ClassJudged (letterless ++ letterless) (8 ∷ 16 ∷ []) (desk (replicate 7 5)) 16 (desk (replicate 7 5))
  -- "over 32 sheets": 33 and 32 empty ones
  pub thirty_three : ClassJudged [] (replicate 33 0) (desk (replicate 132 5)) 16 (desk (replicate 132 5))
  pub thirty_two : ClassJudged [] (replicate 32 0) (desk (replicate 132 5)) 0
      (desk (times 32 (1 ∷ 0 ∷ 0 ∷ 0 ∷ []) ++ replicate 4 5))
