-- The workshop wall's fourteen starred examples, W1 to W14, as one list: a sheet's bytes, and what is claimed of their meaning.
-- Document 01, "Examples from the workshop wall". Proved in proofs/Walled.antt. Assumes nothing.
use Rattle.std.specs.Prelude.{◌≡◌, List, [], ◌∷◌, ℕ, ◌*◌, length}
use Rattle.std.proofs.Math.Option.{none}
use Rattle.meaning.specs.System.{System, CanBeKept, Lists, IsR, IsK}
use Rattle.meaning.specs.Strike.{StrikeList}
use Rattle.meaning.specs.Sample.{RunPaper}
use Rattle.meaning.specs.Sheet.{first_fault}
use Rattle.meaning.specs.Promises.{system_in}

-- what the wall claims of a sheet
pub data Claim : Type 0 where
  lawful_are : List ℕ → Claim
  firsts_are : List ℕ → Claim
  can_be_kept : (K : ℕ) (run : List ℕ) (a b : ℕ) → Claim
  -- the same, and "the limit K x p is reached"
  can_be_kept_at_limit : (K : ℕ) (run : List ℕ) (a b : ℕ) → Claim
  cannot_be_kept : (R : ℕ) (states words : List ℕ) → Claim

abbrev pub Claimed : System → Claim → Type 0
Claimed S (lawful_are l) = Lists S.Lawful l
Claimed S (firsts_are l) = Lists S.First l
Claimed S (can_be_kept K run a b) = CanBeKept S × IsK S K × RunPaper S run a × (length run ≡ b)
Claimed S (can_be_kept_at_limit K run a b) = CanBeKept S × IsK S K × RunPaper S run a × (length run ≡ b) × (b ≡ K * S.promises)
Claimed S (cannot_be_kept R states words) = (CanBeKept S → ⊥) × IsR S R × StrikeList S states words

pub record Example : Type 0 where
  pub sheet : List ℕ
  pub claim : Claim

-- an example holds: its sheet is good, and what is claimed of its system is so
abbrev pub Holds : Example → Type 0
Holds e = (first_fault e.sheet ≡ none) × Claimed (system_in e.sheet) e.claim

abbrev pub AllHold : List Example → Type 0
AllHold [] = Unit {0}
AllHold (e ∷ es) = Holds e × AllHold es

-- W1 n=1, nothing else
abbrev pub w1 : List ℕ
w1 = 0x01 ∷ 0x00 ∷ 0x08 ∷ 0x01 ∷ 0x00 ∷ 0x00 ∷ 0x00 ∷ 0x00 ∷ []

-- W2 n=1, promise 1
abbrev pub w2 : List ℕ
w2 = 0x01 ∷ 0x00 ∷ 0x0A ∷ 0x01 ∷ 0x00 ∷ 0x00 ∷ 0x00 ∷ 0x01 ∷ 0x01 ∷ 0x01 ∷ []

-- W3 n=1, promises 1 and -1
abbrev pub w3 : List ℕ
w3 = 0x01 ∷ 0x00 ∷ 0x0C ∷ 0x01 ∷ 0x00 ∷ 0x00 ∷ 0x00 ∷ 0x02 ∷ 0x01 ∷ 0x01 ∷ 0x01 ∷ 0xFF ∷ []

-- W4 n=1, first 1, steps 1 to -1 and -1 to -1, promise 1
abbrev pub w4 : List ℕ
w4 = 0x01 ∷ 0x00 ∷ 0x14 ∷ 0x01 ∷ 0x00 ∷ 0x01 ∷ 0x02 ∷ 0x01
    ∷ 0x01 ∷ 0x01 ∷ 0x03 ∷ 0x01 ∷ 0x01 ∷ 0xFF ∷ 0x03 ∷ 0x01 ∷ 0xFF ∷ 0xFF ∷ 0x01 ∷ 0x01 ∷ []

-- W5 n=1, one step rule with both sides empty
abbrev pub w5 : List ℕ
w5 = 0x01 ∷ 0x00 ∷ 0x0A ∷ 0x01 ∷ 0x00 ∷ 0x00 ∷ 0x01 ∷ 0x00 ∷ 0x01 ∷ 0x00 ∷ []

-- W6 n=1, exactly 2 of {1}
abbrev pub w6 : List ℕ
w6 = 0x01 ∷ 0x00 ∷ 0x0C ∷ 0x01 ∷ 0x01 ∷ 0x00 ∷ 0x00 ∷ 0x00 ∷ 0x03 ∷ 0x00 ∷ 0x02 ∷ 0x01 ∷ []

-- W7 n=2, exactly 1 of {1,2}; W8 n=2, at most 1 of {1,2}; W9 n=2, at most 1 of {-2,-1}
abbrev pub w7 : List ℕ
w7 = 0x01 ∷ 0x00 ∷ 0x0D ∷ 0x02 ∷ 0x01 ∷ 0x00 ∷ 0x00 ∷ 0x00 ∷ 0x04 ∷ 0x00 ∷ 0x01 ∷ 0x01 ∷ 0x02 ∷ []

abbrev pub w8 : List ℕ
w8 = 0x01 ∷ 0x00 ∷ 0x0D ∷ 0x02 ∷ 0x01 ∷ 0x00 ∷ 0x00 ∷ 0x00 ∷ 0x04 ∷ 0x01 ∷ 0x01 ∷ 0x01 ∷ 0x02 ∷ []

abbrev pub w9 : List ℕ
w9 = 0x01 ∷ 0x00 ∷ 0x0D ∷ 0x02 ∷ 0x01 ∷ 0x00 ∷ 0x00 ∷ 0x00 ∷ 0x04 ∷ 0x01 ∷ 0x01 ∷ 0xFE ∷ 0xFF ∷ []

-- W10 n=2, exactly 1 of {-1,1}; W11 n=2, exactly 0 of it; W12 n=2, exactly 0 of the empty list
abbrev pub w10 : List ℕ
w10 = 0x01 ∷ 0x00 ∷ 0x0D ∷ 0x02 ∷ 0x01 ∷ 0x00 ∷ 0x00 ∷ 0x00 ∷ 0x04 ∷ 0x00 ∷ 0x01 ∷ 0xFF ∷ 0x01 ∷ []

abbrev pub w11 : List ℕ
w11 = 0x01 ∷ 0x00 ∷ 0x0D ∷ 0x02 ∷ 0x01 ∷ 0x00 ∷ 0x00 ∷ 0x00 ∷ 0x04 ∷ 0x00 ∷ 0x00 ∷ 0xFF ∷ 0x01 ∷ []

abbrev pub w12 : List ℕ
w12 = 0x01 ∷ 0x00 ∷ 0x0B ∷ 0x02 ∷ 0x01 ∷ 0x00 ∷ 0x00 ∷ 0x00 ∷ 0x02 ∷ 0x00 ∷ 0x00 ∷ []

-- W13 n=4, exactly 1 of all four, first rule 1 or 2
abbrev pub w13 : List ℕ
w13 = 0x01 ∷ 0x00 ∷ 0x12 ∷ 0x04 ∷ 0x01 ∷ 0x01 ∷ 0x00 ∷ 0x00
    ∷ 0x06 ∷ 0x00 ∷ 0x01 ∷ 0x01 ∷ 0x02 ∷ 0x03 ∷ 0x04 ∷ 0x02 ∷ 0x01 ∷ 0x02 ∷ []

-- W14 n=4, exactly 1 of {1,2}, exactly 2 of {2,3,4}, first rule 1 or 2
abbrev pub w14 : List ℕ
w14 = 0x01 ∷ 0x00 ∷ 0x16 ∷ 0x04 ∷ 0x02 ∷ 0x01 ∷ 0x00 ∷ 0x00
    ∷ 0x04 ∷ 0x00 ∷ 0x01 ∷ 0x01 ∷ 0x02 ∷ 0x05 ∷ 0x00 ∷ 0x02 ∷ 0x02 ∷ 0x03 ∷ 0x04 ∷ 0x02 ∷ 0x01 ∷ 0x02 ∷ []

abbrev pub wall : List Example
wall =
    record { sheet = w1; claim = can_be_kept 2 (0 ∷ []) 0 1 }
    ∷ record { sheet = w2; claim = can_be_kept_at_limit 2 (0 ∷ 1 ∷ []) 1 2 }
    ∷ record { sheet = w3; claim = can_be_kept 2 (0 ∷ 1 ∷ 0 ∷ []) 1 3 }
    ∷ record { sheet = w4; claim = cannot_be_kept 2 (0 ∷ 1 ∷ []) (33 ∷ 64 ∷ []) }
    ∷ record { sheet = w5; claim = cannot_be_kept 2 (0 ∷ 1 ∷ []) (32 ∷ 32 ∷ []) }
    ∷ record { sheet = w6; claim = cannot_be_kept 0 [] [] }
    ∷ record { sheet = w7; claim = lawful_are (1 ∷ 2 ∷ []) }
    ∷ record { sheet = w8; claim = lawful_are (0 ∷ 1 ∷ 2 ∷ []) }
    ∷ record { sheet = w9; claim = lawful_are (1 ∷ 2 ∷ 3 ∷ []) }
    ∷ record { sheet = w10; claim = lawful_are (0 ∷ 1 ∷ 2 ∷ 3 ∷ []) }
    ∷ record { sheet = w11; claim = lawful_are [] }
    ∷ record { sheet = w12; claim = lawful_are (0 ∷ 1 ∷ 2 ∷ 3 ∷ []) }
    ∷ record { sheet = w13; claim = firsts_are (1 ∷ 2 ∷ []) }
    ∷ record { sheet = w14; claim = firsts_are (6 ∷ 10 ∷ 13 ∷ []) }
    ∷ []
