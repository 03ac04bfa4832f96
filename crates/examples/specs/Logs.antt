-- Order 2 by example, "Audit a year's log": a sheet's bytes, the 515 numbers of an account as C hands them over (count, last state, what
-- the first breach was, its moment, its step rule, then 255 kept and 255 broken tallies), a piece of the log, the number answered and the
-- 515 numbers handed back. Every number is written out and none is a name of the definitions. Proved in proofs/Logged.antt. Assumes
-- nothing.
use Rattle.std.specs.Prelude.{List, [], ◌∷◌, ◌++◌, ℕ, replicate}
use Rattle.meaning.specs.Sheet.{decode}
use Rattle.audit_account.specs.Account.{Account, AccountOf}
use Rattle.audit_account.specs.Carry.{Audited, AuditedOut}

-- ---- sheets

-- n=2, at most 1 of {1,2}, first rule 1, step rules 1 to 2 and 1 to -1
abbrev pub turns : List ℕ
turns = 0x01 ∷ 0x00 ∷ 0x17 ∷ 0x02 ∷ 0x01 ∷ 0x01 ∷ 0x02 ∷ 0x00 ∷ 0x04 ∷ 0x01 ∷ 0x01 ∷ 0x01 ∷ 0x02
    ∷ 0x01 ∷ 0x01 ∷ 0x03 ∷ 0x01 ∷ 0x01 ∷ 0x02 ∷ 0x03 ∷ 0x01 ∷ 0x01 ∷ 0xFF ∷ []

-- n=1, step rules 1 to 1 and 1 to -1: each move from state 1 keeps one of them and breaks the other
abbrev pub torn : List ℕ
torn = 0x01 ∷ 0x00 ∷ 0x10 ∷ 0x01 ∷ 0x00 ∷ 0x00 ∷ 0x02 ∷ 0x00 ∷ 0x03 ∷ 0x01 ∷ 0x01 ∷ 0x01 ∷ 0x03 ∷ 0x01 ∷ 0x01 ∷ 0xFF ∷ []

-- n=1, exactly 1 of {1}, first rule 1: state 0 is unlawful and breaks the first rule
abbrev pub guarded : List ℕ
guarded = 0x01 ∷ 0x00 ∷ 0x0E ∷ 0x01 ∷ 0x01 ∷ 0x01 ∷ 0x00 ∷ 0x00 ∷ 0x03 ∷ 0x00 ∷ 0x01 ∷ 0x01 ∷ 0x01 ∷ 0x01 ∷ []

-- n=1, nothing else; and with no letters, a bad sheet
abbrev pub plain : List ℕ
plain = 0x01 ∷ 0x00 ∷ 0x08 ∷ 0x01 ∷ 0x00 ∷ 0x00 ∷ 0x00 ∷ 0x00 ∷ []

abbrev pub letterless : List ℕ
letterless = 0x01 ∷ 0x00 ∷ 0x08 ∷ 0x00 ∷ 0x00 ∷ 0x00 ∷ 0x00 ∷ 0x00 ∷ []

-- ---- accounts, as 515 numbers

-- five numbers, and the tallies of rules 1 and 2: kept, kept, broken, broken; all others are 0
abbrev pub account : (count last what moment rule k1 k2 b1 b2 : ℕ) → List ℕ
account count last what moment rule k1 k2 b1 b2 =
    count ∷ last ∷ what ∷ moment ∷ rule ∷ k1 ∷ k2 ∷ (replicate 253 0 ++ (b1 ∷ b2 ∷ replicate 253 0))

-- a count and a last state alone; the kept tally of rule 255 alone; its broken one
abbrev pub counting : (count last : ℕ) → List ℕ
counting count last = count ∷ last ∷ replicate 513 0

abbrev pub kept_last : (tally : ℕ) → List ℕ
kept_last tally = replicate 259 0 ++ (tally ∷ replicate 255 0)

abbrev pub broken_last : (tally : ℕ) → List ℕ
broken_last tally = replicate 514 0 ++ (tally ∷ [])

-- an account by name whose count is past the bound
abbrev pub overfull : Account
overfull = record {
  count = 1000001;
  last = 1;
  what = 0;
  moment = 0;
  rule = 0;
  kept = replicate 255 0;
  broken = replicate 255 0;
}

-- ---- the list

pub record Logs : Type 0 where
  -- no breach: 1 to 2 keeps both rules, and state 2 asks neither
  pub clean : AuditedOut turns (replicate 515 0) (1 ∷ 2 ∷ 0 ∷ []) 0 (account 3 0 0 0 0 1 1 0 0)
  -- "Report the first breach: its moment, and whether the state was unlawful" (1)
  pub unlawful : AuditedOut turns (replicate 515 0) (1 ∷ 2 ∷ 3 ∷ []) 0 (account 3 3 1 2 0 1 1 0 0)
  -- "broke a first rule" (2)
  pub broke-first : AuditedOut turns (replicate 515 0) (2 ∷ []) 0 (account 1 2 2 0 0 0 0 0 0)
  -- "or broke a step rule and which (the first in the sheet)" (3): rule 1 of two broken ones; rule 1 alone; rule 2 alone
  pub broke_both_steps : AuditedOut turns (replicate 515 0) (1 ∷ 1 ∷ []) 0 (account 2 1 3 1 1 0 0 1 1)
  pub broke_step_1 : AuditedOut torn (replicate 515 0) (1 ∷ 0 ∷ []) 0 (account 2 0 3 1 1 0 1 1 0)
  pub broke_step_2 : AuditedOut torn (replicate 515 0) (1 ∷ 1 ∷ []) 0 (account 2 1 3 1 2 1 0 0 1)
  -- "in that order": unlawful before a first rule, and before a step rule, which is tallied all the same
  pub unlawful_before_first : AuditedOut guarded (replicate 515 0) (0 ∷ []) 0 (account 1 0 1 0 0 0 0 0 0)
  pub unlawful_before_step : AuditedOut turns (replicate 515 0) (1 ∷ 3 ∷ []) 0 (account 2 3 1 1 0 1 0 0 1)
  -- first rules ask the first state alone: 2 breaks the first rule, and comes at moment 1
  pub first_at_0_only : AuditedOut turns (replicate 515 0) (1 ∷ 2 ∷ []) 0 (account 2 2 0 0 0 1 1 0 0)
  -- the first breach stands, and the tallies go on
  pub first_breach_stands : AuditedOut torn (replicate 515 0) (1 ∷ 1 ∷ 0 ∷ 0 ∷ []) 0 (account 4 0 3 1 2 1 1 1 1)
  -- "A move out of or into an unlawful state is judged on its letters all the same; a number of 2^n or more is a breach and bits above n
  -- are ignored in the tallies": 3 has letter 1
  pub above_the_letters : AuditedOut torn (replicate 515 0) (1 ∷ 3 ∷ 0 ∷ []) 0 (account 3 0 1 1 0 1 1 1 1)
  -- "Cutting the log otherwise must not show": 1, 0 in one piece is `broke_step_1`; here in two, with an empty one between. The move across
  -- the cut is tallied, and its moment is counted from the log's start.
  pub cut_before : AuditedOut torn (replicate 515 0) (1 ∷ []) 0 (account 1 1 0 0 0 0 0 0 0)
  pub cut_between : AuditedOut torn (account 1 1 0 0 0 0 0 0 0) [] 0 (account 1 1 0 0 0 0 0 0 0)
  pub cut-behind : AuditedOut torn (account 1 1 0 0 0 0 0 0 0) (0 ∷ []) 0 (account 2 0 3 1 1 0 1 1 0)
  -- the whole log's account, with no call and no piece
  pub whole_log : AccountOf (decode torn) (1 ∷ 0 ∷ []) (record {
    count = 2;
    last = 0;
    what = 3;
    moment = 1;
    rule = 1;
    kept = 0 ∷ 1 ∷ replicate 253 0;
    broken = 1 ∷ 0 ∷ replicate 253 0;
  })
  -- "At most 1,000,000 moments; a piece that would pass that .. is refused whole with 15"
  pub million : AuditedOut plain (counting 1000000 0) [] 0 (counting 1000000 0)
  pub to_the_million : AuditedOut plain (counting 999999 0) (1 ∷ []) 0 (counting 1000000 1)
  pub past_the_million : AuditedOut plain (counting 1000000 0) (1 ∷ []) 15 (counting 1000000 0)
  pub two_past_the_million : AuditedOut plain (counting 999999 0) (1 ∷ 1 ∷ []) 15 (counting 999999 0)
  -- "or an account whose count or any tally is past it": with an empty piece too
  pub count_past : AuditedOut plain (counting 1000001 0) [] 15 (counting 1000001 0)
  pub kept_million : AuditedOut plain (kept_last 1000000) [] 0 (kept_last 1000000)
  pub kept_past : AuditedOut plain (kept_last 1000001) [] 15 (kept_last 1000001)
  pub broken_million : AuditedOut plain (broken_last 1000000) [] 0 (broken_last 1000000)
  pub broken_past : AuditedOut plain (broken_last 1000001) [] 15 (broken_last 1000001)
  -- "a bad sheet's 1 to 10 come before that order's own numbers" (document 01), with their place; 15 has none
  pub bad_sheet_before_15 : AuditedOut letterless (counting 1000001 1) (1 ∷ []) 4 (counting 1000001 1)
  pub bad_sheet_placed : Audited letterless overfull (1 ∷ []) 4 3 overfull
  pub no_place_on_15 : Audited plain overfull [] 15 0 overfull
