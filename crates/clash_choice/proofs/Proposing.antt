-- Numbers that may be proposed, tested one by one. Assumes nothing.
use mathlib.Core.Path.{◌≡◌}
use mathlib.Core.List.{List}
use Prim.Native.Nat.{ℕ, zero, suc, ◌≤◌, ◌<◌}
use native.Mathlib.Omega.{arith}
use lib.ListN.{length, get_or}
use Rattle.clash_choice.specs.Proposals.{Proposal}

-- the number before number i, and 0 before the first
abbrev pub number_before : List ℕ → ℕ → ℕ
number_before numbers zero = 0
number_before numbers (suc i) = get_or numbers i 0

-- the first i numbers are in order and in the sheet, and the last of them is `above`
pub record ProposedUpTo (rules : ℕ) (numbers : List ℕ) (i above : ℕ) : Type 0 where
  pub inside : i ≤ length numbers
  pub here : above ≡ number_before numbers i
  pub rise : (j : ℕ) → j < i → number_before numbers j < get_or numbers j 0
  pub most : (j : ℕ) → j < i → get_or numbers j 0 ≤ rules

-- A proposal for fewer rules is one for more.
pub proposal-wider : {m n : ℕ} {numbers : List ℕ} → m ≤ n → Proposal m numbers → Proposal n numbers
proposal-wider h p = record { least = p.least; most = λ j l. omega (arith, p.most j l); rising = p.rising }
