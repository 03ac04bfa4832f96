-- The live rules listed one after the other. Assumes nothing.
use mathlib.Core.Path.{◌≡◌}
use mathlib.Core.List.{List}
use Prim.Native.Nat.{ℕ, ◌≤◌, ◌<◌}
use lib.ListN.{length, get_or}
use Rattle.ground.specs.Listed.{Has}
use Rattle.rules.specs.Book.{most_rules, steps_of}
use Rattle.rules_signs.specs.Live.{AsksAfter}

-- the live ones of the first i rules are listed
pub record Listed (book table : List ℕ) (r : ℕ) (live : List ℕ) (n i : ℕ) : Type 0 where
  pub long : length live ≡ most_rules
  pub fewer : n ≤ i
  pub reached : i ≤ steps_of book
  pub rules : (b : ℕ) → b < n → get_or live b 0 < steps_of book
  pub all : (j : ℕ) → j < i → (p : ℕ) → p < r → AsksAfter book table j p → Has live n j
