-- What the two ways of walking tell, along stored moves and by tests of pairs. Assumes nothing.
use Rattle.std.specs.Prelude.{◌≡◌, List, ℕ, Option, Some, None}
use Rattle.sample_walk.specs.declared.Steps.{Steps}
use Rattle.sample_walk.specs.Walk.{Walked}

-- what walking along stored moves tells: the run; or that they have no room, and then nothing is touched
abbrev pub WalkedAlong : (book words words' run run' : List ℕ) → Option Steps → Type 0
WalkedAlong book words words' run run' (Some steps) = Walked book words words' run run' steps.a steps.b
WalkedAlong book words words' run run' None = (words' ≡ words) × (run' ≡ run)
