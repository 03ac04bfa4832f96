-- Striking along stored moves: one phase, and what the rounds ask. Assumes nothing.
use Rattle.std.specs.Prelude.{◌≡◌, List, ℕ, ◌≤◌, ◌<◌}
use Rattle.meaning.specs.Promises.{most_states}
use Rattle.moves.specs.Moves.{Forth, Back}
use Rattle.moves.specs.Layout.{Backed}
use Rattle.watch_along.specs.Along.{Woven}
use Rattle.watch_along.specs.Ends.{Ahead, Ended}
use Rattle.rounds.specs.Phases.{Strikable}
use Rattle.rounds.specs.Rows.{row_of, RoomForRows, RowLent, RowTurned}

-- a phase of this reason may be run
pub record RunnableAlong (words wit forth back log line : List ℕ) (r reason word m from : ℕ) : Type 0 where
  pub lent : RowLent words wit (Backed back) log line r reason m from
  pub some : 0 < word
  pub few : r ≤ most_states
  pub woven : Woven r forth back
  pub ahead : reason ≡ 0 → Ahead words (row_of r 0 wit) back log from m

-- it was run
abbrev pub TurnDone : (words words' wit wit' forth back log log' : List ℕ) (r reason word m end : ℕ) → Type 0
TurnDone words words' wit wit' forth back log log' r reason word m end =
    RowTurned (λ (row row' : List ℕ). Ended words words' row row' forth back log log' m end word)
    words words' wit wit' (Backed back) log log' r reason word m end

-- what is struck along stored moves: all reachable states, with their moves forth and back
pub record AlongStored (book table words : List ℕ) (r : ℕ) (forth back : List ℕ) : Type 0 where
  pub asked : Strikable book table words r
  pub onward : Forth book table r forth
  pub backward : Back book table r back

-- what the rounds along stored moves ask
pub record StrikableAlong (book table words : List ℕ) (r : ℕ) (forth back wit log line : List ℕ) : Type 0 where
  pub stored : AlongStored book table words r forth back
  pub roomed : RoomForRows book r wit log line
