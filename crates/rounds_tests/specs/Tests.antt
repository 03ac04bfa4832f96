-- Striking by tests of pairs of places: one phase, and what the rounds ask. Row 0 has the pointers of the dead ends. Assumes nothing.
use Rattle.std.specs.Prelude.{List, ℕ}
use Rattle.ground.specs.Listed.{Rises}
use Rattle.ground.specs.Wiping.{Zeros}
use Rattle.rules.specs.Table.{To}
use Rattle.rules_signs.specs.Signs.{Signed}
use Rattle.watch.specs.Witness.{Log}
use Rattle.ends_tests.specs.Phases.{Pointers, Unphased, DeadDone}
use Rattle.rounds.specs.Phases.{Strikable}
use Rattle.rounds.specs.Rows.{row_of, RoomForRows, RowLent, RowTurned}

-- a phase of this reason may be run
pub record RunnableByTests (book table words wit signs log line : List ℕ) (r reason word m from : ℕ) : Type 0 where
  pub lent : RowLent words wit (To book table) log line r reason m from
  pub signed : Signed book table r signs
  pub rises : Rises table r
  pub unphased : Unphased words r word
  pub log_is : Log words r log m
  pub pointers : Pointers book table words (row_of r 0 wit) r

-- it was run
abbrev pub TestsDone : (book table words words' wit wit' log log' : List ℕ) (r reason word m end : ℕ) → Type 0
TestsDone book table words words' wit wit' log log' r reason word m end =
    RowTurned (λ (row row' : List ℕ). DeadDone book table word words words' row row' log log' m end)
    words words' wit wit' (To book table) log log' r reason word m end

-- what the rounds by tests ask: the pointers are all 0 at first
pub record StrikableByTests (book table words : List ℕ) (r : ℕ) (signs wit log line : List ℕ) : Type 0 where
  pub asked : Strikable book table words r
  pub signed : Signed book table r signs
  pub roomed : RoomForRows book r wit log line
  pub pointers : Zeros wit r
