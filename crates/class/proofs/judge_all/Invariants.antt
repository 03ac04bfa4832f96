-- The sheets before sheet i are judged in turn, and sheet i starts at `start`. Assumes nothing.
use Rattle.class.specs.Desks.{desk_of}
use Rattle.class.proofs.Parts.{Turning}
use Rattle.class.proofs.judge_all.Given as goal

abbrev pub invariant-loop-i : goal.invariant-loop-i
invariant-loop-i l =
    Turning l.sheets l.ends (desk_of l.initial.table l.initial.words l.initial.scratch l.initial.run l.initial.numbers) l.i l.start
    (desk_of l.table l.words l.scratch l.run l.numbers)
