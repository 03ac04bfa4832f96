-- `watch::fall`: of the log's places from m up to g those without a witness have fallen.
use Rattle.watch.proofs.Falling.{Falling}
use Rattle.watch.proofs.fall.Given as goal

abbrev pub invariant-loop-g : goal.invariant-loop-g
invariant-loop-g l = Falling l.row l.word l.initial.words l.words l.initial.log l.log l.m l.end l.g
