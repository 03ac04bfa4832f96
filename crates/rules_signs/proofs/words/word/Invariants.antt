-- The bits of the rules before c are set as their test says. Assumes nothing.
use Rattle.rules_signs.specs.Live.{sign_test}
use Rattle.rules_signs.proofs.Marking.{Marked}
use Rattle.rules_signs.proofs.words.word.Given as goal

abbrev pub invariant-loop-c : goal.invariant-loop-c
invariant-loop-c l = Marked (sign_test l.ahead l.book l.live l.s) l.from l.n l.c l.x
