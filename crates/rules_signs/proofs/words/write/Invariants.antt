-- The first k words are written, and what stands before them is kept. Assumes nothing.
use Rattle.rules.specs.Rows.{KeptBelow}
use Rattle.rules_signs.specs.Words.{WordsOf}
use Rattle.rules_signs.specs.Live.{sign_test}
use Rattle.rules_signs.proofs.words.write.Given as goal

abbrev pub invariant-loop-k : goal.invariant-loop-k
invariant-loop-k l = record {
  words : WordsOf (sign_test l.ahead l.book l.live l.s) l.n l.k l.signs l.at;
  kept : KeptBelow l.at l.initial.signs l.signs;
}
