-- The first i rows of the section stand. Assumes nothing.
use Rattle.reader.specs.Answer.{kind_of}
use Rattle.compile.specs.Compile.{Section}
use Rattle.compile.proofs.sections.section.Given as goal

abbrev pub invariant-loop-i : goal.invariant-loop-i
invariant-loop-i l = Section (kind_of l.kind) l.sheet l.initial.book l.book l.i l.at
