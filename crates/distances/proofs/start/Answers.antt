-- One constructor for each way out.
use Rattle.std.proofs.Common.{◌∙◌, sym}
use Rattle.ground.proofs.Tests.{passes}
use Rattle.distances.specs.Values.{out, there, waits}
use Rattle.distances.proofs.start.Goals as goal

pub returns-then-word-ne0 : goal.returns-then-word-ne0
returns-then-word-ne0 c = out c.if-word-ne0.true

pub returns-then-kept : goal.returns-then-kept
returns-then-kept c = there c.if-word-ne0.false (sym c.kept.ensures ∙ c.if-kept.true)

pub returns-else-kept : goal.returns-else-kept
returns-else-kept c = waits c.if-word-ne0.false (λ g. passes _ (sym c.if-kept.false ∙ c.kept.ensures ∙ g))
