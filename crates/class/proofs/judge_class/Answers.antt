-- `judge_class` meets its contract: what `fair` says decides, before any sheet is judged. Assumes nothing.
use Rattle.std.proofs.Common.{refl}
use Rattle.class_ends.specs.Class.{turned_away, in_turn}
use Rattle.class_ends.proofs.Ends.{fair-not-refused}
use Rattle.class.proofs.judge_class.Goals as goal

pub judge_all-requires : goal.judge_all-requires
judge_all-requires c = c.fair.ensures.yes c.if-fair.true

pub returns-then-fair : goal.returns-then-fair
returns-then-fair c = in_turn (fair-not-refused (c.fair.ensures.yes c.if-fair.true)) refl c.judge_all.ensures

pub returns : goal.returns
returns c = turned_away (c.fair.ensures.never c.if-fair.false) refl refl
