-- `watch_along::rehang`, by the lemmas of `Rehanging`.
use Rattle.std.proofs.Common.{◌∙◌}
use Rattle.watch_along.proofs.Rehanging.{rehang-spreadable}
use Rattle.watch_along.proofs.rehang.Goals as goal

pub spread-requires : goal.spread-requires
spread-requires c =
    let pre = c.requires in
    rehang-spreadable _ _ _ _ _ _ _ _ pre.0 pre.1 pre.2 _ _ _ c.ask-n.ensures

pub returns : goal.returns
returns c = (
  c.spread.ensures.0 _ (c.ask-n.ensures.hanging _ c.requires.0 c.requires.1),
  c.spread.ensures.2 ∙ c.ask-n.ensures.line_long,
)
