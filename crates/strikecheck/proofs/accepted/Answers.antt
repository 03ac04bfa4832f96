-- Lawful states are numbers of letters. Assumes nothing.
use Rattle.strikecheck.proofs.Conditions.{lawful-small}
use Rattle.strikecheck.proofs.accepted.Goals as goal

pub all_different-distinct-requires : goal.all_different-distinct-requires
all_different-distinct-requires g c =
    lawful-small (g.S.Part.items c.args.states) c.shaped.ensures (c.all_lawful.ensures.yes c.if-not-all_lawful.false)
