-- `fair` meets its contract: too many sheets, too little room, or what the test of the ends says. Assumes nothing.
use Rattle.class_ends.proofs.Ends.{fair-says}
use Rattle.class_ends.proofs.fair.Goals as goal

pub returns : goal.returns
returns c = fair-says c.if-n-gt-SHEETS.false c.if-room-needed.false c.cut.ensures
