-- The orders by example: sentences of document 02's orders 1, 2, 4, 5 and 6, each tied to its numbers by an example from bytes, as the wall
-- and the corners do it for document 01 (crates/meaning/specs/Wall.antt, Corners.antt). Each example is a promise of a public call, of one
-- input and one outcome, all written out; that a promise leaves no other outcome is proved beside each (`..-unique`). One claim, proved in
-- proofs/Ordered.antt. Assumes nothing.
use Rattle.examples.specs.Places.{Places}
use Rattle.examples.specs.Logs.{Logs}
use Rattle.examples.specs.Classes.{Classes}
use Rattle.examples.specs.Fights.{Fights}
use Rattle.examples.specs.Leads.{Leads}

pub record Orders : Type 0 where
  -- order 1, "Tell the student which byte"
  pub places : Places
  -- order 2, "Audit a year's log"
  pub logs : Logs
  -- order 4, "The whole class in one call"
  pub classes : Classes
  -- order 5, "Which rules fight"
  pub fights : Fights
  -- order 6, "Sheets over the serial lead"
  pub leads : Leads
