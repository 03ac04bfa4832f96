-- The orders by example, as one claim. Assumes nothing.
use Rattle.examples.specs.Orders.{Orders}
use Rattle.examples.proofs.Placed.{the_places}
use Rattle.examples.proofs.Logged.{the-logs}
use Rattle.examples.proofs.Classed.{the-classes}
use Rattle.examples.proofs.Fought.{the-fights}
use Rattle.examples.proofs.Led.{the-leads}

-- Every example of the orders holds.
pub the-orders : Orders
the-orders = record { places = the_places; logs = the-logs; classes = the-classes; fights = the-fights; leads = the-leads }
