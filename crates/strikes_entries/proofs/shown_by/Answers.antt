-- The state of entry k may move wherever that of entry i may. Assumes nothing.
use Rattle.strikes_entries.proofs.Entries.{follows-at}
use Rattle.strikes_entries.proofs.shown_by.Goals as goal

pub returns-then-k-i : goal.returns-then-k-i
returns-then-k-i g c = λ e. follows-at c.if-k-i.true c.at.ensures c.at-then-k-i.ensures (c.freer.ensures e)
