-- `plan_good` meets its contract: no mark stays set on a refusal. Assumes nothing.
use Rattle.std.proofs.Common.{refl}
use Rattle.clash.proofs.Answers.{refusal-told, planned-refused, planned-found}
use Rattle.clash.proofs.planner.plan_good.Goals as goal

pub returns-in-Ok : goal.returns-in-Ok
returns-in-Ok c = planned-found c.requires c.in-Ok.ensures refl c.clear.ensures

pub returns-in-Err : goal.returns-in-Err
returns-in-Err c = rw c.from.ensures (planned-refused c.requires c.in-Err.ensures (refusal-told c.in-Err.refusal) c.clear.ensures)
