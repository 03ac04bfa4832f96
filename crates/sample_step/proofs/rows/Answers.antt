-- `sample_step::rows` meets its contract: zeros where there are no promises, else the promises' rows. Assumes nothing.
use Rattle.std.proofs.Common.{ℕ, ◌*◌, ◌≤◌, length, subst, arith}
use Rattle.ground.proofs.Wiping.{zeroed-front}
use Rattle.rules.proofs.Facts.{promises-are}
use Rattle.sample_step.proofs.Distances.{rowed-of-none}
use Rattle.sample_step.proofs.rows.Goals as goal

pub promise_rows-requires : goal.promise_rows-requires
promise_rows-requires c = (
  c.requires.0,
  c.promises-p.ensures.number,
  omega arith,
  subst (λ (y : ℕ). y * c.args.r ≤ length c.args.dist.now) (omega (arith, promises-are c.args.book.now)) c.requires.1,
  c.requires.2,
)

pub returns-then-p-eq0 : goal.returns-then-p-eq0
returns-then-p-eq0 c =
    let wiped = zeroed-front _ c.args.dist.now c.fill.new.self (omega arith) (c.fill.ensures.after (λ y e. e)) in
    record {
      rowed = rowed-of-none c.requires.0.states.livables (omega (arith, promises-are c.args.book.now)) wiped.zeros;
      long = wiped.long;
    }
