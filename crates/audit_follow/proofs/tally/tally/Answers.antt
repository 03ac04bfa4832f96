-- `tally` meets its contract. Assumes nothing.
use Rattle.std.proofs.Common.{arith, ◌≡◌, ◌<◌}
use Rattle.rules.specs.Book.{steps_of}
use Rattle.audit_account.proofs.Tallies.{tallied-none, tallied-next, tallied-all, place-fits}
use Rattle.audit_follow.proofs.tally.tally.Goals as goal

pub loop-i-init : goal.loop-i-init
loop-i-init c = tallied-none _ _ _ _ _ _

pub tally_rule-some-requires : goal.tally_rule-some-requires
tally_rule-some-requires c =
    let few : c.loop-i.i < 255 = omega (arith, c.steps-i-end.ensures.few) in
    let fits = place-fits _ _ _ _ _ _ _ _ _ _ c.requires.0 c.requires.1 c.requires.2 c.loop-i.invariant few in
    (omega (arith, c.steps-i-end.ensures.number), fits.0, fits.1)

pub loop-i-preserved : goal.loop-i-preserved
loop-i-preserved c = tallied-next _ _ _ _ _ _ _ _ _ _ _ _ _ c.loop-i.invariant c.tally_rule-some.ensures

pub returns : goal.returns
returns c =
    let all : c.loop-i.i ≡ steps_of c.args.book.now = omega (arith, c.steps-i-end.ensures.number) in
    tallied-all c.loop-i.invariant all
