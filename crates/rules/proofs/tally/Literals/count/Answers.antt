-- The held letters that hold, and the others that do not. Assumes nothing.
use Rattle.std.proofs.Common.{rules, arith}
use Rattle.ground.specs.States.{state_bits}
use Rattle.ground.proofs.Ones.{ones-parted}
use Rattle.rules.specs.Book.{count_of}
use Rattle.rules.proofs.tally.Literals.count.Goals as goal

pub returns : goal.returns
unfolding count_of
returns c =
    let f = c.ranges in
    let parted = ones-parted state_bits c.args.s c.args.self.unheld f.s.fits (search rules) in
    omega (arith, parted)
